pub mod Forms
pub mod Weights
