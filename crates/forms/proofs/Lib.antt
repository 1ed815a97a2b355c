mod Fitting
pub mod Forms
pub mod Unique
