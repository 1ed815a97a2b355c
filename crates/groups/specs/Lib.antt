pub mod Put
pub mod Filled
