pub mod Put
pub mod Filled
pub mod Number
