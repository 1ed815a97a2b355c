pub mod Joining
pub mod Factors
