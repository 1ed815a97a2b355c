pub mod Joining
pub mod Covers
pub mod Chains
