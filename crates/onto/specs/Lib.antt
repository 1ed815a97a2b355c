pub mod Left
pub mod Onto
