pub mod Brothers
pub mod Left
pub mod Onto
pub mod Unique
