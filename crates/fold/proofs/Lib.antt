pub mod Whole
mod Moved
pub mod Unique
