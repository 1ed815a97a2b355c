mod Text
mod Forms
pub mod Room
pub mod Unique
