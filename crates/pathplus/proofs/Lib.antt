pub mod Writing
mod Asking
mod Numbers
pub mod OfRows
mod Pairs
pub mod Unique
