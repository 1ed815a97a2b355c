pub mod Answer
pub mod Pair
