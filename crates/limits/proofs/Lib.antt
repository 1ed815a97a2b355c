-- What other crates cite is `pub mod`.
pub mod Unique
