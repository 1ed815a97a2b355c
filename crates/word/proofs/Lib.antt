-- Laws over plain lists and numbers; the folders beside prove the functions with them. What other crates cite is `pub mod`.
pub mod Numbers
pub mod Signs
pub mod Run
pub mod Accepted
pub mod Unique
mod Outcomes
mod Reading
mod Counting
mod Checking
