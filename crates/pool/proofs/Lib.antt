-- Laws over plain lists and numbers; the folders beside prove the functions with them. What other crates cite is `pub mod`.
mod Signs
mod Operands
mod Parts
mod Laying
mod Taking
mod Slices
mod Reading
pub mod Unique
