-- Laws of the normal form and of its weight; the folders beside prove the functions with them.
mod Around
mod Marks
mod Writing
mod Forms
mod Weights
mod Counting
