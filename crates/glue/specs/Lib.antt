-- What the numbers in the lent slices stand for in the definitions of `meaning`.
pub mod Rows
pub mod Levels
pub mod Trees
