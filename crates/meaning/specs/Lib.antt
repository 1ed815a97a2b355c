-- The meaning of document 01 and of the Path+ paper, in the order in which it is read.
pub mod Basics
pub mod Document
pub mod Expression
pub mod TreeQuery
pub mod Gluing
pub mod Tree
pub mod Folding
pub mod Limits
pub mod Number
pub mod Image
pub mod Normal
pub mod Word
pub mod Matching
pub mod Promise
pub mod Program
