pub mod Tables
pub mod Nodes
pub mod Unique
