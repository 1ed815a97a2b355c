-- The theorems. Index lists the final statements; each other file proves what its name says.

-- The worked cases, and documents
pub mod Cases
pub mod Document
-- Gluing gives the plain tree query
pub mod Look
pub mod Labels
pub mod Levels
pub mod Merge
pub mod Gluing
pub mod Depth
pub mod Join
pub mod Apart
pub mod Plain
-- A table and the tree read off it
pub mod Count
pub mod Children
pub mod Back
pub mod Bridge
pub mod Weigh
pub mod Entries
pub mod Tables
-- Folding
pub mod Folding
pub mod Removal
pub mod Minimal
pub mod Unique
pub mod Order
pub mod Marks
pub mod Canon
-- Bytes
pub mod ByteOrder
pub mod Numbers
pub mod Records
-- The normal form
pub mod Ways
pub mod Run
pub mod Normal
pub mod Steps
pub mod Factors
pub mod Operands
pub mod Limits
-- Words
pub mod Reread
pub mod Accepted
pub mod Refused
-- The demands
pub mod Same
pub mod Least
pub mod Again
pub mod Bits
pub mod Pair
pub mod Once
pub mod Promise
pub mod Idle
pub mod Program
pub mod Index
