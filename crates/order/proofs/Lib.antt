-- The way through, from below: comparisons and keys; the links that hold forests, and putting a tree into its place; the table's tree, and its lists in
-- the order of the table (Gathering) or in byte order (Below, Placing); rows that show a tree. Then rows as a table themselves.
pub mod Comparing
pub mod Keys
pub mod Links
pub mod Inserting
pub mod Records
pub mod Growing
pub mod QueryTable
pub mod Gathering
pub mod Below
pub mod Placing
pub mod LaidOut
pub mod RowsTable
