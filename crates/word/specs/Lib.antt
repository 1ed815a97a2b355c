-- What the answers of this crate stand for in the definitions of `meaning`.
pub mod Sign
pub mod Answer
pub mod Cursor
