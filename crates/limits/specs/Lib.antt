-- What the refusals of this crate stand for in the definitions of `meaning`.
pub mod Refusal
