-- What the lent slices hold: the pending operands, and what a sign makes of the latest.
pub mod Pool
pub mod Latest
