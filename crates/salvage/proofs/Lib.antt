-- The laws of a salvage, and the proofs of the claims.
pub mod Pieces
pub mod Cover
pub mod Gaps
pub mod Worked
pub mod Claims
pub mod Ending
pub mod Growing
pub mod Skips
pub mod Surveying
pub mod Delivering
pub mod Answering
pub mod Same
