-- The laws of the purge, and the proofs of its claims.
pub mod Counts
pub mod Stores
pub mod Moves
pub mod Keeping
pub mod Headers
pub mod Sliding
pub mod Moving
pub mod Purging
pub mod Refusals
pub mod Whole
pub mod Answers
pub mod Parting
pub mod Worked
pub mod Claims
