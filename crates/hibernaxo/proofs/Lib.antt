-- The laws that the proofs of the functions of `hibernaxo` cite.
pub mod Answered
pub mod Buffers
pub mod Stored
pub mod States
pub mod Within
