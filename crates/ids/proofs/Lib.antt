-- The laws of a line of ids, and the proofs of the claims.
pub mod Digits
pub mod Items
pub mod Lists
pub mod Ranges
pub mod Spelling
pub mod Lines
pub mod Worked
pub mod Claims
pub mod Counting
pub mod Steps
pub mod Reading
pub mod Ends
pub mod Writing
pub mod Same
