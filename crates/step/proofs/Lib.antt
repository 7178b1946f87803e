-- The laws of the steps and the proofs of the claims.
pub mod Released
pub mod States
pub mod Ids
pub mod Steps
pub mod Runs
pub mod Measured
pub mod Table
pub mod Refusals
pub mod Windows
pub mod Claims
pub mod Whole
pub mod Same
