-- The laws of windows, and the proofs of the claims.
pub mod Windows
pub mod Worked
pub mod Lengths
pub mod Claims
pub mod Handing
