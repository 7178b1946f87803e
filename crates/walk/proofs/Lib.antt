-- The laws that the proofs of the functions of `walk` cite.
pub mod Found
pub mod Same
