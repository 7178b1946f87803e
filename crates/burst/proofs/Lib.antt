-- The laws that the proofs of the functions of `burst` cite.
pub mod Buffer
pub mod Answers
pub mod Claims
