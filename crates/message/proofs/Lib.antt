-- The laws that the proofs of the functions of `message` cite.
pub mod Tests
pub mod Checks
pub mod Opts
pub mod Left
pub mod Pieces
pub mod Moved
pub mod Headers
pub mod Messages
pub mod Same
pub mod Agrees
pub mod Fronts
