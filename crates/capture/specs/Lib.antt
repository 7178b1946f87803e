-- Captures from the switch: document 02, A6, as definitions over lists of bytes. Each file builds on those before it.
pub mod File
pub mod Frame
pub mod Reading
pub mod Writing
pub mod Twins
pub mod Told
pub mod Claims
pub mod Worked
