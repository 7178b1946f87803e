-- Document 02, A1: ids as a line of text.
pub mod Line
pub mod Reader
pub mod Writer
pub mod Claims
pub mod Worked
pub mod Told
pub mod Parts
