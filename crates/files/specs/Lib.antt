-- What an answer of `files` tells.
pub mod Opened
