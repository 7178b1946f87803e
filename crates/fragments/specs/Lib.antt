-- Fragments of messages, as definitions over lists of bytes: how a message is cut into them, how they are joined, and what is demanded of both.
pub mod Fragment
pub mod Cutting
pub mod Joining
pub mod Claims
pub mod Worked
pub mod Stored
pub mod Told
