-- What each export hands back.
pub mod Told
pub mod Radio
