-- What the promises of `burst` cite beyond the rules.
pub mod Told
