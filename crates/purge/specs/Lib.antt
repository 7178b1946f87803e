-- Document 02, request A9: the purge in the buffer, its demands as statements, and what the parts of the code come to.
pub mod Purge
pub mod Parted
pub mod Worked
pub mod Claims
pub mod Parts
