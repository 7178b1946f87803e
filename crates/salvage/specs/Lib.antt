-- Document 02, A12: salvage. Salvage has the definitions, Claims the demands as statements, Worked an example worked out by hand, and Told what the code's answers
-- stand for.
pub mod Salvage
pub mod Claims
pub mod Worked
pub mod Told
