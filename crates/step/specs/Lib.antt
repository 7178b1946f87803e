-- Document 02, A10: long recordings by quota. Step is the rule, made of `numbered`'s definitions, Claims the demands on it, Table its numbers to check by;
-- Told says what the code's state and answer stand for.
pub mod Step
pub mod Claims
pub mod Table
pub mod Told
