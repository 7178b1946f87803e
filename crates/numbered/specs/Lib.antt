-- Document 02, A10: running sequence numbers (Numbering), and the copy of the messages within a quota, numbered on from them (Quota).
-- Parts and Told say what the code's functions and answers stand for.
pub mod Numbering
pub mod Quota
pub mod Parts
pub mod Told
