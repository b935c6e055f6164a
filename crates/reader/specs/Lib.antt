-- What it means to read words, and to refuse them. What a caller of `read_pair` must believe is in the first three.
pub mod Limits
pub mod Faults
pub mod Reading
pub mod Texts
pub mod Heads
pub mod Parts
