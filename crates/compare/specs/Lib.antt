-- What the program answers, and what it says where it can't.
pub mod Answering
pub mod CommandLine
pub mod Messages
