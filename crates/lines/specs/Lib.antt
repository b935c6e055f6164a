-- Lines of numbers, and how they are read byte by byte.
pub mod Spelling
pub mod Scanning
