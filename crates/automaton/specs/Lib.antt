-- What the tables of an automaton say, and its sets of places. To be read in this order.
pub mod Atoms
pub mod Rows
pub mod Tables
pub mod Reading
pub mod Sets
pub mod Building
