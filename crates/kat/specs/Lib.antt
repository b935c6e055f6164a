-- Kleene algebra with tests: what programs are, what they mean, how they run through their places, how they are written as
-- words, and what is true of them.
-- To be read in this order.
pub mod Bits
pub mod Programs
pub mod Traces
pub mod Senses
pub mod Automata
pub mod Places
pub mod Acceptors
pub mod Words
pub mod Theory
pub mod Examples
