-- The proofs of the theory, by topic. Theory puts them together.
pub mod BitLaws
pub mod BitOperations
pub mod Truth
mod Walks
mod TracesDecide
mod TellingShows
mod KnownTraces
mod Laws
pub mod Sides
mod Runs
pub mod PlacesWithin
pub mod Sets
mod Examples
pub mod UniqueReading
pub mod Theory
