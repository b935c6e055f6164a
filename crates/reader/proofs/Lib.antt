-- What is met in a part of the words is met in the whole.
pub mod HandedOn
mod Frames
mod Grammar
mod TwoParts
mod OnePart
mod TestGrammar
mod ProgramGrammar
mod HeadFaults
mod NoHeads
pub mod TestsRead
pub mod ProgramsRead
pub mod Excluded
mod PairFaults
pub mod OneFault
mod OneAnswer
