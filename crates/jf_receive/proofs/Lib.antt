pub mod LineByLine
pub mod Deciding
pub mod LongLines
mod NoMemory
mod RestoredLaws
mod LinesTaken
mod BlocksRead
mod Outcomes
