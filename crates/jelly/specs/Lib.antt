pub mod Answers
pub mod Claims
pub mod MapRoots
