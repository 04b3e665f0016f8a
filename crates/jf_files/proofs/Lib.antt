pub mod Numbered
pub mod Judging
pub mod Holding
pub mod Stepping
pub mod NewStore
mod Samples
