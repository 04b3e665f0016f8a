pub mod Places
pub mod Merges
pub mod Views
pub mod Histories
