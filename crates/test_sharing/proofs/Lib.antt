pub mod Gathering
pub mod Places
