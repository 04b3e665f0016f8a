pub mod Ends
pub mod Sending
