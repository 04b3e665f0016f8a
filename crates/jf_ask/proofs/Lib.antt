pub mod FirstLine
pub mod PartsBlock
pub mod Believed
