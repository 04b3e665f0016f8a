pub mod Digits
pub mod LongTexts
pub mod VerdictLines
pub mod Taken
