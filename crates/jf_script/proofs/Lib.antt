pub mod ManyWords
pub mod Texts
pub mod ReplyTexts
pub mod Samples
pub mod EachCommand
pub mod BoundLaws
