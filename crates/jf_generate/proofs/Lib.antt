pub mod ScriptLaws
pub mod ReplyKinds
pub mod Samples
