pub mod Places
pub mod MarkLaws
pub mod NameLaws
pub mod GroupLaws
pub mod GroupMarks
