pub mod ChangeLaws
pub mod EntryLaws
pub mod ForkLaws
pub mod NodeLaws
pub mod StateLaws
pub mod VersionLaws
pub mod ForkLists
