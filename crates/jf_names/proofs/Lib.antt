pub mod OrderedEntries
pub mod NamesLaws
pub mod BlockLaws
pub mod NameLineLaws
