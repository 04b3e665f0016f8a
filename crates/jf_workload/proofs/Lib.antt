pub mod LinesDone
pub mod SamePass
pub mod ScriptAlone
