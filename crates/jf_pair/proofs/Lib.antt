pub mod First
pub mod FirstRecord
pub mod Opened
pub mod Appended
pub mod Switched
pub mod FileLaws
pub mod PairLaws
