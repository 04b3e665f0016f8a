pub mod FirstRead
pub mod Gathering
pub mod Given
pub mod Progress
pub mod ProgressThrough
pub mod PutThrough
