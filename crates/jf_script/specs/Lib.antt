pub mod Commands
pub mod Replies
pub mod Bounds
pub use Rattle.jf_path.specs.Limits
pub use Rattle.jf_text.specs.Words
