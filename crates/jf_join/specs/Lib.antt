pub mod Answers
pub use Rattle.jf_path.specs.Limits
