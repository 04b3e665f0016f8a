pub mod Words
pub use Rattle.jf_path.specs.Limits
