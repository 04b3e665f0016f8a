pub mod Groups
pub mod Marks
pub use Rattle.jf_path.specs.Names
