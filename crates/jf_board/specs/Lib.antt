pub mod Rule
pub mod Steps
pub mod States
pub mod Refusals
pub mod Scans
pub use Rattle.jf_path.specs.Limits
