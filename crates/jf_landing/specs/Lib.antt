pub mod Scanned
pub use Rattle.jf_path.specs.Keys
pub use Rattle.jf_path.specs.Limits
pub use Rattle.jf_path.specs.Names
pub use Rattle.jf_payload.specs.Spelling
pub use Rattle.jf_standing.specs.Landing
