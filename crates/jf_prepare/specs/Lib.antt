pub mod PreparedLines
pub mod PreparedPuts
pub use Rattle.jf_hash.specs.Hashes
pub use Rattle.jf_text.specs.Words
pub use Rattle.jf_script.specs.Commands
