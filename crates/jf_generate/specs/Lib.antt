pub mod Scripts
pub mod Places
pub mod Reports
pub use Rattle.jf_path.specs.Numbers
pub use Rattle.jf_text.specs.Words
pub use Rattle.jf_script.specs.Replies
