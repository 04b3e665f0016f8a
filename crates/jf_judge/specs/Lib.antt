pub mod JudgedReplies
pub use Rattle.jf_path.specs.Faults
pub use Rattle.jf_io.specs.Sink
pub use Rattle.jf_text.specs.Words
pub use Rattle.jf_ask.specs.Lookups
