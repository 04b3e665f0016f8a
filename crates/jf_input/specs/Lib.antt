pub mod Feeds
pub mod FeedsThrough
pub use Rattle.jf_path.specs.Faults
pub use Rattle.jf_io.specs.Lines
pub use Rattle.jf_io.specs.LinesRead
pub use Rattle.jf_io.specs.Sink
pub use Rattle.jf_text.specs.Words
