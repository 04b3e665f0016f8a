pub mod Files
pub mod Pairs
pub mod Laws
pub use Rattle.jf_disk.specs.Crashes
pub use Rattle.jf_disk.specs.Disk
pub use Rattle.jf_frame.specs.Framed
pub use Rattle.jf_frame.specs.Framing
pub use Rattle.jf_frame.specs.Logs
