pub mod Laws
pub use Rattle.jf_path.specs.Keys
pub use Rattle.jf_path.specs.Paths
pub use Rattle.jf_hash.specs.Maps
pub use Rattle.jf_hash.specs.Slots
pub use Rattle.jf_model.specs.Nodes
pub use Rattle.jf_model.specs.Walk
