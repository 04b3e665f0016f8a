pub use Rattle.jf_hash.specs.Roots
pub use Rattle.jf_evidence.specs.Proofs
