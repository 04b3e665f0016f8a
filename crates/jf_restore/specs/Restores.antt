-- What adding a chunk changes in a restore, and when a restore is whole.
use Rattle.std.specs.Prelude.{◌≤◌, length, ◌++◌, ◌≡◌, None, Some, ◌≢◌, ℕ}
use Rattle.std.specs.List.{AllByRecursion}
use Rattle.jf_path.specs.Limits.{max_value}
use Rattle.jf_hash.specs.Roots.{part_root}
use Rattle.jf_evidence.specs.Ranges.{Entries, range_refusal}
use Rattle.jf_evidence.specs.declared.range_proof.RangeProof.{RangeProof}
use Rattle.jf_evidence.specs.declared.range_proof.RangeFault.TheVariants as fault
use Rattle.jf_restore.specs.RestoreValue.{RestoreValue}
use Rattle.jf_restore.specs.declared.refused.RestoreRefused.{RestoreRefused}
use Rattle.jf_restore.specs.declared.refused.RestoreRefused.TheVariants as refused

-- each value has at most 4,096 bytes
abbrev pub HaveShortValues : Entries → Type 0
HaveShortValues es = AllByRecursion (λ e. length e.1 ≤ max_value) es

-- the restore with more entries after its own
abbrev pub with_more : RestoreValue → Entries → RestoreValue
with_more r es = record { version = r.version; root = r.root; entries = r.entries ++ es }

-- the chunk is accepted after the entries before, and its entries stand after them
pub record IsAdded (old new : RestoreValue) (fresh : Entries) (proof : RangeProof) : Type 0 where
  pub accepted : range_refusal old.root old.entries fresh proof ≡ None
  pub whole : new ≡ with_more old fresh

-- the chunk is refused, or it is accepted and there is no memory for its entries; and the restore is unchanged
abbrev pub IsNotAdded : RestoreValue → RestoreValue → Entries → RangeProof → RestoreRefused → Type 0
IsNotAdded old new fresh proof (refused.Chunk why) = (range_refusal old.root old.entries fresh proof ≡ Some why) × (new ≡ old)
IsNotAdded old new fresh proof (refused.NotWhole found) = ⊥
IsNotAdded old new fresh proof (refused.Engine why) = ⊥
IsNotAdded old new fresh proof refused.Memory = (range_refusal old.root old.entries fresh proof ≡ None) × (new ≡ old)

-- the chunk is refused by a check that comes before the last one, for which alone it is hashed
abbrev pub IsUnhashed : RestoreRefused → Type 0
IsUnhashed (refused.Chunk why) = why ≢ fault.WrongRoot
IsUnhashed (refused.NotWhole found) = ⊥
IsUnhashed (refused.Engine why) = ⊥
IsUnhashed refused.Memory = ⊥

-- there are `count` entries, and they result in the announced root
abbrev pub IsWhole : RestoreValue → ℕ → Type 0
IsWhole r count = (count ≡ length r.entries) × (part_root 0 r.entries ≡ r.root)

-- the entries result in another root
abbrev pub IsNotWhole : RestoreValue → RestoreRefused → Type 0
IsNotWhole r (refused.Chunk why) = ⊥
IsNotWhole r (refused.NotWhole found) = (found ≡ part_root 0 r.entries) × (found ≢ r.root)
IsNotWhole r (refused.Engine why) = ⊥
IsNotWhole r refused.Memory = ⊥
