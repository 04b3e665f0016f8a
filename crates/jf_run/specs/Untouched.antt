-- Where a mode that is done over an open store makes no call on source or sink.
use Rattle.std.specs.Prelude.{◌≡◌, ℕ, List, IsTrue}
use Rattle.jf_receive.specs.declared.received.RestoreFault.TheVariants as restore_fault
use Rattle.jf_words.specs.Shapes.{ByImport, NoInput, Shape, ToItsEnd}
use Rattle.jf_run.specs.Statuses.{is_input_fault}
use Rattle.jf_run.specs.declared.status.Status.{Status}
use Rattle.jf_run.specs.declared.status.Status.TheVariants as status

-- what a mode of this shape leaves as it was, by how it ended: the source, if it reads no input; the sink, if it reads its input to the end
-- and that failed, was too large or was refused; both, if it was to restore into a store in use, if it reads its input to the end and was
-- asked for a version outside, or if the store doesn't have the root that was announced
pub record LeavesUntouched {S K : Type 0} (shape : Shape) (how : Status) (source source' : S) (sink sink' : K) : Type 0 where
  pub unread : shape.reading ≡ NoInput → source' ≡ source
  pub unwritten : shape.reading ≡ ToItsEnd → IsTrue (is_input_fault how) → sink' ≡ sink
  pub occupied : shape.changes ≡ ByImport → (head : ℕ) → how ≡ status.Refused (restore_fault.NotEmpty head) → (source' ≡ source) × (sink' ≡ sink)
  pub outside : shape.reading ≡ ToItsEnd → (least head : ℕ) → how ≡ status.Outside least head → (source' ≡ source) × (sink' ≡ sink)
  pub elsewhere : (head : ℕ) (root : List ℕ) → how ≡ status.Elsewhere head root → (source' ≡ source) × (sink' ≡ sink)
