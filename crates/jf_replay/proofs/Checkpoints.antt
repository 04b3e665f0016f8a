-- The generation of a checkpoint.
use Rattle.std.proofs.Common.{◌≡◌, ℕ, List, sym}
use Rattle.jf_frame.specs.Framing.{number_of}
use Rattle.jf_codec.specs.declared.format.Format.{Format}
use Rattle.jf_payload.specs.Spelling.{IsSpelling}
use Rattle.jf_payload.specs.declared.records.Record.TheVariants as «record»
use Rattle.jf_standing.specs.Named.{NamedNode}
use Rattle.jf_files.specs.Laws.{CheckpointsAreNumbered}

-- the number at the front of a checkpoint's payload is its generation
pub generation_first : (fmt : Format) (generation base floor head : ℕ) (roots : List (List ℕ)) (nodes : List NamedNode) → CheckpointsAreNumbered
    → (kind : ℕ) (payload : List ℕ) → IsSpelling fmt («record».Checkpoint generation base floor head roots nodes) kind payload → generation ≡ number_of payload
generation_first fmt generation base floor head roots nodes numbered kind payload is = sym (numbered fmt generation base floor head roots nodes (record { kind = kind; offset = 0; payload = payload }) is).1
