use Rattle.std.proofs.Common.{ℕ, ◌<◌, suc, List, [], ◌∷◌, slice_index}
use Rattle.jf_path.specs.Keys.{IsBytes}
use Rattle.jf_path.proofs.laws.know_bytes.Goals as goal

each_byte : (bytes : List ℕ) → ((i : ℕ) → slice_index bytes i < 256) → IsBytes bytes
each_byte [] h = tt
each_byte (b ∷ bytes) h = (h 0, each_byte bytes (λ i. h (suc i)))

pub returns : goal.returns
returns c = each_byte c.args.bytes.now c.know_each.ensures
