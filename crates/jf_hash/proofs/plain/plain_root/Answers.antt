use Rattle.std.proofs.Common.{arith, ◌≡◌, ℕ, ◌<◌, false, List, [], ◌∷◌}
use Rattle.std.specs.List.{AllByRecursion}
use Rattle.jf_path.specs.Keys.{bit}
use Rattle.jf_hash.specs.Roots.{Leaf}
use Rattle.jf_hash.proofs.plain.plain_root.Goals as goal

none : (es : List Leaf) → AllByRecursion (λ e. (i : ℕ) → i < 0 → bit e.0 i ≡ false) es
none [] = tt
none (e ∷ es) = (λ i lt. absurd (omega arith), none es)

pub part_root-requires : goal.part_root-requires
part_root-requires c = record { part = record { sorted = c.requires; keys = c.know_entries.ensures; path = λ i. false; agree = none c.args.entries.now } }
