use Rattle.std.proofs.Common.{◌≡◌, ◌∙◌, ℕ, ◌<◌, List, [], ◌∷◌, false, sym, subst, T, arith}
use Rattle.std.specs.List.{AllByRecursion}
use Rattle.jf_path.specs.Keys.{bit}
use Rattle.jf_hash.specs.Roots.{Leaf}
use Rattle.jelly.proofs.Leaves.{keys-of_entries}
use Rattle.jelly.proofs.root.jelly_root.Goals as goal

-- leaves agree in no bits
in_none : (ls : List Leaf) → AllByRecursion (λ l. (i : ℕ) → i < 0 → bit l.0 i ≡ false) ls
in_none [] = tt
in_none (l ∷ ls) = (λ i lt. absurd (omega arith), in_none ls)

pub part_root-requires : goal.part_root-requires
part_root-requires c = record { part = record { sorted = subst T (sym c.if-not-are_sorted.false ∙ c.are_sorted.ensures) tt; keys = keys-of_entries c.args.entries.now c.know_entries.ensures; path = λ i. false; agree = in_none _ } }
