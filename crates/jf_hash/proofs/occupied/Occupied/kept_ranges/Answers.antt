use Rattle.std.proofs.Common.{◌≡◌, ◌∙◌, ap, refl, arith, List, ℕ, [], ◌∷◌, ◌++◌, false, map, is_some, length, take, drop, take_all, length-drop}
use Rattle.std.proofs.lemmas.List.{length-map}
use Rattle.jf_hash.specs.Ranges.{kept_within}
use Rattle.jf_hash.proofs.RangeLaws.{length-kept_within}
use Rattle.jf_hash.proofs.Present.{bits-all}
use Rattle.jf_hash.proofs.occupied.Occupied.kept_ranges.Goals as goal

pub returns : goal.returns
returns c slots long children leaves =
    let lefts = map (is_some {T = List ℕ}) (kept_within 3 (take 8 slots)) in
    let left = c.mark.ensures slots 3 [] (omega arith) refl long children leaves refl c.none-kept.ensures in
    let long_left : length lefts ≡ 7 = length-map (kept_within 3 (take 8 slots)) is_some ∙ (let n = length-kept_within 3 (take 8 slots) in omega (arith, n)) in
    let right = c.mark-2.ensures slots 3 lefts (omega arith) refl long children leaves long_left left in
    let last : take 8 (drop 8 slots) ≡ drop 8 slots = take_all 8 (drop 8 slots) (omega (arith, long, length-drop 8 slots)) in
    right ∙ ap (λ xs. (lefts ++ map is_some (kept_within 3 xs)) ++ false ∷ false ∷ []) last ∙ bits-all slots
