-- A list that begins with what was there before.
use Rattle.std.proofs.Common.{◌≡◌, List, [], ◌∷◌, ◌++◌, length, take, drop, sym, ap, ◌∙◌, append_assoc}
use Rattle.std.proofs.lemmas.List.{take-append-drop}
use Rattle.std.proofs.Math.Seq.{take-append_seam}

module _ {X : Type 0} where
  pub front-push : (out now : List X) (x : X) → now ≡ out ++ x ∷ [] → take (length out) now ≡ out
  front-push out now x is = ap (take (length out)) is ∙ take-append_seam out (x ∷ [])

  -- what begins with a list that begins with another begins with the other
  pub front-through : (out mid now : List X) → take (length out) mid ≡ out → take (length mid) now ≡ mid → take (length out) now ≡ out
  front-through out mid now front further =
      let more = drop (length out) mid in
      let rest = drop (length mid) now in
      let middle : mid ≡ out ++ more = sym (take-append-drop (length out) mid) ∙ ap (λ t. t ++ more) front in
      let whole : now ≡ out ++ (more ++ rest) = sym (take-append-drop (length mid) now) ∙ ap (λ t. t ++ rest) (further ∙ middle) ∙ append_assoc out more rest in
      ap (take (length out)) whole ∙ take-append_seam out (more ++ rest)
