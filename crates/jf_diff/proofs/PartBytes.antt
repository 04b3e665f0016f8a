-- The bytes of parts, one after another.
use Rattle.std.proofs.Common.{◌≡◌, ℕ, ◌+◌, ◌<◌, List, [], ◌∷◌, ◌++◌, length, take, drop, get_or, sym, ap, ◌∙◌, take-append-drop}
use Rattle.std.proofs.lemmas.List.{append-nil, at_drop_more, take_more}
use Rattle.std.proofs.lemmas.List.Concat.{flat_map-append}
use Rattle.std.specs.List.{flat_map}

module _ {X Y : Type 0} (spell : X → List Y) (parts : List (List X)) (i : ℕ) (part : List X) (lt : i < length parts) where
  abbrev bytes_of : List (List X) → List Y
  bytes_of ps = flat_map spell (flat_map (λ p. p) ps)

  joined : (ps qs : List (List X)) → bytes_of (ps ++ qs) ≡ bytes_of ps ++ bytes_of qs
  joined ps qs = ap (flat_map spell) (flat_map-append (λ p. p) ps qs) ∙ flat_map-append spell (flat_map (λ p. p) ps) (flat_map (λ p. p) qs)

  -- the bytes of one part more
  pub parts_more : part ≡ get_or parts i part → bytes_of (take (i + 1) parts) ≡ bytes_of (take i parts) ++ flat_map spell part
  parts_more is =
      ap bytes_of (take_more parts i part lt) ∙ joined (take i parts) (get_or parts i part ∷ [])
      ∙ ap (λ xs. bytes_of (take i parts) ++ flat_map spell xs) (append-nil (get_or parts i part) ∙ sym is)

  -- the bytes of all: those before the part, those of the part, and those after it
  pub parts_split : part ≡ get_or parts i part → bytes_of parts ≡ bytes_of (take i parts) ++ (flat_map spell part ++ bytes_of (drop (i + 1) parts))
  parts_split is =
      ap bytes_of (sym (take-append-drop i parts)) ∙ joined (take i parts) (drop i parts)
      ∙ ap (λ ys. bytes_of (take i parts) ++ ys) (at_drop_more bytes_of parts i part lt ∙ flat_map-append spell (get_or parts i part) _ ∙ ap (λ xs. flat_map spell xs ++ bytes_of (drop (i + 1) parts)) (sym is))
