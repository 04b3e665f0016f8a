-- Whether an item may be added at the end of a list depends on the last item alone.
use Rattle.std.specs.Prelude.{slice_get}
use Rattle.std.proofs.Common.{◌≡◌, Bool, true, false, ◌&&◌, refl, ℕ, zero, suc, ◌+◌, List, [], ◌∷◌, ◌++◌, map, length, Some, ap, ◌∙◌, is_lt, arith, ◌-◌, sym, ◌==◌}
use Rattle.std.proofs.lemmas.Option.{same_Some, slice_get_within}
use Rattle.jf_path.specs.Names.{are_rising, name_cmp}
use Rattle.jf_path.specs.declared.name.NodeName.{NodeName}
use Rattle.jf_path.proofs.BoolLaws.{right_true, and_true}
use Rattle.jf_payload.specs.declared.records.Commit.{Commit}
use Rattle.jf_payload.specs.Spelling.{are_consecutive}

second_alone : (a b c : Bool) → (a && b) ≡ true → (a && c) ≡ c
second_alone true b c e = refl
second_alone false b c e = absurd cc

-- ---- names
module _ {X : Type 0} (name : X → NodeName) (x : X) where
  after : (xs : List X) (n : ℕ) (last : X) → slice_get xs n ≡ Some last → suc n ≡ length xs → are_rising (map name xs) ≡ true → are_rising (map name (xs ++ x ∷ [])) ≡ is_lt (name_cmp (name last) (name x))
  after [] n last there long up = absurd cc
  after (y ∷ []) zero last there long up = and_true _ ∙ ap (λ (z : X). is_lt (name_cmp (name z) (name x))) (same_Some y last there)
  after (y ∷ []) (suc n) last there long up = absurd (omega arith)
  after (y ∷ z ∷ xs) zero last there long up = absurd (omega arith)
  after (y ∷ z ∷ xs) (suc n) last there long up =
      second_alone _ _ _ up ∙ after (z ∷ xs) n last there (omega arith) (right_true _ _ up)

  pub are_rising-after : (xs : List X) (last : X) → slice_get xs (length xs - 1) ≡ Some last → are_rising (map name xs) ≡ true → are_rising (map name (xs ++ x ∷ [])) ≡ is_lt (name_cmp (name last) (name x))
  are_rising-after xs last there up =
      let within = slice_get_within xs (length xs - 1) last there in
      after xs (length xs - 1) last there (omega arith) up

-- a map that changes no name
names-map : (names : List NodeName) → map (λ n. n) names ≡ names
names-map [] = refl
names-map (n ∷ names) = ap (λ (ns : List NodeName). n ∷ ns) (names-map names)

pub names-after : (x : NodeName) (xs : List NodeName) (last : NodeName) → slice_get xs (length xs - 1) ≡ Some last → are_rising xs ≡ true → are_rising (xs ++ x ∷ []) ≡ is_lt (name_cmp last x)
names-after x xs last there up =
    ap are_rising (sym (names-map (xs ++ x ∷ []))) ∙ are_rising-after (λ n. n) x xs last there (ap are_rising (names-map xs) ∙ up)

-- ---- versions
follows : (c : Commit) (cs : List Commit) (n : ℕ) (last : Commit) → slice_get cs n ≡ Some last → suc n ≡ length cs → are_consecutive cs ≡ true → are_consecutive (cs ++ c ∷ []) ≡ (c.version == last.version + 1)
follows c [] n last there long up = absurd cc
follows c (d ∷ []) zero last there long up = and_true _ ∙ ap (λ (z : Commit). c.version == z.version + 1) (same_Some d last there)
follows c (d ∷ []) (suc n) last there long up = absurd (omega arith)
follows c (d ∷ e ∷ cs) zero last there long up = absurd (omega arith)
follows c (d ∷ e ∷ cs) (suc n) last there long up = second_alone _ _ _ up ∙ follows c (e ∷ cs) n last there (omega arith) (right_true _ _ up)

pub follow-after : (c : Commit) (cs : List Commit) (last : Commit) → slice_get cs (length cs - 1) ≡ Some last → are_consecutive cs ≡ true → are_consecutive (cs ++ c ∷ []) ≡ (c.version == last.version + 1)
follow-after c cs last there up =
    let within = slice_get_within cs (length cs - 1) last there in
    follows c cs (length cs - 1) last there (omega arith) up
