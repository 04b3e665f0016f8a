-- An accepted chunk whose entries aren't the first of the map hashes, with the map, two different lists to one hash.
use Rattle.std.specs.Prelude.{◌≡◌, ◌≢◌, ℕ, zero, suc, ◌+◌, ◌-◌, [], ◌∷◌, ◌++◌, cond, List, ◌≤◌, length, true, ◌<◌, false, drop}
use Rattle.std.proofs.Common.{sym, ap, ◌∙◌, arith, ap₂, append_assoc, refl, subst}
use Rattle.std.proofs.lemmas.List.{same_from_push}
use Rattle.jf_path.specs.Keys.{IsKey, bit}
use Rattle.jf_hash.specs.Hashes.{L, V, N}
use Rattle.jf_hash.specs.Parts.{IsPart}
use Rattle.jf_hash.specs.Roots.{zeros, ones, part_root}
use Rattle.jf_hash.proofs.Split.{deeper, zeros_part, ones_part}
use Rattle.jf_evidence.specs.Inputs.{leaf_input, value_input, first_difference, Collides, pair_input}
use Rattle.jf_evidence.specs.Ranges.{KeyAndValue, Entries, first_hash}
use Rattle.jf_evidence.specs.MapClashes.{part_inputs}
use Rattle.jf_evidence.specs.FrontClashes.{front_inputs}
use Rattle.jf_evidence.proofs.InputLaws.{L-input, N-input}
use Rattle.jf_evidence.proofs.ClashLaws.{step}
use Rattle.jf_evidence.proofs.MapClashLaws.{root-none_input, root-leaf_input, root-pair_input, leaves-collide, too_deep, part_root-long, same-pair, parts-collide}
use Rattle.jf_evidence.proofs.PartLaws.{part-halves, around-one, around-zero}
use Rattle.jf_evidence.proofs.ChainLaws.{chain_root, chain_inputs, chain_root-long}
use Rattle.jf_evidence.proofs.CrowdLaws.{is_near, is_near-one, is_near-zero, is_near-none}

-- ---- one step of the map's side
-- a leaf that results in the root of a part is the part's one entry, or collides
leaf_front : (k d : ℕ) (x : KeyAndValue) (es : Entries) → k ≡ 256 - d → IsKey x.0 → IsPart d es → L x.0 (V x.1) ≡ part_root d es → es ≢ x ∷ []
    → Collides (first_difference (leaf_input x.0 (V x.1) ∷ value_input x.1 ∷ []) (part_inputs k d es))
unfolding part_inputs
leaf_front k d x [] fuel key part meet other = step _ _ (value_input x.1 ∷ []) [] (sym (L-input _ _) ∙ meet ∙ root-none_input d) (λ one. absurd (cc))
leaf_front k d x (e ∷ []) fuel key part meet other =
    leaves-collide x e [] [] key part.keys.0 (sym (L-input _ _) ∙ meet ∙ root-leaf_input d e) (λ same. absurd (other (ap (λ (y : KeyAndValue). y ∷ []) (sym same))))
leaf_front zero d x (e ∷ f ∷ es) fuel key part meet other = absurd (too_deep d e f es part fuel)
leaf_front (suc k) d x (e ∷ f ∷ es) fuel key part meet other =
    step _ _ (value_input x.1 ∷ []) (part_inputs k (d + 1) (zeros d (e ∷ f ∷ es)) ++ part_inputs k (d + 1) (ones d (e ∷ f ∷ es))) (sym (L-input _ _) ∙ meet ∙ root-pair_input d e f es part) (λ one. absurd (cc))

-- what is hashed below a pair on the way
abbrev front_rest : ℕ → ℕ → List ℕ → Entries → List (List ℕ)
front_rest n d key es = cond (bit key d) (part_inputs (256 - (d + 1)) (d + 1) (zeros d es) ++ front_inputs n (d + 1) key (ones d es)) (front_inputs n (d + 1) key (zeros d es))

-- a pair that results in the root of a part is the pair of the part's halves, or collides
pair_front : (n d : ℕ) (key : List ℕ) (es : Entries) (l r : List ℕ) (us : List (List ℕ)) → length l ≡ 32 → IsPart d es → N l r ≡ part_root d es
    → (2 ≤ length es → l ≡ part_root (d + 1) (zeros d es) → r ≡ part_root (d + 1) (ones d es) → Collides (first_difference us (front_rest n d key es)))
    → Collides (first_difference (pair_input l r ∷ us) (front_inputs (suc n) d key es))
unfolding front_inputs part_inputs
pair_front n d key [] l r us long part meet rest = step _ _ us [] (sym (N-input l r) ∙ meet ∙ root-none_input d) (λ one. absurd (cc))
pair_front n d key (e ∷ []) l r us long part meet rest = step _ _ us (value_input e.1 ∷ []) (sym (N-input l r) ∙ meet ∙ root-leaf_input d e) (λ one. absurd (cc))
pair_front n d key (e ∷ f ∷ es) l r us long part meet rest =
    let all : Entries = e ∷ f ∷ es in
    step _ _ us (front_rest n d key all) (sym (N-input l r) ∙ meet ∙ root-pair_input d e f es part) (λ one.
    let same = same-pair l r _ _ (long ∙ sym (part_root-long (d + 1) (zeros d all))) one in
    rest (omega arith) same.0 same.1)

-- ---- both sides
-- the entries before one whose bit is 1, by their halves
before_one : (d : ℕ) (xs : Entries) (x : KeyAndValue) → IsPart d (xs ++ x ∷ []) → bit x.0 d ≡ true → xs ≡ zeros d xs ++ ones d xs
before_one d xs x part one =
    let around = around-one d xs x [] part one in
    let whole : xs ++ x ∷ [] ≡ (zeros d xs ++ ones d xs) ++ x ∷ [] =
    part-halves d (xs ++ x ∷ []) part ∙ ap₂ (λ (a b : Entries). a ++ b) around.low around.high ∙ sym (append_assoc (zeros d xs) (ones d xs) (x ∷ [])) in
    (same_from_push xs (zeros d xs ++ ones d xs) x x whole).0

less_fuel : (d : ℕ) → d < 256 → 256 - d ≡ suc (256 - (d + 1))
less_fuel d lt = omega arith

-- a chunk that results in the root of a part has the part's first entries, or collides
pub front-collides : (n d : ℕ) (xs : Entries) (x : KeyAndValue) (ts : List (List ℕ)) (es : Entries) → IsPart d (xs ++ x ∷ []) → IsPart d es → is_near n (256 - d) d x.0 xs ≡ false
    → chain_root n d xs x ts ≡ part_root d es → ((ys : Entries) → es ≡ xs ++ x ∷ ys → ⊥) → Collides (first_difference (chain_inputs n d xs x ts) (front_inputs n d x.0 es))
unfolding chain_root chain_inputs front_inputs
front-collides zero d xs x ts es part part' lone meet other =
    let none : xs ≡ [] = is_near-none (256 - d) d x.0 xs lone in
    let own : IsPart d (x ∷ []) = subst (λ (zs : Entries). IsPart d (zs ++ x ∷ [])) none part in
    leaf_front (256 - d) d x es refl own.keys.0 part' meet (λ same. absurd (other [] (same ∙ ap (λ (zs : Entries). zs ++ x ∷ []) (sym none))))
front-collides (suc n) d xs x ts es part part' lone meet other =
    elim (bit x.0 d) as (λ b. bit x.0 d ≡ b
    → cond b (N (part_root (d + 1) (zeros d xs)) (chain_root n (d + 1) (ones d xs) x ts)) (N (chain_root n (d + 1) xs x (drop 1 ts)) (first_hash ts)) ≡ part_root d es
    → Collides (first_difference
    (cond b (pair_input (part_root (d + 1) (zeros d xs)) (chain_root n (d + 1) (ones d xs) x ts) ∷ (part_inputs (256 - (d + 1)) (d + 1) (zeros d xs) ++ chain_inputs n (d + 1) (ones d xs) x ts))
    (pair_input (chain_root n (d + 1) xs x (drop 1 ts)) (first_hash ts) ∷ chain_inputs n (d + 1) xs x (drop 1 ts)))
    (front_inputs (suc n) d x.0 es))) [
      | true ↦ λ is meet'.
          let around = around-one d xs x [] part is in
          let k = 256 - (d + 1) in
          let us = part_inputs k (d + 1) (zeros d xs) ++ chain_inputs n (d + 1) (ones d xs) x ts in
          pair_front n d x.0 es _ _ us (part_root-long (d + 1) (zeros d xs)) part' meet' (λ two left right.
          let lone' : is_near n k (d + 1) x.0 (ones d xs) ≡ false = sym (is_near-one n k d x.0 xs is) ∙ ap (λ m. is_near (suc n) m d x.0 xs) (sym (less_fuel d (deeper d es part' two))) ∙ lone in
          subst (λ vs. Collides (first_difference us vs)) (ap (λ b. cond b (part_inputs k (d + 1) (zeros d es) ++ front_inputs n (d + 1) x.0 (ones d es)) (front_inputs n (d + 1) x.0 (zeros d es))) (sym is))
          (parts-collide k (d + 1) (zeros d xs) (zeros d es) (chain_inputs n (d + 1) (ones d xs) x ts) (front_inputs n (d + 1) x.0 (ones d es)) refl
          (subst (IsPart (d + 1)) around.low (zeros_part d (xs ++ x ∷ []) part)) (zeros_part d es part') left (λ z.
          front-collides n (d + 1) (ones d xs) x ts (ones d es) around.part (ones_part d es part') lone' right (λ ys o.
          other ys (part-halves d es part' ∙ ap₂ (λ (a b : Entries). a ++ b) (sym z) o ∙ sym (append_assoc (zeros d xs) (ones d xs) (x ∷ ys)) ∙ ap (λ (a : Entries). a ++ x ∷ ys) (sym (before_one d xs x part is)))))))
      | false ↦ λ is meet'.
          let around = around-zero d xs x [] part is in
          let k = 256 - (d + 1) in
          let us = chain_inputs n (d + 1) xs x (drop 1 ts) in
          pair_front n d x.0 es _ _ us (chain_root-long n (d + 1) xs x (drop 1 ts)) part' meet' (λ two left right.
          let lone' : is_near n k (d + 1) x.0 xs ≡ false =
          ap (is_near n k (d + 1) x.0) (sym around.before) ∙ sym (is_near-zero n k d x.0 xs is) ∙ ap (λ m. is_near (suc n) m d x.0 xs) (sym (less_fuel d (deeper d es part' two))) ∙ lone in
          subst (λ vs. Collides (first_difference us vs)) (ap (λ b. cond b (part_inputs k (d + 1) (zeros d es) ++ front_inputs n (d + 1) x.0 (ones d es)) (front_inputs n (d + 1) x.0 (zeros d es))) (sym is))
          (front-collides n (d + 1) xs x (drop 1 ts) (zeros d es) around.part (zeros_part d es part') lone' left (λ ys o.
          other (ys ++ ones d es) (part-halves d es part' ∙ ap (λ (a : Entries). a ++ ones d es) o ∙ append_assoc xs (x ∷ ys) (ones d es)))))
    ] refl meet
