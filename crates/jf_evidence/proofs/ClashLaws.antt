-- Two accepted claims that contradict hash two different lists to one hash.
use Rattle.std.specs.Prelude.{ℕ, ◌+◌, List, [], ◌∷◌, ◌++◌, length, ◌≡◌, reverse, true, false, not, cond, bytes_eq, Some, Option, None, ◌≢◌, Bool, ◌&&◌, ◌≤◌, nat_lt}
use Rattle.std.proofs.Common.{refl, ap, ◌∙◌, arith, length-append, ap₂, sym}
use Rattle.std.proofs.lemmas.Bool.{not-false}
use Rattle.std.proofs.lemmas.Bool.Decides.{nat_tests}
use Rattle.std.proofs.lemmas.Grind.{reverse_onto}
use Rattle.std.proofs.lemmas.List.{reverse-reverse}
use Rattle.std.proofs.lemmas.Slice.Eq.{bytes_eq-Decides}
use Rattle.std.specs.FinMap as fin
use Rattle.sha2.specs.Sha256.{sha256}
use Rattle.jf_path.specs.Keys.{bit}
use Rattle.jf_path.specs.Checks.{first_of}
use Rattle.jf_hash.specs.Hashes.{N, V}
use Rattle.jf_hash.specs.Roots.{Leaf, root}
use Rattle.jf_hash.specs.Maps.{Map, IsMap}
use Rattle.jf_hash.proofs.HashLaws.{E-IsKey, L-IsKey, N-IsKey}
use Rattle.jf_evidence.specs.Proofs.{rise, join, start_of, is_wrong_leaf, IsLeaf, proof_root, refusal, climb, honest}
use Rattle.jf_evidence.specs.Clashes.{join_input, climb_inputs, start_input, claim_inputs, inputs, clash}
use Rattle.jf_evidence.specs.Inputs.{first_difference, Collides, pair_input, none_input, leaf_input, value_input}
use Rattle.jf_evidence.specs.declared.proof.Proof.{Proof}
use Rattle.jf_evidence.proofs.ProofLaws.{climb_to, climb_to-push, climb-climb_to}
use Rattle.jf_evidence.proofs.InputLaws.{N-input, E-input, L-input, V-input}
use Rattle.jf_evidence.proofs.HonestLaws.{honest-accepted, honest-IsLeaf}

-- ---- siblings from the top
-- what the way up hashes from the top, by siblings with the highest first
abbrev rise_inputs : ℕ → List ℕ → List ℕ → List (List ℕ) → List (List ℕ)
rise_inputs d key hash [] = []
rise_inputs d key hash (t ∷ ts) = join_input key d (rise (d + 1) key hash ts) t ∷ rise_inputs (d + 1) key hash ts

-- what the way up hashes, by siblings with the lowest first
abbrev inputs_to : ℕ → List ℕ → List ℕ → List (List ℕ) → List (List ℕ)
inputs_to d key hash [] = []
inputs_to d key hash (s ∷ ss) = inputs_to d key (join key (d + length ss) hash s) ss ++ join_input key (d + length ss) hash s ∷ []

climb_inputs-inputs_to : (key hash : List ℕ) (ss : List (List ℕ)) → climb_inputs key hash ss ≡ inputs_to 0 key hash ss
climb_inputs-inputs_to key hash [] = refl
climb_inputs-inputs_to key hash (s ∷ ss) =
    let i : length ss ≡ 0 + length ss = omega arith in
    ap (λ (xs : List (List ℕ)). xs ++ join_input key (length ss) hash s ∷ []) (climb_inputs-inputs_to key (join key (length ss) hash s) ss)
    ∙ ap (λ n. inputs_to 0 key (join key n hash s) ss ++ join_input key n hash s ∷ []) i

inputs_to-push : (d : ℕ) (key hash : List ℕ) (ss : List (List ℕ)) (s : List ℕ) → inputs_to d key hash (ss ++ s ∷ []) ≡ join_input key d (climb_to (d + 1) key hash ss) s ∷ inputs_to (d + 1) key hash ss
inputs_to-push d key hash [] s = let i : d + 0 ≡ d = omega arith in ap (λ n. join_input key n hash s ∷ []) i
inputs_to-push d key hash (t ∷ ss) s =
    let i : d + length (ss ++ s ∷ []) ≡ (d + 1) + length ss = omega (arith, length-append ss (s ∷ [])) in
    ap (λ (xs : List (List ℕ)). xs ++ join_input key (d + length (ss ++ s ∷ [])) hash t ∷ []) (inputs_to-push d key (join key (d + length (ss ++ s ∷ [])) hash t) ss s)
    ∙ ap (λ n. join_input key d (climb_to (d + 1) key (join key n hash t) ss) s ∷ (inputs_to (d + 1) key (join key n hash t) ss ++ join_input key n hash t ∷ [])) i

turned_rise : (d : ℕ) (key hash : List ℕ) (ts : List (List ℕ)) → climb_to d key hash (reverse ts) ≡ rise d key hash ts
turned_rise d key hash [] = refl
turned_rise d key hash (t ∷ ts) =
    ap (climb_to d key hash) (reverse_onto ts t []) ∙ climb_to-push d key hash (reverse ts) t ∙ ap (λ h. join key d h t) (turned_rise (d + 1) key hash ts)

turned_inputs : (d : ℕ) (key hash : List ℕ) (ts : List (List ℕ)) → inputs_to d key hash (reverse ts) ≡ rise_inputs d key hash ts
turned_inputs d key hash [] = refl
turned_inputs d key hash (t ∷ ts) =
    ap (inputs_to d key hash) (reverse_onto ts t []) ∙ inputs_to-push d key hash (reverse ts) t
    ∙ ap₂ (λ h (xs : List (List ℕ)). join_input key d h t ∷ xs) (turned_rise (d + 1) key hash ts) (turned_inputs (d + 1) key hash ts)

-- ---- lists that are the same, or not
-- two splits of one list at one length have the same fronts and the same rests
pub fronts : (a c b d : List ℕ) → length a ≡ length c → a ++ b ≡ c ++ d → (a ≡ c) × (b ≡ d)
fronts [] [] b d long same = (refl, same)
fronts [] (y ∷ c) b d long same = absurd (omega arith)
fronts (x ∷ a) [] b d long same = absurd (omega arith)
fronts (x ∷ a) (y ∷ c) b d long same =
    let rest = fronts a c b d (omega arith) (cc) in
    let head : x ≡ y = cc in
    (ap₂ (λ (n : ℕ) (xs : List ℕ). n ∷ xs) head rest.0, rest.1)

-- lists with one hash are the same, or collide
pub step : (x y : List ℕ) (xs ys : List (List ℕ)) → sha256 x ≡ sha256 y → (x ≡ y → Collides (first_difference xs ys)) → Collides (first_difference (x ∷ xs) (y ∷ ys))
step x y xs ys meet rest =
    elim (bytes_eq x y) as (λ b. bytes_eq x y ≡ b → Collides (cond (not b) (Some (x, y)) (first_difference xs ys))) [
      | true ↦ λ is. rest ((bytes_eq-Decides x y).0 is)
      | false ↦ λ is. (x, y, refl, record { differ = λ same. absurd (let yes = (bytes_eq-Decides x y).1 same in cc); meet = meet })
    ] refl

-- ---- one step of a way up
-- joining a hash and its sibling hashes just this input
pub join-input : (key : List ℕ) (i : ℕ) (h s : List ℕ) → join key i h s ≡ sha256 (join_input key i h s)
join-input key i h s =
    elim (bit key i) as (λ b. cond b (N s h) (N h s) ≡ sha256 (cond b (pair_input s h) (pair_input h s))) [ true ↦ N-input s h | false ↦ N-input h s ]

pub start-input : (leaf : Option Leaf) → start_of leaf ≡ sha256 (start_input leaf)
start-input None = E-input
start-input (Some leaf) = L-input leaf.0 leaf.1

rise-long : (d : ℕ) (key : List ℕ) (leaf : Option Leaf) (ts : List (List ℕ)) → length (rise d key (start_of leaf) ts) ≡ 32
rise-long d key None [] = E-IsKey.long
rise-long d key (Some leaf) [] = (L-IsKey leaf.0 leaf.1).long
rise-long d key leaf (t ∷ ts) =
    let h = rise (d + 1) key (start_of leaf) ts in
    elim (bit key d) as (λ b. length (cond b (N t h) (N h t)) ≡ 32) [ true ↦ (N-IsKey t h).long | false ↦ (N-IsKey h t).long ]

backs : (a c b d : List ℕ) → length b ≡ length d → a ++ b ≡ c ++ d → b ≡ d
backs a c b d long same =
    let whole : length (a ++ b) ≡ length (c ++ d) = ap length same in
    (fronts a c b d (omega (arith, length-append a b, length-append c d)) same).1

-- if two joins hash the same list, their lower hashes are the same
below_join : (key : List ℕ) (i : ℕ) (h s g t : List ℕ) → length h ≡ length g → join_input key i h s ≡ join_input key i g t → h ≡ g
below_join key i h s g t long =
    elim (bit key i) as (λ b. cond b (pair_input s h) (pair_input h s) ≡ cond b (pair_input t g) (pair_input g t) → h ≡ g) [
      | true ↦ λ same. backs s t h g long (cc)
      | false ↦ λ same. (fronts h g s t long (cc)).0
    ]

-- the input of a pair is never that of a start
pair_or_start : (key : List ℕ) (i : ℕ) (h s : List ℕ) (leaf : Option Leaf) → join_input key i h s ≢ start_input leaf
pair_or_start key i h s None =
    elim (bit key i) as (λ b. cond b (pair_input s h) (pair_input h s) ≢ none_input) [ true ↦ λ same. absurd (cc) | false ↦ λ same. absurd (cc) ]
pair_or_start key i h s (Some leaf) =
    elim (bit key i) as (λ b. cond b (pair_input s h) (pair_input h s) ≢ leaf_input leaf.0 leaf.1) [ true ↦ λ same. absurd (cc) | false ↦ λ same. absurd (cc) ]

-- ---- the lower ends of two ways up
both : (a b : Bool) → not (a && b) ≡ false → (a ≡ true) × (b ≡ true)
both true true h = (refl, refl)
both true false h = absurd (cc)
both false b h = absurd (cc)

right_leaf : (key v : List ℕ) (leaf : Leaf) → is_wrong_leaf key (Some v) (Some leaf) ≡ false → (leaf.0 ≡ key) × (leaf.1 ≡ V v)
right_leaf key v leaf right =
    let tests = both (bytes_eq leaf.0 key) (bytes_eq leaf.1 (V v)) right in
    ((bytes_eq-Decides leaf.0 key).0 tests.0, (bytes_eq-Decides leaf.1 (V v)).0 tests.1)

other_leaf : (key : List ℕ) (leaf : Leaf) → is_wrong_leaf key None (Some leaf) ≡ false → leaf.0 ≢ key
other_leaf key leaf right same = absurd (let yes = (bytes_eq-Decides leaf.0 key).1 same in cc)

ends : (key : List ℕ) (c c' : Option (List ℕ)) (leaf leaf' : Option Leaf) → IsLeaf leaf → IsLeaf leaf' → is_wrong_leaf key c leaf ≡ false → is_wrong_leaf key c' leaf' ≡ false
    → c ≢ c' → start_input leaf ≡ start_input leaf' → Collides (first_difference (claim_inputs c) (claim_inputs c'))
ends key None None leaf leaf' sound sound' right right' differ same = absurd (differ refl)
ends key (Some v) c' None leaf' sound sound' right right' differ same = absurd (cc)
ends key c (Some v') leaf None sound sound' right right' differ same = absurd (cc)
ends key None (Some v') None (Some leaf') sound sound' right right' differ same = absurd (cc)
ends key (Some v) None (Some leaf) None sound sound' right right' differ same = absurd (cc)
ends key None (Some v') (Some leaf) (Some leaf') sound sound' right right' differ same =
    absurd (other_leaf key leaf right ((fronts leaf.0 leaf'.0 leaf.1 leaf'.1 (sound.long ∙ sym sound'.long) (cc)).0 ∙ (right_leaf key v' leaf' right').0))
ends key (Some v) None (Some leaf) (Some leaf') sound sound' right right' differ same =
    absurd (other_leaf key leaf' right' (sym (fronts leaf.0 leaf'.0 leaf.1 leaf'.1 (sound.long ∙ sym sound'.long) (cc)).0 ∙ (right_leaf key v leaf right).0))
ends key (Some v) (Some v') (Some leaf) (Some leaf') sound sound' right right' differ same =
    let hashes : V v ≡ V v' = sym (right_leaf key v leaf right).1 ∙ (fronts leaf.0 leaf'.0 leaf.1 leaf'.1 (sound.long ∙ sym sound'.long) (cc)).1 ∙ (right_leaf key v' leaf' right').1 in
    step (value_input v) (value_input v') [] [] (sym (V-input v) ∙ hashes ∙ V-input v') (λ same_input. absurd (differ (cc)))

-- ---- two ways up to one hash
abbrev inputs_from : ℕ → List ℕ → Option (List ℕ) → Option Leaf → List (List ℕ) → List (List ℕ)
inputs_from d key claim leaf ts = rise_inputs d key (start_of leaf) ts ++ start_input leaf ∷ claim_inputs claim

walk : (d : ℕ) (key : List ℕ) (c c' : Option (List ℕ)) (leaf leaf' : Option Leaf) (ts ts' : List (List ℕ)) → IsLeaf leaf → IsLeaf leaf'
    → is_wrong_leaf key c leaf ≡ false → is_wrong_leaf key c' leaf' ≡ false → c ≢ c'
    → rise d key (start_of leaf) ts ≡ rise d key (start_of leaf') ts' → Collides (first_difference (inputs_from d key c leaf ts) (inputs_from d key c' leaf' ts'))
walk d key c c' leaf leaf' [] [] sound sound' right right' differ same =
    step _ _ (claim_inputs c) (claim_inputs c') (sym (start-input leaf) ∙ same ∙ start-input leaf') (ends key c c' leaf leaf' sound sound' right right' differ)
walk d key c c' leaf leaf' (t ∷ ts) [] sound sound' right right' differ same =
    step _ _ (inputs_from (d + 1) key c leaf ts) (claim_inputs c') (sym (join-input key d _ t) ∙ same ∙ start-input leaf') (λ one. absurd (pair_or_start key d _ t leaf' one))
walk d key c c' leaf leaf' [] (t' ∷ ts') sound sound' right right' differ same =
    step _ _ (claim_inputs c) (inputs_from (d + 1) key c' leaf' ts') (sym (start-input leaf) ∙ same ∙ join-input key d _ t') (λ one. absurd (pair_or_start key d _ t' leaf (sym one)))
walk d key c c' leaf leaf' (t ∷ ts) (t' ∷ ts') sound sound' right right' differ same =
    step _ _ (inputs_from (d + 1) key c leaf ts) (inputs_from (d + 1) key c' leaf' ts') (sym (join-input key d _ t) ∙ same ∙ join-input key d _ t') (λ one.
    walk (d + 1) key c c' leaf leaf' ts ts' sound sound' right right' differ (below_join key d _ t _ t' (rise-long (d + 1) key leaf ts ∙ sym (rise-long (d + 1) key leaf' ts')) one))

-- ---- accepted claims
passed : {X : Type 0} (a b c d : Bool) (w x y z : X) → first_of ((a, w) ∷ (b, x) ∷ (c, y) ∷ (d, z) ∷ []) ≡ None → (a ≡ false) × (b ≡ false) × (d ≡ false)
passed true b c d w x y z h = absurd (cc)
passed false true c d w x y z h = absurd (cc)
passed false false true d w x y z h = absurd (cc)
passed false false false true w x y z h = absurd (cc)
passed false false false false w x y z h = (refl, refl, refl)

-- an accepted claim has at most 256 siblings and its leaf, and results in the root
pub record IsAcceptedClaim (root key : List ℕ) (claim : Option (List ℕ)) (proof : Proof) : Type 0 where
  pub short : length proof.siblings ≤ 256
  pub own_leaf : is_wrong_leaf key claim proof.leaf ≡ false
  pub top : proof_root key proof ≡ root

pub accepted : (root key : List ℕ) (claim : Option (List ℕ)) (proof : Proof) → refusal root key claim proof ≡ None → IsAcceptedClaim root key claim proof
unfolding refusal
accepted root key claim proof h =
    let checks = passed (nat_lt 256 (length proof.siblings)) (is_wrong_leaf key claim proof.leaf) _ (not (bytes_eq (proof_root key proof) root)) _ _ _ _ h in
    let short : nat_lt 256 (length proof.siblings) ≡ false = checks.0 in
    record { short = grind (arith, nat_tests); own_leaf = checks.1; top = (bytes_eq-Decides _ _).0 (not-false _ checks.2) }

as_rise : (key hash : List ℕ) (ss : List (List ℕ)) → climb key hash ss ≡ rise 0 key hash (reverse ss)
as_rise key hash ss = climb-climb_to key hash ss ∙ ap (climb_to 0 key hash) (sym (reverse-reverse ss)) ∙ turned_rise 0 key hash (reverse ss)

as_rise_inputs : (key hash : List ℕ) (ss : List (List ℕ)) → climb_inputs key hash ss ≡ rise_inputs 0 key hash (reverse ss)
as_rise_inputs key hash ss = climb_inputs-inputs_to key hash ss ∙ ap (inputs_to 0 key hash) (sym (reverse-reverse ss)) ∙ turned_inputs 0 key hash (reverse ss)

-- two accepted claims on one key and one root that contradict give a collision
pub clash-collides : (root key : List ℕ) (c c' : Option (List ℕ)) (p p' : Proof) → IsLeaf p.leaf → IsLeaf p'.leaf
    → refusal root key c p ≡ None → refusal root key c' p' ≡ None → c ≢ c' → Collides (clash key c p c' p')
unfolding clash inputs
clash-collides root key c c' p p' sound sound' ok ok' differ =
    let first = accepted root key c p ok in
    let second = accepted root key c' p' ok' in
    let same : rise 0 key (start_of p.leaf) (reverse p.siblings) ≡ rise 0 key (start_of p'.leaf) (reverse p'.siblings) =
    sym (as_rise key (start_of p.leaf) p.siblings) ∙ first.top ∙ sym second.top ∙ as_rise key (start_of p'.leaf) p'.siblings in
    rw (as_rise_inputs key (start_of p.leaf) p.siblings, as_rise_inputs key (start_of p'.leaf) p'.siblings)
    (walk 0 key c c' p.leaf p'.leaf (reverse p.siblings) (reverse p'.siblings) sound sound' first.own_leaf second.own_leaf differ same)

-- an accepted claim that isn't the map's gives a collision with what the map's honest proof hashes
pub clash-honest : (m : Map) (key : List ℕ) (c : Option (List ℕ)) (p : Proof) → IsMap m → IsLeaf p.leaf
    → refusal (root m) key c p ≡ None → c ≢ fin.get m key → Collides (clash key c p (fin.get m key) (honest m key))
clash-honest m key c p is_map sound ok differ =
    clash-collides (root m) key c (fin.get m key) p (honest m key) sound (honest-IsLeaf m key is_map) ok (honest-accepted m key is_map) differ
