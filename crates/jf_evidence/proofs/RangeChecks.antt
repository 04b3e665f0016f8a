-- What the checks on a chunk say of its entries.
use Rattle.std.specs.Prelude.{◌≡◌, ◌-◌, T, ◌∷◌, [], ◌++◌, suc, drop, length, Bool, true, false, not, None, ℕ, ◌==◌, List, bytes_eq}
use Rattle.std.proofs.Common.{sym, subst, Less, is_lt, ap, ◌∙◌, arith, refl}
use Rattle.std.proofs.lemmas.Bool.{not-false}
use Rattle.std.proofs.lemmas.Slice.Eq.{bytes_eq-Decides}
use Rattle.std.specs.FinMap.{is_sorted}
use Rattle.jf_path.specs.Keys.{key_cmp}
use Rattle.jf_path.specs.Checks.{first_of}
use Rattle.jf_path.proofs.BoolLaws.{both_so, T_from_not_false}
use Rattle.jf_hash.proofs.KeyOrder.{below-rest, below_all-further, below-first, sorted-rest}
use Rattle.jf_evidence.specs.Ranges.{KeyAndValue, Entries, last_key, range_root, is_miscounted, is_crowded, range_refusal, is_disordered}
use Rattle.jf_evidence.specs.declared.range_proof.RangeProof.{RangeProof}

-- ---- rising keys
pub sorted-more : (e f : KeyAndValue) (es : Entries) → key_cmp e.0 f.0 ≡ Less → T (is_sorted key_cmp (f ∷ es)) → T (is_sorted key_cmp (e ∷ f ∷ es))
sorted-more e f es lt sorted = both_so _ _ (both_so _ _ (subst (λ o. T (is_lt o)) (sym lt) tt) (below_all-further e.0 f.0 es lt (below-rest f es sorted))) sorted

pub sorted-front : (xs ys : Entries) → T (is_sorted key_cmp (xs ++ ys)) → T (is_sorted key_cmp xs)
sorted-front [] ys sorted = tt
sorted-front (e ∷ []) ys sorted = tt
sorted-front (e ∷ f ∷ xs) ys sorted =
    sorted-more e f xs (below-first e.0 f (xs ++ ys) (below-rest e (f ∷ (xs ++ ys)) sorted)) (sorted-front (f ∷ xs) ys (sorted-rest e (f ∷ (xs ++ ys)) sorted))

pub sorted-later : (xs ys : Entries) → T (is_sorted key_cmp (xs ++ ys)) → T (is_sorted key_cmp ys)
sorted-later [] ys sorted = sorted
sorted-later (e ∷ xs) ys sorted = sorted-later xs ys (sorted-rest e (xs ++ ys) sorted)

last_dropped : (e f : KeyAndValue) (es : Entries) → drop (length (e ∷ f ∷ es) - 1) (e ∷ f ∷ es) ≡ drop (length (f ∷ es) - 1) (f ∷ es)
last_dropped e f es =
    let n : length (e ∷ f ∷ es) - 1 ≡ suc (length es) = omega arith in
    let k : length (f ∷ es) - 1 ≡ length es = omega arith in
    ap (λ i. drop i (e ∷ f ∷ es)) n ∙ ap (λ i. drop i (f ∷ es)) (sym k)

-- if the known entries ascend, and the new ones ascend from the last known one on, all of them do
pub sorted-after_last : (known fresh : Entries) → T (is_sorted key_cmp known) → T (is_sorted key_cmp (drop (length known - 1) known ++ fresh)) → T (is_sorted key_cmp (known ++ fresh))
sorted-after_last [] fresh sorted rises = rises
sorted-after_last (e ∷ []) fresh sorted rises = rises
sorted-after_last (e ∷ f ∷ known) fresh sorted rises =
    sorted-more e f (known ++ fresh) (below-first e.0 f known (below-rest e (f ∷ known) sorted))
    (sorted-after_last (f ∷ known) fresh (sorted-rest e (f ∷ known) sorted) (subst (λ (es : Entries). T (is_sorted key_cmp (es ++ fresh))) (last_dropped e f known) rises))

pub sorted-from_last : (known fresh : Entries) → T (is_sorted key_cmp (known ++ fresh)) → T (is_sorted key_cmp (drop (length known - 1) known ++ fresh))
sorted-from_last [] fresh sorted = sorted
sorted-from_last (e ∷ []) fresh sorted = sorted
sorted-from_last (e ∷ f ∷ known) fresh sorted =
    subst (λ (es : Entries). T (is_sorted key_cmp (es ++ fresh))) (sym (last_dropped e f known)) (sorted-from_last (f ∷ known) fresh (sorted-rest e (f ∷ (known ++ fresh)) sorted))

-- ---- the five checks
pub T-not : (b : Bool) → T b → not b ≡ false
T-not true h = refl
T-not false h = absurd h

passed : {X : Type 0} (a b c d e : Bool) (v w x y z : X) → first_of ((a, v) ∷ (b, w) ∷ (c, x) ∷ (d, y) ∷ (e, z) ∷ []) ≡ None → (a ≡ false) × (b ≡ false) × (c ≡ false) × (d ≡ false) × (e ≡ false)
passed true b c d e v w x y z h = absurd (cc)
passed false true c d e v w x y z h = absurd (cc)
passed false false true d e v w x y z h = absurd (cc)
passed false false false true e v w x y z h = absurd (cc)
passed false false false false true v w x y z h = absurd (cc)
passed false false false false false v w x y z h = (refl, refl, refl, refl, refl)

-- an accepted chunk has a new entry, ascending keys, as many siblings as needed, a lone last entry, and results in the root
pub record IsAcceptedChunk (root : List ℕ) (known fresh : Entries) (proof : RangeProof) : Type 0 where
  pub some : (length fresh == 0) ≡ false
  pub ordered : T (is_sorted key_cmp (drop (length known - 1) known ++ fresh))
  pub counted : is_miscounted (last_key fresh) proof ≡ false
  pub lone : is_crowded (known ++ fresh) proof ≡ false
  pub top : range_root (known ++ fresh) proof ≡ root

pub accepted-chunk : (root : List ℕ) (known fresh : Entries) (proof : RangeProof) → range_refusal root known fresh proof ≡ None → IsAcceptedChunk root known fresh proof
unfolding range_refusal
accepted-chunk root known fresh proof h =
    let checks = passed (length fresh == 0) (is_disordered known fresh) (is_miscounted (last_key fresh) proof) (is_crowded (known ++ fresh) proof) (not (bytes_eq (range_root (known ++ fresh) proof) root)) _ _ _ _ _ h in
    record { some = checks.0; ordered = T_from_not_false _ checks.1; counted = checks.2; lone = checks.3; top = (bytes_eq-Decides _ _).0 (not-false _ checks.4) }

pub chunk-accepted : (root : List ℕ) (known fresh : Entries) (proof : RangeProof) → IsAcceptedChunk root known fresh proof → range_refusal root known fresh proof ≡ None
unfolding range_refusal
chunk-accepted root known fresh proof h =
    let ordered : is_disordered known fresh ≡ false = T-not _ h.ordered in
    rw (h.some, ordered, h.counted, h.lone, ap not ((bytes_eq-Decides (range_root (known ++ fresh) proof) root).1 h.top)) refl

-- a list that isn't empty has a last item
pub snoc : {X : Type 0} (x : X) (xs : List X) → (ys : List X) × (y : X) × (x ∷ xs ≡ ys ++ y ∷ [])
snoc x [] = ([], x, refl)
snoc x (z ∷ xs) = let r = snoc z xs in (x ∷ r.0, r.1, ap (λ t. x ∷ t) r.2)

pub last-of_some : (xs : Entries) → (length xs == 0) ≡ false → (ys : Entries) × (y : KeyAndValue) × (xs ≡ ys ++ y ∷ [])
last-of_some [] some = absurd (cc)
last-of_some (x ∷ xs) some = snoc x xs
