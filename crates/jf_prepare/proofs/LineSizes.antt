-- Lines and texts that stand in two buffers, beside their sizes.
use Rattle.std.proofs.Common.{◌≡◌, ◌∙◌, ℕ, ◌+◌, ◌≤◌, ◌<◌, List, [], ◌∷◌, ◌++◌, length, get_or, take, drop, refl, sym, ap, ap₂, subst, arith, drop-drop, take_all, length-append}
use Rattle.std.specs.Prelude.{Some, Ok, Err, Result, OnOk, OnErr, slice_get}
use Rattle.std.proofs.lemmas.Result.{on_ok_weaker}
use Rattle.std.proofs.lemmas.List.{take-append-le, drop-append-le, length-drop, drop_more, drop_all}
use Rattle.std.proofs.lemmas.Option.{slice_get_within, get_or_from_slice_get, slice_get_read}
use Rattle.jf_prepare.specs.PreparedLines.{sized_texts, AreSizesOf, AreSizesFrom}

-- ---- what is appended
-- the sizes of what was appended stand after those of what was there
pub AreSizesOf-append : (ss ss' : List (ℕ × ℕ)) (ls ls' ts ts' : List ℕ) → AreSizesOf ss ls ts → AreSizesOf ss' ls' ts' → AreSizesOf (ss ++ ss') (ls ++ ls') (ts ++ ts')
AreSizesOf-append [] ss' ls ls' ts ts' h h' = subst (λ l. AreSizesOf ss' (l ++ ls') (ts ++ ts')) (sym h.0) (subst (λ t. AreSizesOf ss' ls' (t ++ ts')) (sym h.1) h')
AreSizesOf-append (s ∷ ss) ss' ls ls' ts ts' h h' =
    let rest = AreSizesOf-append ss ss' (drop s.0 ls) ls' (drop s.1 ts) ts' h.2 h' in (
      let longer = length-append ls ls' in
          let within = h.0 in
          omega arith,
      let longer = length-append ts ts' in
          let within = h.1 in
          omega arith,
      subst (λ l. AreSizesOf (ss ++ ss') l (drop s.1 (ts ++ ts'))) (sym (drop-append-le s.0 ls ls' h.0)) (subst (λ t. AreSizesOf (ss ++ ss') (drop s.0 ls ++ ls') t) (sym (drop-append-le s.1 ts ts' h.1)) rest),
    )

-- and so do its lines and texts
pub sized_texts-append : (ss ss' : List (ℕ × ℕ)) (ls ls' ts ts' : List ℕ) → AreSizesOf ss ls ts → sized_texts (ss ++ ss') (ls ++ ls') (ts ++ ts') ≡ sized_texts ss ls ts ++ sized_texts ss' ls' ts'
sized_texts-append [] ss' ls ls' ts ts' h = ap₂ (λ (l t : List ℕ). sized_texts ss' (l ++ ls') (t ++ ts')) h.0 h.1
sized_texts-append (s ∷ ss) ss' ls ls' ts ts' h =
    ap₂ (λ (r : List ℕ × List ℕ) (rs : List (List ℕ × List ℕ)). r ∷ rs)
    (ap₂ (λ (l t : List ℕ). (l, t)) (take-append-le s.0 ls ls' h.0) (take-append-le s.1 ts ts' h.1))
    (ap₂ (λ (l t : List ℕ). sized_texts (ss ++ ss') l t) (drop-append-le s.0 ls ls' h.0) (drop-append-le s.1 ts ts' h.1) ∙ sized_texts-append ss ss' (drop s.0 ls) ls' (drop s.1 ts) ts' h.2)

-- one line and its text have one pair of sizes
pub AreSizesOf-one : (l t : List ℕ) → AreSizesOf ((length l, length t) ∷ []) l t
AreSizesOf-one l t = (omega arith, omega arith, (drop_all (length l) l (omega arith), drop_all (length t) t (omega arith)))

pub sized_texts-one : (l t : List ℕ) → sized_texts ((length l, length t) ∷ []) l t ≡ (l, t) ∷ []
sized_texts-one l t = ap₂ (λ (x y : List ℕ). (x, y) ∷ []) (take_all (length l) l (omega arith)) (take_all (length t) t (omega arith))

-- what follows from both outcomes of a call
of_either : {T E P A B : Type 0} (r : Result T E) → OnOk r A → OnErr r B → (A → P) → (B → P) → P
of_either (Ok x) ok err f g = f ok
of_either (Err e) ok err f g = g err

-- ---- what is left
module _ (k a b : ℕ) (ss : List (ℕ × ℕ)) (ls ts : List ℕ) (left : AreSizesFrom k a b ss ls ts) where
  -- something is appended, with its sizes
  pub AreSizesFrom-append : (ss' : List (ℕ × ℕ)) (ls' ts' : List ℕ) → AreSizesOf ss' ls' ts' → AreSizesFrom k a b (ss ++ ss') (ls ++ ls') (ts ++ ts')
  AreSizesFrom-append ss' ls' ts' h =
      let all = AreSizesOf-append (drop k ss) ss' (drop a ls) ls' (drop b ts) ts' left.3 h in (
        omega (arith, length-append ss ss', left.0),
        omega (arith, length-append ls ls', left.1),
        omega (arith, length-append ts ts', left.2),
        subst (λ s. AreSizesOf s (drop a (ls ++ ls')) (drop b (ts ++ ts'))) (sym (drop-append-le k ss ss' left.0))
            (subst (λ l. AreSizesOf (drop k ss ++ ss') l (drop b (ts ++ ts'))) (sym (drop-append-le a ls ls' left.1)) (subst (λ t. AreSizesOf (drop k ss ++ ss') (drop a ls ++ ls') t) (sym (drop-append-le b ts ts' left.2)) all)),
      )

  -- and so is what it represents
  pub left-append : (ss' : List (ℕ × ℕ)) (ls' ts' : List ℕ) → sized_texts (drop k (ss ++ ss')) (drop a (ls ++ ls')) (drop b (ts ++ ts')) ≡ sized_texts (drop k ss) (drop a ls) (drop b ts) ++ sized_texts ss' ls' ts'
  left-append ss' ls' ts' =
      ap₂ (λ (s : List (ℕ × ℕ)) (l : List ℕ). sized_texts s l (drop b (ts ++ ts'))) (drop-append-le k ss ss' left.0) (drop-append-le a ls ls' left.1)
      ∙ ap (λ (t : List ℕ). sized_texts (drop k ss ++ ss') (drop a ls ++ ls') t) (drop-append-le b ts ts' left.2) ∙ sized_texts-append (drop k ss) ss' (drop a ls) ls' (drop b ts) ts' left.3

  -- the first of what is left has these sizes
  module _ (s : ℕ × ℕ) (there : slice_get ss k ≡ Some s) where
    abbrev cut : drop k ss ≡ s ∷ drop (k + 1) ss
    cut = drop_more ss k s (slice_get_within ss k s there) ∙ ap (λ (x : ℕ × ℕ). x ∷ drop (k + 1) ss) (get_or_from_slice_get ss k s s there)

    abbrev sizes : AreSizesOf (s ∷ drop (k + 1) ss) (drop a ls) (drop b ts)
    sizes = subst (λ x. AreSizesOf x (drop a ls) (drop b ts)) cut left.3

    -- it stands in the buffers
    pub first_within : (a + s.0 ≤ length ls) × (b + s.1 ≤ length ts)
    first_within = (omega (arith, sizes.0, length-drop a ls, left.1), omega (arith, sizes.1, length-drop b ts, left.2))

    -- what is left after it
    pub AreSizesFrom-rest : AreSizesFrom (k + 1) (a + s.0) (b + s.1) ss ls ts
    AreSizesFrom-rest = (
      omega (arith, slice_get_within ss k s there),
      first_within.0,
      first_within.1,
      subst (λ l. AreSizesOf (drop (k + 1) ss) l (drop (b + s.1) ts)) (drop-drop s.0 a ls) (subst (λ t. AreSizesOf (drop (k + 1) ss) (drop s.0 (drop a ls)) t) (drop-drop s.1 b ts) sizes.2),
    )

    -- what is left begins with it
    pub left-first : sized_texts (drop k ss) (drop a ls) (drop b ts) ≡ (take s.0 (drop a ls), take s.1 (drop b ts)) ∷ sized_texts (drop (k + 1) ss) (drop (a + s.0) ls) (drop (b + s.1) ts)
    left-first =
        ap (λ (x : List (ℕ × ℕ)). sized_texts x (drop a ls) (drop b ts)) cut
        ∙ ap₂ (λ (l t : List ℕ). (take s.0 (drop a ls), take s.1 (drop b ts)) ∷ sized_texts (drop (k + 1) ss) l t) (drop-drop s.0 a ls) (drop-drop s.1 b ts)

    -- a value that represents all that is left begins with it
    pub now_first : (now : List (List ℕ × List ℕ)) → sized_texts (drop k ss) (drop a ls) (drop b ts) ≡ now → (m n : ℕ) → m ≡ s.0 → n ≡ s.1 → now ≡ (take m (drop a ls), take n (drop b ts)) ∷ drop 1 now
    now_first now is m n m_is n_is =
        let first = sym is ∙ left-first in
        first ∙ ap₂ (λ (l t : List ℕ). (l, t) ∷ sized_texts (drop (k + 1) ss) (drop (a + s.0) ls) (drop (b + s.1) ts)) (ap (λ i. take i (drop a ls)) (sym m_is)) (ap (λ i. take i (drop b ts)) (sym n_is))
        ∙ ap (λ (rest : List (List ℕ × List ℕ)). (take m (drop a ls), take n (drop b ts)) ∷ rest) (sym (ap (drop 1) first))

    -- and what is left after it represents the rest
    pub now_rest : (now : List (List ℕ × List ℕ)) → sized_texts (drop k ss) (drop a ls) (drop b ts) ≡ now → sized_texts (drop (k + 1) ss) (drop (a + s.0) ls) (drop (b + s.1) ts) ≡ drop 1 now
    now_rest now is = sym (ap (drop 1) (sym is ∙ left-first))

  -- the buffers and the sizes after a call that appends
  module _ {T E : Type 0} (r : Result T E) (ss₂ : List (ℕ × ℕ)) (ls₂ ts₂ : List ℕ) (ss' : List (ℕ × ℕ)) (ls' ts' : List ℕ) (ok : OnOk r ((ls₂ ≡ ls ++ ls') × (ts₂ ≡ ts ++ ts') × (ss₂ ≡ ss ++ ss'))) where
    pub AreSizesFrom-appended : OnErr r ((ls₂ ≡ ls) × (ts₂ ≡ ts) × (ss₂ ≡ ss)) → AreSizesOf ss' ls' ts' → AreSizesFrom k a b ss₂ ls₂ ts₂
    AreSizesFrom-appended err more =
        of_either r ok err
        (λ h. subst (λ (s : List (ℕ × ℕ)). AreSizesFrom k a b s ls₂ ts₂) (sym h.2) (subst (λ (l : List ℕ). AreSizesFrom k a b (ss ++ ss') l ts₂) (sym h.0) (subst (λ (t : List ℕ). AreSizesFrom k a b (ss ++ ss') (ls ++ ls') t) (sym h.1) (AreSizesFrom-append ss' ls' ts' more))))
        (λ h. subst (λ (s : List (ℕ × ℕ)). AreSizesFrom k a b s ls₂ ts₂) (sym h.2) (subst (λ (l : List ℕ). AreSizesFrom k a b ss l ts₂) (sym h.0) (subst (λ (t : List ℕ). AreSizesFrom k a b ss ls t) (sym h.1) left)))

    pub left-appended : (now : List (List ℕ × List ℕ)) → sized_texts (drop k ss) (drop a ls) (drop b ts) ≡ now → (more : List (List ℕ × List ℕ)) → sized_texts ss' ls' ts' ≡ more → OnOk r (sized_texts (drop k ss₂) (drop a ls₂) (drop b ts₂) ≡ now ++ more)
    left-appended now is more more_is =
        on_ok_weaker r
        (λ h. ap₂ (λ (s : List (ℕ × ℕ)) (l : List ℕ). sized_texts (drop k s) (drop a l) (drop b ts₂)) h.2 h.0
        ∙ ap (λ (t : List ℕ). sized_texts (drop k (ss ++ ss')) (drop a (ls ++ ls')) (drop b t)) h.1
        ∙ left-append ss' ls' ts'
        ∙ ap₂ (λ (x y : List (List ℕ × List ℕ)). x ++ y) is more_is)
        ok

-- what a look into a list has found
pub found_there : {X : Type 0} (xs ys : List X) (i : ℕ) (x : X) → xs ≡ ys → i < length xs → x ≡ get_or xs i x → slice_get ys i ≡ Some x
found_there xs ys i x is lt at = subst (λ zs. slice_get zs i ≡ Some x) is (slice_get_read xs (length xs) i x refl lt at)
