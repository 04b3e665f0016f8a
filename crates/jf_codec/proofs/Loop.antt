-- Reading children one after the other, as the loop does.
use Rattle.std.proofs.Common.{ℕ, List, Result, ◌+◌, ◌++◌, Ok, ◌≡◌, [], ◌∷◌, Err, refl, ap, append_assoc, suc, ◌-◌, ◌<◌, arith, false, sym, ◌∙◌, true, ◌≤◌, Bool}
use Rattle.std.proofs.lemmas.List.{append-nil}
use Rattle.jf_path.specs.declared.children.Child.{Child}
use Rattle.jf_path.specs.Nodes.{ChildrenRiseFrom}
use Rattle.jf_codec.specs.declared.fault.CodecFault.{CodecFault}
use Rattle.jf_codec.specs.Reading.{◌>>=◌, children_at, has, child_at, bytes_at, eight_at, count_at}
use Rattle.jf_codec.specs.declared.format.Format.{Format}
use Rattle.jf_codec.proofs.FieldLaws.{bind_ok, ok_is}

abbrev pub Many : Type 0
Many = Result (List Child × List ℕ) CodecFault

-- the children read so far, put before those still to be read
abbrev pub with_front : List Child → Many → Many
with_front front read = read >>= λ x. Ok (front ++ x.0, x.1)

regroup : (front : List Child) (c : Child) (read : Many) → with_front front (read >>= λ x. Ok (c ∷ x.0, x.1)) ≡ with_front (front ++ c ∷ []) read
regroup front c (Ok x) = ap (λ (cs : List Child). Ok (cs, x.1)) (simp append_assoc)
regroup front c (Err e) = refl

module _ (fmt : Format) (exist leaf : ℕ) (front : List Child) (i : ℕ) (bytes : List ℕ) (total : Many) (lt : i < 16) (so_far : with_front front (children_at fmt exist leaf (16 - i) i bytes) ≡ total) where
  one_more : 16 - i ≡ suc (16 - (i + 1))
  one_more = omega arith

  pub passes : has exist i ≡ false → with_front front (children_at fmt exist leaf (16 - (i + 1)) (i + 1) bytes) ≡ total
  unfolding children_at
  passes none =
      let one : with_front front (children_at fmt exist leaf (16 - i) i bytes) ≡ with_front front (children_at fmt exist leaf (16 - (i + 1)) (i + 1) bytes) = rw (one_more, none) refl in
      sym one ∙ so_far

  pub goes_on : (c : Child) (after : List ℕ) → has exist i ≡ true → child_at fmt i (has leaf i) bytes ≡ Ok (c, after) → with_front (front ++ c ∷ []) (children_at fmt exist leaf (16 - (i + 1)) (i + 1) after) ≡ total
  unfolding children_at
  goes_on c after there read =
      let one : with_front front (children_at fmt exist leaf (16 - i) i bytes) ≡ with_front (front ++ c ∷ []) (children_at fmt exist leaf (16 - (i + 1)) (i + 1) after) =
      rw (one_more, there, read) (regroup front c (children_at fmt exist leaf (16 - (i + 1)) (i + 1) after))
      in
      sym one ∙ so_far

  pub ends : (e : CodecFault) → has exist i ≡ true → child_at fmt i (has leaf i) bytes ≡ Err e → total ≡ Err e
  unfolding children_at
  ends e there read =
      let one : with_front front (children_at fmt exist leaf (16 - i) i bytes) ≡ Err e = rw (one_more, there, read) refl in
      sym so_far ∙ one

pub is_done : (fmt : Format) (exist leaf : ℕ) (front : List Child) (i : ℕ) (bytes : List ℕ) (total : Many) → 16 ≤ i → with_front front (children_at fmt exist leaf (16 - i) i bytes) ≡ total → total ≡ Ok (front, bytes)
unfolding children_at
is_done fmt exist leaf front i bytes total le so_far =
    let k : 16 - i ≡ 0 = omega arith in
    let one : with_front front (children_at fmt exist leaf (16 - i) i bytes) ≡ Ok (front, bytes) = rw k (ap (λ (cs : List Child). Ok (cs, bytes)) (append-nil front)) in
    sym so_far ∙ one

-- children rise from the least nibble on, and are all below i
abbrev pub RiseBetween : ℕ → ℕ → List Child → Type 0
RiseBetween least i [] = least ≤ i
RiseBetween least i (c ∷ cs) = (least ≤ c.nibble) × RiseBetween (c.nibble + 1) i cs

pub rise_push : (least i : ℕ) (cs : List Child) (c : Child) → c.nibble ≡ i → RiseBetween least i cs → ChildrenRiseFrom least (cs ++ c ∷ [])
rise_push least i [] c e r = (omega arith, tt)
rise_push least i (d ∷ cs) c e r = (r.0, rise_push (d.nibble + 1) i cs c e r.1)

pub between_push : (least i : ℕ) (cs : List Child) (c : Child) → c.nibble ≡ i → RiseBetween least i cs → RiseBetween least (i + 1) (cs ++ c ∷ [])
between_push least i [] c e r = (omega arith, omega arith)
between_push least i (d ∷ cs) c e r = (r.0, between_push (d.nibble + 1) i cs c e r.1)

pub between_next : (least i : ℕ) (cs : List Child) → RiseBetween least i cs → RiseBetween least (i + 1) cs
between_next least i [] r = omega arith
between_next least i (d ∷ cs) r = (r.0, between_next (d.nibble + 1) i cs r.1)

pub child_named : (fmt : Format) (i : ℕ) (leaf : Bool) (bytes : List ℕ) (x : Child × List ℕ) → child_at fmt i leaf bytes ≡ Ok x → x.0.nibble ≡ i
unfolding child_at
child_named fmt i leaf bytes x e =
    let version = bind_ok (eight_at bytes) (λ version. count_at fmt leaf version.1 >>= λ count. bytes_at 32 count.1 >>= λ hash. Ok (record { nibble = i; version = version.0; hash = hash.0; leaf = leaf; count = count.0 }, hash.1)) x e in
    let count = bind_ok (count_at fmt leaf version.0.1) (λ count. bytes_at 32 count.1 >>= λ hash. Ok (record { nibble = i; version = version.0.0; hash = hash.0; leaf = leaf; count = count.0 }, hash.1)) x version.2 in
    let hash = bind_ok (bytes_at 32 count.0.1) (λ hash. Ok (record { nibble = i; version = version.0.0; hash = hash.0; leaf = leaf; count = count.0.0 }, hash.1)) x count.2 in
    sym (ap (λ (y : Child × List ℕ). y.0.nibble) (ok_is (record { nibble = i; version = version.0.0; hash = hash.0.0; leaf = leaf; count = count.0.0 }, hash.0.1) x hash.2))
