-- Reading children gives the children that were written, and only them.
use Rattle.std.proofs.Common.{◌≡◌, Bool, true, false, not, refl, ℕ, zero, suc, ◌^◌, ◌<◌, ◌≤◌, ◌==◌, sym, ◌∙◌, arith, eq-eqb, ◌↔◌, ◌||◌, IsTrue, ap, ap₂, cond, List, [], Ok, Err, subst, ◌+◌, ◌++◌, append_assoc, ◌&&◌, ◌∷◌, ◌⊎◌, inl, inr, Result}
use Rattle.std.proofs.lemmas.Bool.{eqb-true, eqb-false, or_parts, ne_eqb, cases_lt}
use Rattle.std.proofs.lemmas.List.Concat.{flat_map-cons}
use Rattle.std.specs.Bool.{beq}
use Rattle.std.specs.List.{AllByRecursion, flat_map}
use Rattle.jf_path.specs.Numbers.{eight_bytes}
use Rattle.jf_path.specs.declared.children.Child.{Child}
use Rattle.jf_path.specs.Nodes.{ChildrenRiseFrom}
use Rattle.jf_path.proofs.ByteLaws.{AreBytes, Takes, Takes-then}
use Rattle.jf_codec.specs.Spelling.{IsCount, count_bytes, IsChild, child_bytes, leaf_children}
use Rattle.jf_codec.specs.Reading.{is_wrong_count, eight_at, count_at, ◌>>=◌, bytes_at, child_at, has, children_at}
use Rattle.jf_codec.specs.declared.format.Format.{Format}
use Rattle.jf_codec.specs.declared.fault.CodecFault.{CodecFault}
use Rattle.jf_codec.specs.declared.format.Format.TheVariants as format
use Rattle.jf_codec.specs.declared.fault.CodecFault.TheVariants as fault
use Rattle.jf_codec.proofs.FieldLaws.{bind_ok, guard_ok, ok_is, eight_takes, eight_again, bytes_take, bytes_again}
use Rattle.jf_codec.proofs.Bits.{holds, low_none, rise_leaves}

-- ---- counts
agree : (leaf one : Bool) → not (beq leaf one) ≡ false → leaf ≡ one
agree true true e = refl
agree true false e = absurd cc
agree false true e = absurd cc
agree false false e = refl

beq_same : (b : Bool) → beq b b ≡ true
beq_same true = refl
beq_same false = refl

count_right : (leaf : Bool) (count : ℕ) → count < 2 ^ 64 → is_wrong_count leaf count ≡ false → IsCount format.Two leaf count
count_right leaf count lt right =
    let parts = or_parts (count == 0) (not (beq leaf (count == 1))) right in
    let some = eqb-false count 0 parts.0 in
    let same = agree leaf (count == 1) parts.1 in
    (positive count some, lt, (λ h. eqb-true count 1 (sym same ∙ h), λ e. same ∙ eq-eqb count 1 e))
  where
    positive : (n : ℕ) → (n ≡ 0 → ⊥) → 1 ≤ n
    positive zero ne = absurd (ne refl)
    positive (suc n) ne = omega arith

count_not_wrong : (leaf : Bool) (count : ℕ) → IsCount format.Two leaf count → is_wrong_count leaf count ≡ false
count_not_wrong leaf count is =
    let some : (count == 0) ≡ false = ne_eqb count 0 (λ e. let p = is.0 in omega arith) in
    let same : leaf ≡ (count == 1) = as_one leaf count is.2 in
    ap₂ (λ a b. a || not b) some (ap (λ l. beq l (count == 1)) same ∙ beq_same (count == 1))
  where
    as_one : (l : Bool) (n : ℕ) → (IsTrue l ↔ (n ≡ 1)) → l ≡ (n == 1)
    as_one true n iff = sym (eq-eqb n 1 (iff.0 refl))
    as_one false n iff = sym (ne_eqb n 1 (λ e. absurd (let h = iff.1 e in cc)))

count_takes : (fmt : Format) (leaf : Bool) (bytes : List ℕ) (x : ℕ × List ℕ) → AreBytes bytes → count_at fmt leaf bytes ≡ Ok x → Takes bytes (count_bytes fmt x.0) x.1 × IsCount fmt leaf x.0
unfolding count_at
count_takes format.One leaf bytes x fits e = subst (λ (y : ℕ × List ℕ). Takes bytes [] y.1 × (y.0 ≡ 0)) (ok_is (0, bytes) x e) (record { parts = refl; rest_fits = fits }, refl)
count_takes format.Two leaf bytes x fits e =
    let n = bind_ok (eight_at bytes) (λ count. cond (is_wrong_count leaf count.0) (Err fault.Count) (Ok count)) x e in
    let g = guard_ok (is_wrong_count leaf n.0.0) fault.Count (Ok n.0) x n.2 in
    let t = eight_takes bytes n.0 fits n.1 in
    subst (λ (y : ℕ × List ℕ). Takes bytes (eight_bytes y.0) y.1 × IsCount format.Two leaf y.0) (ok_is n.0 x g.1) (t.0, count_right leaf n.0.0 t.1 g.0)

count_again : (fmt : Format) (leaf : Bool) (count : ℕ) (rest : List ℕ) → IsCount fmt leaf count → count_at fmt leaf (count_bytes fmt count ++ rest) ≡ Ok (count, rest)
unfolding count_at
count_again format.One leaf count rest is = ap (λ n. Ok (n, rest)) (sym is)
count_again format.Two leaf count rest is = rw (eight_again count rest is.1, count_not_wrong leaf count is) refl

-- ---- a child
pub record IsChildAt (fmt : Format) (i : ℕ) (leaf : Bool) (c : Child) : Type 0 where
  pub child : IsChild fmt c
  pub nibble : c.nibble ≡ i
  pub leaf_is : c.leaf ≡ leaf

child_takes : (fmt : Format) (i : ℕ) (leaf : Bool) (bytes : List ℕ) (x : Child × List ℕ) → i < 16 → AreBytes bytes → child_at fmt i leaf bytes ≡ Ok x → Takes bytes (child_bytes fmt x.0) x.1 × IsChildAt fmt i leaf x.0
unfolding child_at
child_takes fmt i leaf bytes x lt fits e =
    let version = bind_ok (eight_at bytes) (λ version. count_at fmt leaf version.1 >>= λ count. bytes_at 32 count.1 >>= λ hash. Ok (record { nibble = i; version = version.0; hash = hash.0; leaf = leaf; count = count.0 }, hash.1)) x e in
    let count = bind_ok (count_at fmt leaf version.0.1) (λ count. bytes_at 32 count.1 >>= λ hash. Ok (record { nibble = i; version = version.0.0; hash = hash.0; leaf = leaf; count = count.0 }, hash.1)) x version.2 in
    let hash = bind_ok (bytes_at 32 count.0.1) (λ hash. Ok (record { nibble = i; version = version.0.0; hash = hash.0; leaf = leaf; count = count.0.0 }, hash.1)) x count.2 in
    let first = eight_takes bytes version.0 fits version.1 in
    let second = count_takes fmt leaf version.0.1 count.0 first.0.rest_fits count.1 in
    let third = bytes_take 32 count.0.1 hash.0 second.0.rest_fits hash.1 in
    let both = Takes-then bytes (eight_bytes version.0.0) version.0.1 (count_bytes fmt count.0.0) count.0.1 first.0 second.0 in
    let all = Takes-then bytes (eight_bytes version.0.0 ++ count_bytes fmt count.0.0) count.0.1 hash.0.0 hash.0.1 both third.0 in
    subst (λ (y : Child × List ℕ). Takes bytes (child_bytes fmt y.0) y.1 × IsChildAt fmt i leaf y.0) (ok_is (record { nibble = i; version = version.0.0; hash = hash.0.0; leaf = leaf; count = count.0.0 }, hash.0.1) x hash.2)
    (all, record { child = record { nibble = lt; version = first.1; hash = record { long = third.1; bytes = third.2 }; count = second.1 }; nibble = refl; leaf_is = refl })

child_again : (fmt : Format) (c : Child) (rest : List ℕ) → IsChild fmt c → child_at fmt c.nibble c.leaf (child_bytes fmt c ++ rest) ≡ Ok (c, rest)
unfolding child_at
child_again fmt c rest is =
    let regrouped : child_bytes fmt c ++ rest ≡ eight_bytes c.version ++ (count_bytes fmt c.count ++ (c.hash ++ rest)) = append_assoc (eight_bytes c.version ++ count_bytes fmt c.count) c.hash rest ∙ append_assoc (eight_bytes c.version) (count_bytes fmt c.count) (c.hash ++ rest) in
    ap (child_at fmt c.nibble c.leaf) regrouped
    ∙ rw (eight_again c.version (count_bytes fmt c.count ++ (c.hash ++ rest)) is.version, count_again fmt c.leaf c.count (c.hash ++ rest) is.count, bytes_again 32 c.hash rest is.hash.long) refl

-- ---- all children
-- children that stand at just the nibbles that the bitmaps name, from nibble i on
pub record AreAt (fmt : Format) (exist leaf n i : ℕ) (cs : List Child) : Type 0 where
  pub sound : AllByRecursion (IsChild fmt) cs
  pub rise : ChildrenRiseFrom i cs
  pub bits : (k : ℕ) → i ≤ k → k < i + n → holds cs k ≡ has exist k
  pub leaf_bits : (k : ℕ) → i ≤ k → k < i + n → holds (leaf_children cs) k ≡ (has exist k && has leaf k)

rise_from_next : (i : ℕ) (cs : List Child) → ChildrenRiseFrom (i + 1) cs → ChildrenRiseFrom i cs
rise_from_next i [] r = tt
rise_from_next i (c ∷ cs) r = (let l = r.0 in omega arith, r.1)

at_next : (i k : ℕ) → i ≤ k → (i ≡ k) ⊎ (i + 1 ≤ k)
at_next i k le = elim (cases_lt i k) [ inl lt ↦ inr (omega arith) | inr ge ↦ inl (omega arith) ]

none_at : (fmt : Format) (exist leaf n i : ℕ) (cs : List Child) → has exist i ≡ false → AreAt fmt exist leaf n (i + 1) cs → AreAt fmt exist leaf (suc n) i cs
none_at fmt exist leaf n i cs none a = record {
  sound = a.sound;
  rise = rise_from_next i cs a.rise;
  bits = λ k le lt. elim (at_next i k le) [
    | inl e ↦ low_none (i + 1) cs k a.rise (omega arith) ∙ sym none ∙ ap (has exist) e
    | inr later ↦ a.bits k later (omega arith)
  ];
  leaf_bits = λ k le lt. elim (at_next i k le) [
    | inl e ↦ low_none (i + 1) (leaf_children cs) k (rise_leaves (i + 1) cs a.rise) (omega arith) ∙ sym (ap (λ b. b && has leaf k) (ap (has exist) (sym e) ∙ none))
    | inr later ↦ a.leaf_bits k later (omega arith)
  ];
}

one_at : (fmt : Format) (exist leaf n i : ℕ) (c : Child) (cs : List Child) → has exist i ≡ true → IsChildAt fmt i (has leaf i) c → AreAt fmt exist leaf n (i + 1) cs → AreAt fmt exist leaf (suc n) i (c ∷ cs)
one_at fmt exist leaf n i c cs there is a =
    let above : ChildrenRiseFrom (c.nibble + 1) cs = subst (λ j. ChildrenRiseFrom (j + 1) cs) (sym is.nibble) a.rise in
    record {
      sound = (is.child, a.sound);
      rise = (let e = is.nibble in omega arith, above);
      bits = λ k le lt. elim (at_next i k le) [
        | inl e ↦ ap (λ b. b || holds cs k) (eq-eqb c.nibble k (is.nibble ∙ e)) ∙ sym there ∙ ap (has exist) e
        | inr later ↦ ap (λ b. b || holds cs k) (ne_eqb c.nibble k (λ e. let m = is.nibble in omega arith)) ∙ a.bits k later (omega arith)
      ];
      leaf_bits = λ k le lt. elim (at_next i k le) [
        | inl e ↦
            leaf_here c cs k (is.nibble ∙ e) (low_none (i + 1) (leaf_children cs) k (rise_leaves (i + 1) cs a.rise) (omega arith)) ∙ is.leaf_is
            ∙ ap (has leaf) e ∙ sym (ap (λ b. b && has leaf k) (ap (has exist) (sym e) ∙ there))
        | inr later ↦ leaf_later c cs k (λ e. let m = is.nibble in omega arith) ∙ a.leaf_bits k later (omega arith)
      ];
    }
  where
    leaf_here : (d : Child) (ds : List Child) (k : ℕ) → d.nibble ≡ k → holds (leaf_children ds) k ≡ false → holds (leaf_children (d ∷ ds)) k ≡ d.leaf
    leaf_here d ds k e none = elim d.leaf as (λ b. holds (cond b (d ∷ leaf_children ds) (leaf_children ds)) k ≡ b) [ true ↦ ap (λ t. t || holds (leaf_children ds) k) (eq-eqb d.nibble k e) | false ↦ none ]

    leaf_later : (d : Child) (ds : List Child) (k : ℕ) → (d.nibble ≡ k → ⊥) → holds (leaf_children (d ∷ ds)) k ≡ holds (leaf_children ds) k
    leaf_later d ds k ne = elim d.leaf as (λ b. holds (cond b (d ∷ leaf_children ds) (leaf_children ds)) k ≡ holds (leaf_children ds) k) [ true ↦ ap (λ t. t || holds (leaf_children ds) k) (ne_eqb d.nibble k ne) | false ↦ refl ]

pub children_take : (fmt : Format) (exist leaf n i : ℕ) (bytes : List ℕ) (x : List Child × List ℕ) → i + n ≤ 16 → AreBytes bytes → children_at fmt exist leaf n i bytes ≡ Ok x
    → Takes bytes (flat_map (child_bytes fmt) x.0) x.1 × AreAt fmt exist leaf n i x.0
unfolding children_at
children_take fmt exist leaf zero i bytes x within fits e =
    subst (λ (y : List Child × List ℕ). Takes bytes (flat_map (child_bytes fmt) y.0) y.1 × AreAt fmt exist leaf 0 i y.0) (ok_is ([], bytes) x e)
    (record { parts = refl; rest_fits = fits }, record { sound = tt; rise = tt; bits = λ k le lt. absurd (omega arith); leaf_bits = λ k le lt. absurd (omega arith) })
children_take fmt exist leaf (suc n) i bytes x within fits e =
    let here : Result (List Child × List ℕ) CodecFault = child_at fmt i (has leaf i) bytes >>= λ c. children_at fmt exist leaf n (i + 1) c.1 >>= λ cs. Ok (c.0 ∷ cs.0, cs.1) in
    elim (has exist i) as (λ b. has exist i ≡ b → cond b here (children_at fmt exist leaf n (i + 1) bytes) ≡ Ok x → Takes bytes (flat_map (child_bytes fmt) x.0) x.1 × AreAt fmt exist leaf (suc n) i x.0) [
      | true ↦ λ there g.
          let c = bind_ok (child_at fmt i (has leaf i) bytes) (λ c. children_at fmt exist leaf n (i + 1) c.1 >>= λ cs. Ok (c.0 ∷ cs.0, cs.1)) x g in
          let cs = bind_ok (children_at fmt exist leaf n (i + 1) c.0.1) (λ cs. Ok (c.0.0 ∷ cs.0, cs.1)) x c.2 in
          let first = child_takes fmt i (has leaf i) bytes c.0 (omega arith) fits c.1 in
          let second = children_take fmt exist leaf n (i + 1) c.0.1 cs.0 (omega arith) first.0.rest_fits cs.1 in
          let both = Takes-then bytes (child_bytes fmt c.0.0) c.0.1 (flat_map (child_bytes fmt) cs.0.0) cs.0.1 first.0 second.0 in
          subst (λ (y : List Child × List ℕ). Takes bytes (flat_map (child_bytes fmt) y.0) y.1 × AreAt fmt exist leaf (suc n) i y.0) (ok_is (c.0.0 ∷ cs.0.0, cs.0.1) x cs.2)
          (subst (λ (t : List ℕ). Takes bytes t cs.0.1) (sym (flat_map-cons (child_bytes fmt) c.0.0 cs.0.0)) both, one_at fmt exist leaf n i c.0.0 cs.0.0 there first.1 second.1)
      | false ↦ λ none g. let r = children_take fmt exist leaf n (i + 1) bytes x (omega arith) fits g in (r.0, none_at fmt exist leaf n i x.0 none r.1)
    ] refl e

-- children that were written are read again
pub children_again : (fmt : Format) (exist leaf n i : ℕ) (cs : List Child) (rest : List ℕ) → AllByRecursion (IsChild fmt) cs → ChildrenRiseFrom i cs → i + n ≡ 16
    → ((k : ℕ) → i ≤ k → has exist k ≡ holds cs k) → ((k : ℕ) → i ≤ k → has leaf k ≡ holds (leaf_children cs) k) → children_at fmt exist leaf n i (flat_map (child_bytes fmt) cs ++ rest) ≡ Ok (cs, rest)
unfolding children_at
children_again fmt exist leaf zero i [] rest sound r within bits leaf_bits = refl
children_again fmt exist leaf zero i (c ∷ cs) rest sound r within bits leaf_bits = absurd (let l = r.0 in let s = sound.0.nibble in omega arith)
children_again fmt exist leaf (suc n) i [] rest sound r within bits leaf_bits =
    rw (bits i (omega arith)) (children_again fmt exist leaf n (i + 1) [] rest sound tt (omega arith) (λ k le. bits k (omega arith)) (λ k le. leaf_bits k (omega arith)))
children_again fmt exist leaf (suc n) i (c ∷ cs) rest sound r within bits leaf_bits =
    elim (at_next i c.nibble r.0) [
      | inl here ↦
          let there : has exist i ≡ true = bits i (omega arith) ∙ ap (λ b. b || holds cs i) (eq-eqb c.nibble i (sym here)) in
          let next : ChildrenRiseFrom (i + 1) cs = subst (λ j. ChildrenRiseFrom (j + 1) cs) (sym here) r.1 in
          let leaf_is : has leaf i ≡ c.leaf = leaf_bits i (omega arith) ∙ leaf_of c cs i (sym here) (low_none (i + 1) (leaf_children cs) i (rise_leaves (i + 1) cs next) (omega arith)) in
          let text : flat_map (child_bytes fmt) (c ∷ cs) ++ rest ≡ child_bytes fmt c ++ (flat_map (child_bytes fmt) cs ++ rest) =
          ap (λ (t : List ℕ). t ++ rest) (flat_map-cons (child_bytes fmt) c cs) ∙ append_assoc (child_bytes fmt c) (flat_map (child_bytes fmt) cs) rest
          in
          let read : child_at fmt i (has leaf i) (child_bytes fmt c ++ (flat_map (child_bytes fmt) cs ++ rest)) ≡ Ok (c, flat_map (child_bytes fmt) cs ++ rest) =
          ap₂ (λ j l. child_at fmt j l (child_bytes fmt c ++ (flat_map (child_bytes fmt) cs ++ rest))) here leaf_is ∙ child_again fmt c (flat_map (child_bytes fmt) cs ++ rest) sound.0
          in
          let others = children_again fmt exist leaf n (i + 1) cs rest sound.1 next (omega arith)
          (λ k le. bits k (omega arith) ∙ ap (λ b. b || holds cs k) (ne_eqb c.nibble k (λ e. omega arith))) (λ k le. leaf_bits k (omega arith) ∙ leaf_not c cs k (λ e. omega arith)) in
          ap (children_at fmt exist leaf (suc n) i) text ∙ rw (there, read, others) refl
      | inr later ↦
          rw (bits i (omega arith) ∙ low_none (i + 1) (c ∷ cs) i (later, r.1) (omega arith))
          (children_again fmt exist leaf n (i + 1) (c ∷ cs) rest sound (later, r.1) (omega arith) (λ k le. bits k (omega arith)) (λ k le. leaf_bits k (omega arith)))
    ]
  where
    leaf_of : (d : Child) (ds : List Child) (k : ℕ) → d.nibble ≡ k → holds (leaf_children ds) k ≡ false → holds (leaf_children (d ∷ ds)) k ≡ d.leaf
    leaf_of d ds k e none = elim d.leaf as (λ b. holds (cond b (d ∷ leaf_children ds) (leaf_children ds)) k ≡ b) [ true ↦ ap (λ t. t || holds (leaf_children ds) k) (eq-eqb d.nibble k e) | false ↦ none ]

    leaf_not : (d : Child) (ds : List Child) (k : ℕ) → (d.nibble ≡ k → ⊥) → holds (leaf_children (d ∷ ds)) k ≡ holds (leaf_children ds) k
    leaf_not d ds k ne = elim d.leaf as (λ b. holds (cond b (d ∷ leaf_children ds) (leaf_children ds)) k ≡ holds (leaf_children ds) k) [ true ↦ ap (λ t. t || holds (leaf_children ds) k) (ne_eqb d.nibble k ne) | false ↦ refl ]
