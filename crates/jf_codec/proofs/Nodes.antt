-- Reading a node gives the node that was written, and only that.
use Rattle.std.proofs.Common.{◌≡◌, ℕ, ◌+◌, ◌-◌, ◌≤◌, cond, List, ◌++◌, length, Ok, Err, sym, subst, arith, ltb, false, refl, ap, ◌∙◌, append_assoc, ◌∷◌, ◌^◌, ◌<◌, ◌&&◌, ◌==◌, bit_and, not, ◌||◌, [], ap₂, eq-eqb, inl, inr, true≢false, Bool, true, zero, suc, drop, Result, IfOk}
use Rattle.std.proofs.lemmas.Bool.{ltb-false, le-ltb, eqb-true, eqb-false, or_parts, not-false, ne_eqb, cases_Bool}
use Rattle.std.proofs.lemmas.List.{length-append, append-nil}
use Rattle.std.specs.Int.{is_power_of_two}
use Rattle.std.specs.List.{AllByRecursion, flat_map}
use Rattle.jf_path.specs.Numbers.{four_bytes, two_bytes}
use Rattle.jf_path.specs.declared.node.PlainNode.{PlainNode}
use Rattle.jf_path.specs.Keys.{IsKey}
use Rattle.jf_path.specs.Nodes.{ChildrenRiseFrom}
use Rattle.jf_path.specs.declared.children.Child.{Child}
use Rattle.jf_path.specs.declared.node.PlainNode.TheVariants as node
use Rattle.jf_path.proofs.ByteLaws.{AreBytes, Takes, Takes-then, IsBytes-from_places, AreBytes-rest}
use Rattle.jf_codec.specs.Reading.{bytes_at, four_at, value_at, ◌>>=◌, leaf_at, two_at, are_wrong, bitmaps_at, has, children_at, inner_at, node_at, ReadsGivenMemory, reading_with_length, whole_in}
use Rattle.jf_codec.specs.declared.format.Format.{Format}
use Rattle.jf_codec.specs.Spelling.{node_bytes, IsNode, format_of, bitmap, leaf_children, AreEnough, IsChild, format_of_children, tag, child_bytes, IsValid, spelling}
use Rattle.jf_codec.specs.declared.fault.CodecFault.{CodecFault}
use Rattle.jf_codec.specs.declared.fault.CodecFault.TheVariants as fault
use Rattle.jf_codec.specs.declared.format.Format.TheVariants as format
use Rattle.jf_codec.proofs.FieldLaws.{bind_ok, guard_ok, bytes_take, four_takes, bytes_again, four_again, ok_is, two_takes, two_again}
use Rattle.jf_codec.proofs.Bits.{positive, one_is_power, two_is_no_power, rise_leaves, small_leaves, bitmap-small, and_of_leaves, bitmap_of_bits, within_and, has-holds}
use Rattle.jf_codec.proofs.Children.{children_take, children_again}
use Rattle.jf_codec.proofs.Counted.{nibbles_of}
use Rattle.jf_codec.proofs.Names.{taken, left}

-- ---- leaves
value_takes : (bytes : List ℕ) (x : List ℕ × List ℕ) → AreBytes bytes → value_at bytes ≡ Ok x → Takes bytes (four_bytes (length x.0) ++ x.0) x.1 × (length x.0 ≤ 4096) × AreBytes x.0
unfolding value_at
value_takes bytes x fits e =
    let n = bind_ok (four_at bytes) (λ n. cond (ltb 4096 n.0) (Err fault.Length) (bytes_at n.0 n.1)) x e in
    let first = four_takes bytes n.0 fits n.1 in
    let g = guard_ok (ltb 4096 n.0.0) fault.Length (bytes_at n.0.0 n.0.1) x n.2 in
    let short : n.0.0 ≤ 4096 = ltb-false _ _ g.0 in
    let second = bytes_take n.0.0 n.0.1 x first.0.rest_fits g.1 in
    let both = Takes-then bytes (four_bytes n.0.0) n.0.1 x.0 x.1 first.0 second.0 in
    (subst (λ (k : ℕ). Takes bytes (four_bytes k ++ x.0) x.1) (sym second.1) both, omega (arith, second.1), second.2)

value_again : (value rest : List ℕ) → length value ≤ 4096 → value_at ((four_bytes (length value) ++ value) ++ rest) ≡ Ok (value, rest)
unfolding value_at
value_again value rest short =
    let long : ltb 4096 (length value) ≡ false = le-ltb _ _ short in
    ap value_at (append_assoc (four_bytes (length value)) value rest) ∙ rw (four_again (length value) (value ++ rest) (omega arith), long) (bytes_again (length value) value rest refl)

leaf_takes : (fmt : Format) (bytes : List ℕ) (x : PlainNode × List ℕ) → AreBytes bytes → leaf_at bytes ≡ Ok x → Takes (1 ∷ bytes) (node_bytes fmt x.0) x.1 × IsNode fmt x.0 × (fmt ≡ format.One → fmt ≡ format_of x.0)
unfolding leaf_at node_bytes
leaf_takes fmt bytes x fits e =
    let key = bind_ok (bytes_at 32 bytes) (λ key. value_at key.1 >>= λ value. Ok (node.Leaf key.0 value.0, value.1)) x e in
    let value = bind_ok (value_at key.0.1) (λ value. Ok (node.Leaf key.0.0 value.0, value.1)) x key.2 in
    let first = bytes_take 32 bytes key.0 fits key.1 in
    let second = value_takes key.0.1 value.0 first.0.rest_fits value.1 in
    let both = Takes-then bytes key.0.0 key.0.1 (four_bytes (length value.0.0) ++ value.0.0) value.0.1 first.0 second.0 in
    let text : key.0.0 ++ (four_bytes (length value.0.0) ++ value.0.0) ≡ key.0.0 ++ four_bytes (length value.0.0) ++ value.0.0 = sym (append_assoc key.0.0 (four_bytes (length value.0.0)) value.0.0) in
    subst (λ (y : PlainNode × List ℕ). Takes (1 ∷ bytes) (node_bytes fmt y.0) y.1 × IsNode fmt y.0 × (fmt ≡ format.One → fmt ≡ format_of y.0)) (ok_is (node.Leaf key.0.0 value.0.0, value.0.1) x value.2) (
      record { parts = ap (λ (bs : List ℕ). 1 ∷ bs) (both.parts ∙ ap (λ (t : List ℕ). t ++ value.0.1) text); rest_fits = both.rest_fits },
      (record { long = first.1; bytes = first.2 }, IsBytes-from_places value.0.0 second.2, second.1),
      λ one. one,
    )

leaf_again : (key value rest : List ℕ) → IsKey key → length value ≤ 4096 → leaf_at ((key ++ four_bytes (length value) ++ value) ++ rest) ≡ Ok (node.Leaf key value, rest)
unfolding leaf_at
leaf_again key value rest is short =
    let text : (key ++ four_bytes (length value) ++ value) ++ rest ≡ key ++ ((four_bytes (length value) ++ value) ++ rest) =
    ap (λ (t : List ℕ). t ++ rest) (append_assoc key (four_bytes (length value)) value) ∙ append_assoc key (four_bytes (length value) ++ value) rest
    in
    ap leaf_at text ∙ rw (bytes_again 32 key ((four_bytes (length value) ++ value) ++ rest) is.long, value_again value rest short) refl

-- ---- bitmaps
-- bitmaps that were read are those of an internal node
pub record AreBitmaps (exist leaf : ℕ) : Type 0 where
  pub exist_fits : exist < 2 ^ 16
  pub leaf_fits : leaf < 2 ^ 16
  pub some : exist ≡ 0 → ⊥
  pub within : bit_and exist leaf ≡ leaf
  pub single : (is_power_of_two exist && (leaf == exist)) ≡ false

bitmaps_take : (bytes : List ℕ) (x : (ℕ × ℕ) × List ℕ) → AreBytes bytes → bitmaps_at bytes ≡ Ok x → Takes bytes (two_bytes x.0.0 ++ two_bytes x.0.1) x.1 × AreBitmaps x.0.0 x.0.1
unfolding bitmaps_at are_wrong
bitmaps_take bytes x fits e =
    let exist = bind_ok (two_at bytes) (λ exist. two_at exist.1 >>= λ leaf. cond (are_wrong exist.0 leaf.0) (Err fault.Bitmap) (Ok ((exist.0, leaf.0), leaf.1))) x e in
    let leaf = bind_ok (two_at exist.0.1) (λ leaf. cond (are_wrong exist.0.0 leaf.0) (Err fault.Bitmap) (Ok ((exist.0.0, leaf.0), leaf.1))) x exist.2 in
    let g = guard_ok (are_wrong exist.0.0 leaf.0.0) fault.Bitmap (Ok ((exist.0.0, leaf.0.0), leaf.0.1)) x leaf.2 in
    let first = two_takes bytes exist.0 fits exist.1 in
    let second = two_takes exist.0.1 leaf.0 first.0.rest_fits leaf.1 in
    let outer = or_parts ((exist.0.0 == 0) || not (bit_and exist.0.0 leaf.0.0 == leaf.0.0)) (is_power_of_two exist.0.0 && (leaf.0.0 == exist.0.0)) g.0 in
    let inner = or_parts (exist.0.0 == 0) (not (bit_and exist.0.0 leaf.0.0 == leaf.0.0)) outer.0 in
    subst (λ (y : (ℕ × ℕ) × List ℕ). Takes bytes (two_bytes y.0.0 ++ two_bytes y.0.1) y.1 × AreBitmaps y.0.0 y.0.1) (ok_is ((exist.0.0, leaf.0.0), leaf.0.1) x g.1) (
      Takes-then bytes (two_bytes exist.0.0) exist.0.1 (two_bytes leaf.0.0) leaf.0.1 first.0 second.0,
      record { exist_fits = first.1; leaf_fits = second.1; some = eqb-false _ _ inner.0; within = eqb-true _ _ (not-false _ inner.1); single = outer.1 },
    )

zero_no_power : (n m : ℕ) → (0 == 2 ^ n + m) ≡ false
zero_no_power n m = ne_eqb 0 (2 ^ n + m) (λ e. let p = positive n in omega arith)

single_right : (cs : List Child) → AreEnough cs → ChildrenRiseFrom 0 cs → (is_power_of_two (bitmap cs) && (bitmap (leaf_children cs) == bitmap cs)) ≡ false
single_right [] enough r = absurd enough
single_right (c ∷ []) enough r =
    ap₂ (λ a b. a && b) (one_is_power c.nibble) (ap (λ l. bitmap (cond l (c ∷ []) []) == 2 ^ c.nibble + 0) enough ∙ zero_no_power c.nibble 0)
single_right (c ∷ d ∷ cs) enough r = ap (λ a. a && (bitmap (leaf_children (c ∷ d ∷ cs)) == bitmap (c ∷ d ∷ cs))) (two_is_no_power c d cs r)

some_bits : (cs : List Child) → AreEnough cs → bitmap cs ≡ 0 → ⊥
some_bits [] enough e = enough
some_bits (c ∷ cs) enough e = let p = positive c.nibble in omega arith

bitmaps_again : (cs : List Child) (rest : List ℕ) → AreEnough cs → ChildrenRiseFrom 0 cs → AllByRecursion (λ c. c.nibble < 16) cs
    → bitmaps_at (two_bytes (bitmap cs) ++ (two_bytes (bitmap (leaf_children cs)) ++ rest)) ≡ Ok ((bitmap cs, bitmap (leaf_children cs)), rest)
unfolding bitmaps_at are_wrong
bitmaps_again cs rest enough r small =
    let right : are_wrong (bitmap cs) (bitmap (leaf_children cs)) ≡ false =
    ap₂ (λ a b. a || b) (ap₂ (λ a b. a || not b) (ne_eqb _ _ (some_bits cs enough)) (eq-eqb _ _ (and_of_leaves cs r))) (single_right cs enough r)
    in
    rw (two_again (bitmap cs) (two_bytes (bitmap (leaf_children cs)) ++ rest) (bitmap-small cs r small), two_again (bitmap (leaf_children cs)) rest (bitmap-small (leaf_children cs) (rise_leaves 0 cs r) (small_leaves cs small)), right) refl

-- ---- internal nodes
enough : (cs : List Child) → AreBitmaps (bitmap cs) (bitmap (leaf_children cs)) → AreEnough cs
enough [] are = are.some refl
enough (c ∷ []) are = elim (cases_Bool c.leaf) [
  | inl is ↦ absurd (true≢false (sym (ap₂ (λ a b. a && b) (one_is_power c.nibble) (ap (λ l. bitmap (cond l (c ∷ []) []) == 2 ^ c.nibble + 0) is ∙ eq-eqb _ _ refl)) ∙ are.single))
  | inr is ↦ is
]
enough (c ∷ d ∷ cs) are = tt

pub counted_format : (fmt : Format) (cs : List Child) → AreEnough cs → AllByRecursion (IsChild fmt) cs → format_of_children cs ≡ fmt
counted_format fmt [] some all = absurd some
counted_format format.One (c ∷ cs) some all = ap (λ b. cond b format.One format.Two) (eq-eqb c.count 0 all.0.count)
counted_format format.Two (c ∷ cs) some all = ap (λ b. cond b format.One format.Two) (ne_eqb c.count 0 (λ e. let p = all.0.count.0 in omega arith))

inner_takes : (fmt : Format) (bytes : List ℕ) (x : PlainNode × List ℕ) → AreBytes bytes → inner_at fmt bytes ≡ Ok x → Takes (tag fmt ∷ bytes) (node_bytes fmt x.0) x.1 × IsNode fmt x.0 × (fmt ≡ format_of x.0)
unfolding inner_at node_bytes
inner_takes fmt bytes x fits e =
    let bits = bind_ok (bitmaps_at bytes) (λ bits. children_at fmt bits.0.0 bits.0.1 16 0 bits.1 >>= λ cs. Ok (node.Inner cs.0, cs.1)) x e in
    let cs = bind_ok (children_at fmt bits.0.0.0 bits.0.0.1 16 0 bits.0.1) (λ cs. Ok (node.Inner cs.0, cs.1)) x bits.2 in
    let first = bitmaps_take bytes bits.0 fits bits.1 in
    let second = children_take fmt bits.0.0.0 bits.0.0.1 16 0 bits.0.1 cs.0 (omega arith) first.0.rest_fits cs.1 in
    let small = nibbles_of fmt cs.0.0 second.1.sound in
    let exist : bitmap cs.0.0 ≡ bits.0.0.0 = bitmap_of_bits cs.0.0 bits.0.0.0 second.1.rise small first.1.exist_fits (λ k lt. second.1.bits k (omega arith) (omega arith)) in
    let leaf : bitmap (leaf_children cs.0.0) ≡ bits.0.0.1 =
    bitmap_of_bits (leaf_children cs.0.0) bits.0.0.1 (rise_leaves 0 cs.0.0 second.1.rise) (small_leaves cs.0.0 small) first.1.leaf_fits
    (λ k lt. second.1.leaf_bits k (omega arith) (omega arith) ∙ both_bits bits.0.0.0 bits.0.0.1 k first.1.within)
    in
    let are : AreBitmaps (bitmap cs.0.0) (bitmap (leaf_children cs.0.0)) = subst (λ n. AreBitmaps n (bitmap (leaf_children cs.0.0))) (sym exist) (subst (λ n. AreBitmaps bits.0.0.0 n) (sym leaf) first.1) in
    let some = enough cs.0.0 are in
    let both = Takes-then bytes (two_bytes bits.0.0.0 ++ two_bytes bits.0.0.1) bits.0.1 (flat_map (child_bytes fmt) cs.0.0) cs.0.1 first.0 second.0 in
    let text : (two_bytes bits.0.0.0 ++ two_bytes bits.0.0.1) ++ flat_map (child_bytes fmt) cs.0.0 ≡ (two_bytes (bitmap cs.0.0) ++ two_bytes (bitmap (leaf_children cs.0.0))) ++ flat_map (child_bytes fmt) cs.0.0 =
    ap₂ (λ n m. (two_bytes n ++ two_bytes m) ++ flat_map (child_bytes fmt) cs.0.0) (sym exist) (sym leaf)
    in
    subst (λ (y : PlainNode × List ℕ). Takes (tag fmt ∷ bytes) (node_bytes fmt y.0) y.1 × IsNode fmt y.0 × (fmt ≡ format_of y.0)) (ok_is (node.Inner cs.0.0, cs.0.1) x cs.2) (
      record { parts = ap (λ (bs : List ℕ). tag fmt ∷ bs) (both.parts ∙ ap (λ (t : List ℕ). t ++ cs.0.1) text); rest_fits = both.rest_fits },
      (some, second.1.rise, second.1.sound),
      sym (counted_format fmt cs.0.0 some second.1.sound),
    )
  where
    both_bits : (exist leaf k : ℕ) → bit_and exist leaf ≡ leaf → (has exist k && has leaf k) ≡ has leaf k
    both_bits exist leaf k within = elim (cases_Bool (has leaf k)) [
      | inl is ↦ ap₂ (λ a b. a && b) (within_and exist leaf k within is) is ∙ sym is
      | inr not_so ↦ ap (λ b. has exist k && b) not_so ∙ and_none (has exist k) ∙ sym not_so
    ]
      where
        and_none : (b : Bool) → (b && false) ≡ false
        and_none true = refl
        and_none false = refl

inner_again : (fmt : Format) (cs : List Child) (rest : List ℕ) → IsNode fmt (node.Inner cs) → inner_at fmt ((two_bytes (bitmap cs) ++ two_bytes (bitmap (leaf_children cs)) ++ flat_map (child_bytes fmt) cs) ++ rest) ≡ Ok (node.Inner cs, rest)
unfolding inner_at
inner_again fmt cs rest is =
    let a = two_bytes (bitmap cs) in
    let b = two_bytes (bitmap (leaf_children cs)) in
    let text : (a ++ b ++ flat_map (child_bytes fmt) cs) ++ rest ≡ a ++ (b ++ (flat_map (child_bytes fmt) cs ++ rest)) =
    append_assoc (a ++ b) (flat_map (child_bytes fmt) cs) rest ∙ append_assoc a b (flat_map (child_bytes fmt) cs ++ rest)
    in
    let small = nibbles_of fmt cs is.2 in
    ap (inner_at fmt) text
    ∙ rw (
      bitmaps_again cs (flat_map (child_bytes fmt) cs ++ rest) is.0 is.1 small,
      children_again fmt (bitmap cs) (bitmap (leaf_children cs)) 16 0 cs rest is.2 is.1 refl (λ k le. has-holds 0 cs k is.1) (λ k le. has-holds 0 (leaf_children cs) k (rise_leaves 0 cs is.1)),
    )
    refl

-- ---- nodes
pub node_takes : (bytes : List ℕ) (x : PlainNode × List ℕ) → AreBytes bytes → node_at bytes ≡ Ok x → Takes bytes (spelling x.0) x.1 × IsValid x.0
unfolding node_at node_bytes
node_takes [] x fits e = absurd cc
node_takes (zero ∷ bytes) x fits e =
    subst (λ (y : PlainNode × List ℕ). Takes (0 ∷ bytes) (spelling y.0) y.1 × IsValid y.0) (ok_is (node.Null, bytes) x e) (record { parts = refl; rest_fits = AreBytes-rest 0 bytes fits }, tt)
node_takes (suc zero ∷ bytes) x fits e =
    let t = leaf_takes format.One bytes x (AreBytes-rest 1 bytes fits) e in
    let same : format.One ≡ format_of x.0 = t.2 refl in
    (subst (λ f. Takes (1 ∷ bytes) (node_bytes f x.0) x.1) same t.0, subst (λ f. IsNode f x.0) same t.1)
node_takes (suc (suc zero) ∷ bytes) x fits e =
    let t = inner_takes format.One bytes x (AreBytes-rest 2 bytes fits) e in
    (subst (λ f. Takes (2 ∷ bytes) (node_bytes f x.0) x.1) t.2 t.0, subst (λ f. IsNode f x.0) t.2 t.1)
node_takes (suc (suc (suc zero)) ∷ bytes) x fits e =
    let t = inner_takes format.Two bytes x (AreBytes-rest 3 bytes fits) e in
    (subst (λ f. Takes (3 ∷ bytes) (node_bytes f x.0) x.1) t.2 t.0, subst (λ f. IsNode f x.0) t.2 t.1)
node_takes (suc (suc (suc (suc tag))) ∷ bytes) x fits e = absurd cc

tagged : (fmt : Format) (bytes : List ℕ) → node_at (tag fmt ∷ bytes) ≡ inner_at fmt bytes
unfolding node_at
tagged format.One bytes = refl
tagged format.Two bytes = refl

in_format : (fmt : Format) (n : PlainNode) (rest : List ℕ) → IsNode fmt n → node_at (node_bytes fmt n ++ rest) ≡ Ok (n, rest)
unfolding node_at node_bytes
in_format fmt node.Null rest is = refl
in_format fmt (node.Leaf key value) rest is = leaf_again key value rest is.0 is.2
in_format fmt (node.Inner cs) rest is = tagged fmt ((two_bytes (bitmap cs) ++ two_bytes (bitmap (leaf_children cs)) ++ flat_map (child_bytes fmt) cs) ++ rest) ∙ inner_again fmt cs rest is

pub node_again : (n : PlainNode) (rest : List ℕ) → IsValid n → node_at (spelling n ++ rest) ≡ Ok (n, rest)
node_again n rest is = in_format (format_of n) n rest is

-- ---- nodes with their length in bytes, and nodes that take all bytes
pub node_short : (bytes : List ℕ) (x : PlainNode × List ℕ) → AreBytes bytes → node_at bytes ≡ Ok x → length x.1 ≤ length bytes
node_short bytes x fits e = let t = node_takes bytes x fits e in let l = ap length t.0.parts ∙ length-append (spelling x.0) x.1 in omega arith

pub is_node_found : (bytes : List ℕ) (r : Result (PlainNode × ℕ) CodecFault) → AreBytes bytes → ReadsGivenMemory (λ x. x) r (reading_with_length bytes (node_at bytes))
    → IfOk r (λ x. IsValid x.0 × (bytes ≡ spelling x.0 ++ drop x.1 bytes) × (x.1 ≡ length (spelling x.0)))
is_node_found bytes (Err e) fits gives = tt
is_node_found bytes (Ok x) fits gives =
    let n = bind_ok (node_at bytes) (λ y. Ok (y.0, length bytes - length y.1)) x gives in
    let t = node_takes bytes n.0 fits n.1 in
    subst (λ (y : PlainNode × ℕ). IsValid y.0 × (bytes ≡ spelling y.0 ++ drop y.1 bytes) × (y.1 ≡ length (spelling y.0))) (ok_is (n.0.0, length bytes - length n.0.1) x n.2)
    (t.1, left bytes (spelling n.0.0) n.0.1 t.0.parts, taken bytes (spelling n.0.0) n.0.1 t.0.parts)

pub is_only_node : (bytes : List ℕ) (r : Result (PlainNode × ℕ) CodecFault) → ReadsGivenMemory (λ x. x) r (reading_with_length bytes (node_at bytes))
    → (n : PlainNode) (rest : List ℕ) → IsValid n → bytes ≡ spelling n ++ rest → ReadsGivenMemory (λ x. x) r (Ok (n, length (spelling n)))
is_only_node bytes r gives n rest is e =
    let read : reading_with_length bytes (node_at bytes) ≡ Ok (n, length (spelling n)) = ap (reading_with_length bytes) (ap node_at e ∙ node_again n rest is) ∙ ap (λ (k : ℕ). Ok (n, k)) (taken bytes (spelling n) rest e) in
    subst (ReadsGivenMemory (λ x. x) r) read gives

none_left : (rest : List ℕ) → length rest ≡ 0 → rest ≡ []
none_left [] e = refl
none_left (b ∷ rest) e = absurd (omega arith)

pub is_whole_found : (bytes : List ℕ) (r : Result PlainNode CodecFault) → AreBytes bytes → ReadsGivenMemory (λ x. x) r (whole_in bytes) → IfOk r (λ n. IsValid n × (bytes ≡ spelling n))
unfolding whole_in
is_whole_found bytes (Err e) fits gives = tt
is_whole_found bytes (Ok n) fits gives =
    let x = bind_ok (node_at bytes) (λ y. cond (length y.1 == 0) (Ok y.0) (Err fault.Rest)) n gives in
    let t = node_takes bytes x.0 fits x.1 in
    let done : (length x.0.1 ≡ 0) × (x.0.0 ≡ n) = elim (cases_Bool (length x.0.1 == 0)) [
      | inl is ↦ (eqb-true _ _ is, ok_is x.0.0 n (ap (λ b. cond b (Ok x.0.0) (Err fault.Rest)) (sym is) ∙ x.2))
      | inr not_so ↦ absurd (let e = ap (λ b. cond b (Ok x.0.0) (Err fault.Rest)) (sym not_so) ∙ x.2 in cc)
    ]
    in
    subst (λ (m : PlainNode). IsValid m × (bytes ≡ spelling m)) done.1 (t.1, t.0.parts ∙ ap (λ (rest : List ℕ). spelling x.0.0 ++ rest) (none_left x.0.1 done.0) ∙ append-nil (spelling x.0.0))

pub is_only_whole : (bytes : List ℕ) (r : Result PlainNode CodecFault) → ReadsGivenMemory (λ x. x) r (whole_in bytes) → (n : PlainNode) → IsValid n → bytes ≡ spelling n → ReadsGivenMemory (λ x. x) r (Ok n)
unfolding whole_in
is_only_whole bytes r gives n is e =
    let all : node_at bytes ≡ Ok (n, []) = ap node_at (e ∙ sym (append-nil (spelling n))) ∙ node_again n [] is in
    let read : whole_in bytes ≡ Ok n = ap (λ s. s >>= λ y. cond (length y.1 == 0) (Ok y.0) (Err fault.Rest)) all in
    subst (ReadsGivenMemory (λ x. x) r) read gives
