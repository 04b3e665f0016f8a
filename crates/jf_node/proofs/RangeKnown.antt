-- What holds of the entries of a range, from what holds of the entries of its stored node.
use denote.Ref.{Bor}
use Rattle.std.specs.Prelude.{◌≡◌, Bool, true, false, ◌-◌, ◌/◌, ◌%◌, ◌^◌, ℕ, List, ◌<◌, ◌≤◌, zero, suc, ◌+◌, ◌*◌, cond, [], ◌∷◌, length}
use Rattle.std.proofs.Common.{arith, refl, sym, ap, ◌∙◌, inl, inr, subst}
use Rattle.std.proofs.lemmas.Bool.{cases_lt}
use Rattle.std.proofs.lemmas.Bool.Decides.{nat_tests}
use Rattle.std.specs.FinMap.Entries.{is_sorted-where_key}
use Rattle.std.specs.List.{AllByRecursion}
use Rattle.jf_path.specs.Nibbles.{bit_number, nibble}
use Rattle.jf_path.specs.Keys.{bit, key_cmp, IsKey, IsBytes}
use Rattle.jf_path.proofs.FilterLaws.{All-filter}
use Rattle.jf_hash.specs.Ranges.{lies_in, in_range}
use Rattle.jf_hash.specs.Slots.{Part}
use Rattle.jf_hash.proofs.SlotLaws.{weight}
use Rattle.jf_node.specs.RangeFacts.{IsRangeValue}
use Rattle.jf_node.specs.LinkValue.{LinkValue}
use Rattle.jf_node.specs.LinkFacts.{IsLink}
use Rattle.jf_node.specs.Placed.{ArePlaces, IsPlaced, range_value}
use Rattle.jf_node.specs.RangeValue.{RangeValue}
use Rattle.jf_node.specs.declared.range.RangePlace.{RangePlace}
use Rattle.jf_node.specs.declared.range.RangePlace.TheVariants.{Nowhere, Leaf, Places}
use Rattle.jf_node.proofs.RangePlaces.{in_few, placed_nowhere, kept_as, placed_leaf, placed}

-- ---- the bits of keys in a range of places
same_digit : (a b : Bool) → bit_number a ≡ bit_number b → a ≡ b
same_digit true true is = refl
same_digit true false is = absurd (omega (arith, is))
same_digit false true is = absurd (omega (arith, is))
same_digit false false is = refl

-- the bit of a nibble that is bit i of the key
weight_at : (key : List ℕ) (i : ℕ) → nibble key (i / 4) / 2 ^ (3 - i % 4) % 2 ≡ bit_number (bit key i)
weight_at key i = weight key (i / 4) (3 - i % 4) i (omega arith) (omega arith)

-- keys with the same nibble have the same bits in it
same_nibble : (a b : List ℕ) (i : ℕ) → nibble a (i / 4) ≡ nibble b (i / 4) → bit a i ≡ bit b i
same_nibble a b i is = same_digit (bit a i) (bit b i) (sym (weight_at a i) ∙ ap (λ n. n / 2 ^ (3 - i % 4) % 2) is ∙ weight_at b i)

-- in a range of 2 ^ level places the bits of greater weight are those of its start
high_bits : (level l start n : ℕ) → level ≤ l → l < 4 → start % 2 ^ level ≡ 0 → lies_in start (2 ^ level) n ≡ true → n / 2 ^ l % 2 ≡ start / 2 ^ l % 2
high_bits zero zero start n le lt aligned there = grind (arith, nat_tests)
high_bits zero (suc zero) start n le lt aligned there = grind (arith, nat_tests)
high_bits zero (suc (suc zero)) start n le lt aligned there = grind (arith, nat_tests)
high_bits zero (suc (suc (suc zero))) start n le lt aligned there = grind (arith, nat_tests)
high_bits (suc zero) zero start n le lt aligned there = absurd (omega arith)
high_bits (suc zero) (suc zero) start n le lt aligned there = grind (arith, nat_tests)
high_bits (suc zero) (suc (suc zero)) start n le lt aligned there = grind (arith, nat_tests)
high_bits (suc zero) (suc (suc (suc zero))) start n le lt aligned there = grind (arith, nat_tests)
high_bits (suc (suc zero)) zero start n le lt aligned there = absurd (omega arith)
high_bits (suc (suc zero)) (suc zero) start n le lt aligned there = absurd (omega arith)
high_bits (suc (suc zero)) (suc (suc zero)) start n le lt aligned there = grind (arith, nat_tests)
high_bits (suc (suc zero)) (suc (suc (suc zero))) start n le lt aligned there = grind (arith, nat_tests)
high_bits (suc (suc (suc zero))) zero start n le lt aligned there = absurd (omega arith)
high_bits (suc (suc (suc zero))) (suc zero) start n le lt aligned there = absurd (omega arith)
high_bits (suc (suc (suc zero))) (suc (suc zero)) start n le lt aligned there = absurd (omega arith)
high_bits (suc (suc (suc zero))) (suc (suc (suc zero))) start n le lt aligned there = grind (arith, nat_tests)
high_bits (suc (suc (suc (suc level)))) l start n le lt aligned there = absurd (omega arith)
high_bits level (suc (suc (suc (suc l)))) start n le lt aligned there = absurd (omega arith)

-- a key in a range of places: its first nibbles are those of a path, and its next nibble lies in the range
record LiesIn (d start level : ℕ) (path : ℕ → ℕ) (key : List ℕ) : Type 0 where
  before : (i : ℕ) → i < d → nibble key i ≡ path i
  there : lies_in start (2 ^ level) (nibble key d) ≡ true

-- two keys in a range agree in the bits that tell this range from the others
alike : (d start level : ℕ) (path : ℕ → ℕ) (a b : List ℕ) → level ≤ 4 → start % 2 ^ level ≡ 0 → LiesIn d start level path a → LiesIn d start level path b → (i : ℕ) → i < 4 * d + (4 - level) → bit a i ≡ bit b i
alike d start level path a b narrow aligned la lb i lt = elim (cases_lt (i / 4) d) [
  | inl before ↦ same_nibble a b i (la.before (i / 4) before ∙ sym (lb.before (i / 4) before))
  | inr past ↦
      let here : i / 4 ≡ d = omega arith in
      let up : level ≤ 3 - i % 4 = omega arith in
      let at : (key : List ℕ) → lies_in start (2 ^ level) (nibble key d) ≡ true → start / 2 ^ (3 - i % 4) % 2 ≡ bit_number (bit key i) =
      λ key there. sym (high_bits level (3 - i % 4) start (nibble key d) up (omega arith) aligned there) ∙ ap (λ k. nibble key k / 2 ^ (3 - i % 4) % 2) (sym here) ∙ weight_at key i in
      same_digit (bit a i) (bit b i) (sym (at a la.there) ∙ at b lb.there)
]

-- the keys of a range's entries lie in it
lie_there : (d start level : ℕ) (path : ℕ → ℕ) (es : Part) → AllByRecursion (λ e. (i : ℕ) → i < d → nibble e.0 i ≡ path i) es → AllByRecursion (λ e. LiesIn d start level path e.0) (in_range d start (2 ^ level) es)
lie_there d start level path [] all = tt
lie_there d start level path (e ∷ es) all =
    elim (lies_in start (2 ^ level) (nibble e.0 d)) as (λ b. lies_in start (2 ^ level) (nibble e.0 d) ≡ b → AllByRecursion (λ e. LiesIn d start level path e.0) (cond b (e ∷ in_range d start (2 ^ level) es) (in_range d start (2 ^ level) es))) [
      | true ↦ λ is. (record { before = all.0; there = is }, lie_there d start level path es all.1)
      | false ↦ λ is. lie_there d start level path es all.1
    ] refl

-- the bits of the first entry's key
abbrev first_bits : Part → ℕ → Bool
first_bits [] i = false
first_bits (e ∷ es) i = bit e.0 i

agree_first : (d start level : ℕ) (path : ℕ → ℕ) (k : List ℕ) (es : Part) → level ≤ 4 → start % 2 ^ level ≡ 0 → LiesIn d start level path k → AllByRecursion (λ e. LiesIn d start level path e.0) es → AllByRecursion (λ e. (i : ℕ) → i < 4 * d + (4 - level) → bit e.0 i ≡ bit k i) es
agree_first d start level path k [] narrow aligned here all = tt
agree_first d start level path k (e ∷ es) narrow aligned here all = (alike d start level path e.0 k narrow aligned all.0 here, agree_first d start level path k es narrow aligned here all.1)

agree_all : (d start level : ℕ) (path : ℕ → ℕ) (es : Part) → level ≤ 4 → start % 2 ^ level ≡ 0 → AllByRecursion (λ e. LiesIn d start level path e.0) es → AllByRecursion (λ e. (i : ℕ) → i < 4 * d + (4 - level) → bit e.0 i ≡ first_bits es i) es
agree_all d start level path [] narrow aligned all = tt
agree_all d start level path (e ∷ es) narrow aligned all = ((λ i lt. refl), agree_first d start level path e.0 es narrow aligned all.0 all.1)

-- ---- what holds of a range
none_known : (depth : ℕ) → depth ≤ 256 → IsRangeValue (record { depth = depth; entries = [] })
none_known depth le = record {
  depth = le;
  deep = λ two. absurd (omega arith);
  bounded = omega arith;
  part = record { sorted = tt; keys = tt; path = λ i. false; agree = tt };
  values = tt;
  short = tt;
}

one_agrees : (depth : ℕ) (es : Part) → length es ≡ 1 → AllByRecursion (λ e. (i : ℕ) → i < depth → bit e.0 i ≡ first_bits es i) es
one_agrees depth [] one = tt
one_agrees depth (e ∷ []) one = ((λ i lt. refl), tt)
one_agrees depth (e ∷ f ∷ es) one = absurd (omega arith)

one_known : (depth : ℕ) (x : LinkValue) → depth ≤ 256 → length x.entries ≡ 1 → IsLink x → IsRangeValue (record { depth = depth; entries = x.entries })
one_known depth x le one link = record {
  depth = le;
  deep = λ two. absurd (omega arith);
  bounded = link.bounded;
  part = record { sorted = link.entries.sorted; keys = link.entries.keys; path = first_bits x.entries; agree = one_agrees depth x.entries one };
  values = link.entries.values;
  short = link.entries.short;
}

several_known : (depth : ℕ) (x : LinkValue) (start level : ℕ) → ArePlaces depth x start level → IsLink x → IsRangeValue (record { depth = depth; entries = in_range x.depth start (2 ^ level) x.entries })
several_known depth x start level p link =
    let es = in_range x.depth start (2 ^ level) x.entries in
    let test : List ℕ → Bool = λ k. lies_in start (2 ^ level) (nibble k x.depth) in
    record {
      depth = omega (arith, p.deep, p.inner, p.wide);
      deep = λ two. omega (arith, p.deep, p.inner, p.wide);
      bounded = omega (arith, in_few x.depth start (2 ^ level) x.entries, link.bounded);
      part = record {
        sorted = is_sorted-where_key key_cmp test x.entries link.entries.sorted;
        keys = All-filter (λ e. IsKey e.0) (λ e. test e.0) x.entries link.entries.keys;
        path = first_bits es;
        agree =
            subst (λ d. AllByRecursion (λ e. (i : ℕ) → i < d → bit e.0 i ≡ first_bits es i) es) (sym p.deep)
            (agree_all x.depth start level link.entries.agree.path es p.narrow p.aligned (lie_there x.depth start level link.entries.agree.path x.entries link.entries.agree.keys));
      };
      values = All-filter (λ e. IsBytes e.1) (λ e. test e.0) x.entries link.entries.values;
      short = All-filter (λ e. length e.1 ≤ 4096) (λ e. test e.0) x.entries link.entries.short;
    }

-- what holds of a range without an entry, of a leaf's, and of one over places
pub known_nowhere : (v : RangeValue) (depth : ℕ) (place : RangePlace) → range_value depth place ≡ v → IsPlaced depth place → place ≡ Nowhere → IsRangeValue v
known_nowhere v depth place seen h is = subst IsRangeValue (sym (kept_as v depth place Nowhere seen is)) (none_known depth (placed_nowhere depth place h is))

pub known_leaf : (v : RangeValue) (depth : ℕ) (place : RangePlace) (link : Bor LinkValue) → range_value depth place ≡ v → IsPlaced depth place → place ≡ Leaf link → IsLink link.now → IsRangeValue v
known_leaf v depth place link seen h is known =
    let one = placed_leaf depth place link h is in
    subst IsRangeValue (sym (kept_as v depth place (Leaf link) seen is)) (one_known depth link.now one.0 one.1 known)

pub known_places : (v : RangeValue) (depth start level : ℕ) (place : RangePlace) (link : Bor LinkValue) → range_value depth place ≡ v → IsPlaced depth place → place ≡ Places link start level → IsLink link.now → IsRangeValue v
known_places v depth start level place link seen h is known =
    subst IsRangeValue (sym (kept_as v depth place (Places link start level) seen is)) (several_known depth link.now start level (placed depth place link start level h is) known)
