use Rattle.std.proofs.Common.{◌≡◌, ℕ, ◌∙◌, ap, ap₂, sym, subst, refl, arith, ◌+◌, ◌-◌, None, List, [], ◌∷◌, ◌++◌, length, length-append, length-drop, map, is_some, cond, replicate, take, drop, take_all}
use Rattle.std.specs.List.{count_by}
use Rattle.std.proofs.lemmas.List.{append-nil, length-map}
use Rattle.jf_path.specs.Bitmaps.{present, spread_items}
use Rattle.jf_path.proofs.BitmapLaws.{count_by-is_some, spread-present}
use Rattle.jf_hash.specs.Slots.{range_hash}
use Rattle.jf_hash.specs.Ranges.{Agree, kept_below, kept_hashes, kept_within, pairs_within}
use Rattle.jf_hash.specs.declared.slot.Slot.{Slot}
use Rattle.jf_hash.proofs.RangeLaws.{length-kept_below, pairs_within-bounded}
use Rattle.jf_hash.proofs.RangeHashes.{agree_drop, agree_take, before_left, before_right}
use Rattle.jf_hash.proofs.Present.{present-all}
use Rattle.jf_hash.proofs.ranges.Ranges.updated_counted.Goals as goal
use Rattle.jf_hash.proofs.ranges.Ranges.updated_counted.Given.{Over}

length-kept_hashes : (slots : List Slot) → length (kept_hashes slots) ≡ 16
length-kept_hashes slots = length-append (kept_below slots) (None ∷ None ∷ []) ∙ ap (λ n. n + 2) (length-kept_below slots)

-- nothing is cut, and nothing filled up
as_many : {X : Type 0} (n : ℕ) (xs : List X) (x : X) → length xs ≡ n → take n xs ++ replicate (n - length xs) x ≡ xs
as_many n xs x long = ap₂ (λ ys k. ys ++ replicate k x) (take_all n xs (omega (arith, long))) (let e : n - length xs ≡ 0 = omega (arith, long) in e) ∙ append-nil xs

-- as many hashes are kept as bits are counted
all_counted : (slots : List Slot) (bits : List _) (count : ℕ) → bits ≡ map is_some (kept_hashes slots) → count ≡ count_by (λ bit. bit) (take 16 bits) → length (present (kept_within 3 (take 8 slots))) + length (present (kept_within 3 (drop 8 slots))) ≡ count
all_counted slots bits count is counted =
    let long : length (map (is_some {T = List ℕ}) (kept_hashes slots)) ≡ 16 = length-map (kept_hashes slots) is_some ∙ length-kept_hashes slots in
    sym (length-append (present (kept_within 3 (take 8 slots))) (present (kept_within 3 (drop 8 slots)))) ∙ ap length (present-all slots)
    ∙ sym (count_by-is_some (kept_hashes slots)) ∙ ap (count_by (λ bit. bit)) (sym (take_all 16 (map is_some (kept_hashes slots)) (omega (arith, long))))
    ∙ ap (λ bs. count_by (λ bit. bit) (take 16 bs)) (sym is) ∙ sym counted

-- what both halves give: their hashes, and all that is kept
halves_filled : (g : Over) (c : goal.After-refresh_top-top g) (olds : List Slot) → c.args.self.now ≡ kept_hashes olds → Agree olds c.args.changed (g.P.Places.slots c.args.places.now)
    → (c.refresh-left.result ≡ range_hash 3 (take 8 (g.P.Places.slots c.args.places.now))) × (c.refresh-right.result ≡ range_hash 3 (drop 8 (g.P.Places.slots c.args.places.now)))
    × (c.refresh-right.new.out.items ≡ present (kept_within 3 (take 8 (g.P.Places.slots c.args.places.now))) ++ present (kept_within 3 (drop 8 (g.P.Places.slots c.args.places.now))))
halves_filled g c olds was agree =
    let slots = g.P.Places.slots c.args.places.now in
    let changed = c.args.changed in
    let lefts = present (kept_within 3 (take 8 slots)) in
    let rights = present (kept_within 3 (drop 8 slots)) in
    let all = all_counted slots c.kept_ranges-kept.result c.count-count.result (c.kept_ranges-kept.ensures slots c.of-occupied.ensures.long c.of-occupied.ensures.children c.of-occupied.ensures.leaves) c.count-count.ensures in
    let empty : length c.in_ok-hashes.hashes.items ≡ 0 = ap length c.in_ok-hashes.ensures.items in
    let left = c.refresh-left.ensures.value 3 (take 8 olds) (omega arith) refl (before_left olds c.args.self.now was) (agree_take 8 olds changed slots agree)
    (omega (arith, empty, all, c.in_ok-hashes.ensures.exact)) in
    let after_left : c.refresh-left.new.out.items ≡ lefts = left.1 ∙ ap (λ xs. xs ++ lefts) c.in_ok-hashes.ensures.items in
    let long_left : length c.refresh-left.new.out.items ≡ length lefts = ap length after_left in
    let last : take 8 (drop 8 slots) ≡ drop 8 slots = take_all 8 (drop 8 slots) (omega (arith, c.of-occupied.ensures.long, length-drop 8 slots)) in
    let last_bits : take 8 (drop 8 changed) ≡ drop 8 changed = take_all 8 (drop 8 changed) (omega (arith, c.know.ensures, length-drop 8 changed)) in
    let right = c.refresh-right.ensures.value 3 (drop 8 olds) (omega arith) refl (before_right olds c.args.self.now was)
    (subst (λ bits. Agree (drop 8 olds) bits (take 8 (drop 8 slots))) (sym last_bits) (subst (Agree (drop 8 olds) (drop 8 changed)) (sym last) (agree_drop 8 olds changed slots agree)))
    (omega (arith, long_left, all, ap (λ xs. length (present (kept_within 3 xs))) last, c.refresh-left.ensures.capacity, c.in_ok-hashes.ensures.exact)) in
    (left.0, right.0 ∙ ap (range_hash 3) last, right.1 ∙ ap₂ (λ xs ys. xs ++ present (kept_within 3 ys)) after_left last)

pub invariant_of-result : goal.invariant_of-result
invariant_of-result g c =
    let slots = g.P.Places.slots c.args.places.now in
    let bits = c.kept_ranges-kept.result in
    let is = c.kept_ranges-kept.ensures slots c.of-occupied.ensures.long c.of-occupied.ensures.children c.of-occupied.ensures.leaves in
    let all : take 16 bits ≡ bits = take_all 16 bits (omega (arith, ap length is ∙ length-map (kept_hashes slots) is_some ∙ length-kept_hashes slots)) in
    let fits = c.resize.ensures.succeeds (omega (arith, c.refresh-left.ensures.capacity, c.refresh-right.ensures.capacity, c.in_ok-hashes.ensures.exact)) in
    sym (ap (count_by (λ bit. bit)) all) ∙ sym c.count-count.ensures ∙ sym (c.resize.ensures.len ∙ ap (λ b. cond b c.count-count.result c.refresh-right.new.out.len) fits) ∙ c.resize.new.self.ok.0

pub returns-clause-ranges : goal.returns-clause-ranges
returns-clause-ranges g c olds was agree =
    let slots = g.P.Places.slots c.args.places.now in
    let count = c.count-count.result in
    let is = c.kept_ranges-kept.ensures slots c.of-occupied.ensures.long c.of-occupied.ensures.children c.of-occupied.ensures.leaves in
    let all = all_counted slots c.kept_ranges-kept.result count is c.count-count.ensures in
    let out = (halves_filled g c olds was agree).2 in
    let long : length c.refresh-right.new.out.items ≡ count = ap length out ∙ length-append (present (kept_within 3 (take 8 slots))) (present (kept_within 3 (drop 8 slots))) ∙ all in
    let fits = c.resize.ensures.succeeds (omega (arith, c.refresh-left.ensures.capacity, c.refresh-right.ensures.capacity, c.in_ok-hashes.ensures.exact)) in
    let resized : c.resize.new.self.items ≡ c.refresh-right.new.out.items =
    c.resize.ensures.items ∙ ap (λ b. cond b (take count c.refresh-right.new.out.items ++ replicate (count - c.refresh-right.new.out.len) c.empty.result) c.refresh-right.new.out.items) fits
    ∙ ap (λ n. take count c.refresh-right.new.out.items ++ replicate (count - n) c.empty.result) c.refresh-right.new.out.ok.0 ∙ as_many count c.refresh-right.new.out.items c.empty.result long in
    ap₂ spread_items is (resized ∙ out ∙ present-all slots) ∙ spread-present (kept_hashes slots)

pub returns-clause-top : goal.returns-clause-top
returns-clause-top g c olds was topped agree =
    let filled = halves_filled g c olds was agree in
    c.refresh_top-top.ensures.value olds topped agree filled.0 filled.1

pub returns-clause-pairs : goal.returns-clause-pairs
unfolding pairs_within
returns-clause-pairs g c =
    let slots = g.P.Places.slots c.args.places.now in
    let changed = c.args.changed in
    let last = take_all 8 (drop 8 slots) (omega (arith, c.of-occupied.ensures.long, length-drop 8 slots)) in
    let last_bits = take_all 8 (drop 8 changed) (omega (arith, c.know.ensures, length-drop 8 changed)) in
    let left = c.refresh-left.ensures.pairs 3 (omega arith) refl in
    let right = c.refresh-right.ensures.pairs 3 (omega arith) refl ∙ ap₂ (λ xs bits. c.refresh-left.new.steps + pairs_within 3 xs bits) last last_bits in
    omega (arith, left, right, c.refresh_top-top.ensures.pairs)

pub returns-clause-cost : goal.returns-clause-cost
returns-clause-cost g c = omega (arith, returns-clause-pairs g c, pairs_within-bounded 4 (g.P.Places.slots c.args.places.now) c.args.changed)
