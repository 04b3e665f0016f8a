use Rattle.std.proofs.Common.{◌≡◌, ℕ, ◌∙◌, sym, ap, arith, inr, refl, take, take_all, cond, Bool, true, false, ◌&&◌}
use Rattle.std.specs.List.{count_by}
use Rattle.jf_hash.specs.Slots.{occupants, range_hash, first_child_hash}
use Rattle.jf_hash.specs.Ranges.{has_change, is_many}
use Rattle.jf_hash.proofs.RangeHashes.{agree_same, hashed_over}
use Rattle.jf_hash.proofs.Present.{hash-not_hashed}
use Rattle.jf_hash.proofs.Changes.{has_change-count, has_change-counted}
use Rattle.jf_hash.proofs.refreshing.refresh_top.Goals as goal

-- whether a pair is counted
none_changed : (a b : Bool) → a ≡ false → cond {A = ℕ} (a && b) 1 0 ≡ 0
none_changed true b is = absurd (cc)
none_changed false b is = refl

few_there : (a b : Bool) → b ≡ false → cond {A = ℕ} (a && b) 1 0 ≡ 0
few_there true true is = absurd (cc)
few_there true false is = refl
few_there false b is = refl

both_so : (a b : Bool) → a ≡ true → b ≡ true → cond {A = ℕ} (a && b) 1 0 ≡ 1
both_so true true is are = refl
both_so true false is are = absurd (cc)
both_so false b is are = absurd (cc)

pub returns-then-count-eq0-clause-value : goal.returns-then-count-eq0-clause-value
returns-then-count-eq0-clause-value g c olds was agree left right =
    let changed = c.args.changed in
    let none = has_change-count changed (ap (count_by (λ bit. bit)) (sym (take_all 16 changed (omega (arith, c.requires.bits)))) ∙ sym c.count.ensures ∙ c.if-count-eq0.true) in
    was ∙ ap (range_hash 4) (agree_same olds changed (g.P.Places.slots c.args.places.now) agree none)

pub returns-then-count-eq0-clause-pairs : goal.returns-then-count-eq0-clause-pairs
returns-then-count-eq0-clause-pairs g c =
    let changed = c.args.changed in
    let none = has_change-count changed (ap (count_by (λ bit. bit)) (sym (take_all 16 changed (omega (arith, c.requires.bits)))) ∙ sym c.count.ensures ∙ c.if-count-eq0.true) in
    omega (arith, none_changed (has_change changed) (is_many (occupants (g.P.Places.slots c.args.places.now))) none)

pub returns-then-not-is_many-clause-value : goal.returns-then-not-is_many-clause-value
returns-then-not-is_many-clause-value g c olds was agree left right =
    let slots = g.P.Places.slots c.args.places.now in
    let all : take 16 slots ≡ slots = take_all 16 slots (omega (arith, c.requires.long)) in
    let few = ap (λ xs. is_many (occupants xs)) (sym all) ∙ sym (c.is_many.ensures slots c.requires.children c.requires.leaves) ∙ c.if-not-is_many.true in
    c.first_in.ensures ∙ ap first_child_hash all ∙ hash-not_hashed 4 slots c.requires.long (inr few)

pub returns-then-not-is_many-clause-pairs : goal.returns-then-not-is_many-clause-pairs
returns-then-not-is_many-clause-pairs g c =
    let slots = g.P.Places.slots c.args.places.now in
    let all : take 16 slots ≡ slots = take_all 16 slots (omega (arith, c.requires.long)) in
    let few = ap (λ xs. is_many (occupants xs)) (sym all) ∙ sym (c.is_many.ensures slots c.requires.children c.requires.leaves) ∙ c.if-not-is_many.true in
    omega (arith, few_there (has_change c.args.changed) (is_many (occupants slots)) few)

pub returns-clause-value : goal.returns-clause-value
returns-clause-value g c olds was agree left right =
    let slots = g.P.Places.slots c.args.places.now in
    let all : take 16 slots ≡ slots = take_all 16 slots (omega (arith, c.requires.long)) in
    let many = ap (λ xs. is_many (occupants xs)) (sym all) ∙ sym (c.is_many.ensures slots c.requires.children c.requires.leaves) ∙ c.if-not-is_many.false in
    hashed_over 4 8 slots c.args.left.now c.args.right.now _ (omega arith) refl many left right c.hash_pair.ensures.value

pub returns-clause-pairs : goal.returns-clause-pairs
returns-clause-pairs g c =
    let slots = g.P.Places.slots c.args.places.now in
    let changed = c.args.changed in
    let all : take 16 slots ≡ slots = take_all 16 slots (omega (arith, c.requires.long)) in
    let many = ap (λ xs. is_many (occupants xs)) (sym all) ∙ sym (c.is_many.ensures slots c.requires.children c.requires.leaves) ∙ c.if-not-is_many.false in
    let some = has_change-counted changed (λ none. c.if-count-eq0.false (c.count.ensures ∙ ap (count_by (λ bit. bit)) (take_all 16 changed (omega (arith, c.requires.bits))) ∙ none)) in
    omega (arith, c.hash_pair.ensures.cost, both_so (has_change changed) (is_many (occupants slots)) some many)
