use Rattle.std.proofs.Common.{◌≡◌, ℕ, List, ◌+◌, ◌-◌, ◌/◌, ◌^◌, ◌<◌, ◌∙◌, sym, ap, ap₂, arith, inl, inr, length, length-append, take, drop, cond, is_ok, IsOk, Result, [], ◌∷◌, ◌++◌}
use Rattle.std.proofs.lemmas.List.{append-nil}
use Rattle.jf_path.specs.Bitmaps.{present}
use Rattle.jf_hash.specs.Slots.{range_hash}
use Rattle.jf_hash.specs.Ranges.{kept_within, pairs_within}
use Rattle.jf_hash.proofs.RangeLaws.{pairs_within-none, pairs_within-one, pairs_within-halves}
use Rattle.jf_hash.proofs.Halves.{halves, not_one, length-places, left_half, right_half}
use Rattle.jf_hash.proofs.RangeHashes.{agree_same, agree_left, agree_right, before_halves, hashed_over, present-halves, appended, length-appended}
use Rattle.jf_hash.proofs.KeptLaws.{pairs_within-few}
use Rattle.jf_hash.proofs.Present.{IsNotHashed, hash-not_hashed, present-not_hashed}
use Rattle.jf_hash.proofs.Changes.{has_change-count, has_change-counted}
use Rattle.jf_hash.proofs.refreshing.+refresh.Goals as goal

-- what an appending that can't fail leaves
grown : {X E : Type 0} (r : Result X E) (old more new : List (List ℕ)) → new ≡ cond (is_ok r) (old ++ more) old → IsOk r → new ≡ old ++ more
grown r old more new is ok = is ∙ ap (λ b. cond b (old ++ more) old) ok

pub returns-then-count-eq0-clause-value : goal.returns-then-count-eq0-clause-value
returns-then-count-eq0-clause-value g t c level olds small long at agree room =
    let slots = g.P.Places.slots c.args.places.now in
    let places = take c.args.width (drop c.args.start slots) in
    let changes = take c.args.width (drop c.args.start c.args.changed) in
    let same = agree_same olds changes places agree (has_change-count changes (sym c.count.ensures ∙ c.if-count-eq0.true)) in
    let kept = c.run-kept.ensures ∙ ap present (at ∙ ap (kept_within level) same) in
    let fits = c.extend_from_slice.ensures.succeeds (omega (arith, ap length kept, room, c.args.out.now.ok.0)) in (
      c.hash_in.ensures level small (length-places c.args.start c.args.width slots c.requires.long c.requires.within ∙ long) kept,
      grown c.extend_from_slice.result c.args.out.now.items c.run-kept.result.now c.extend_from_slice.new.self.items c.extend_from_slice.ensures.items fits ∙ ap (λ t. c.args.out.now.items ++ t) kept,
    )

pub returns-then-count-eq0-clause-pairs : goal.returns-then-count-eq0-clause-pairs
returns-then-count-eq0-clause-pairs g t c level small long =
    omega (arith, pairs_within-none level (take c.args.width (drop c.args.start (g.P.Places.slots c.args.places.now))) (take c.args.width (drop c.args.start c.args.changed)) (has_change-count (take c.args.width (drop c.args.start c.args.changed)) (sym c.count.ensures ∙ c.if-count-eq0.true)))

pub returns-then-width-eq1-clause-value : goal.returns-then-width-eq1-clause-value
returns-then-width-eq1-clause-value g t c level olds small long at agree room =
    let slots = g.P.Places.slots c.args.places.now in
    let places = take c.args.width (drop c.args.start slots) in
    let places_long : length places ≡ 2 ^ level = length-places c.args.start c.args.width slots c.requires.long c.requires.within ∙ long in
    let why : IsNotHashed level places = inl (sym long ∙ c.if-width-eq1.true) in
    (c.first_in.ensures ∙ hash-not_hashed level places places_long why, sym (append-nil c.args.out.now.items) ∙ ap (λ t. c.args.out.now.items ++ t) (sym (present-not_hashed level places why)))

pub returns-then-width-eq1-clause-pairs : goal.returns-then-width-eq1-clause-pairs
returns-then-width-eq1-clause-pairs g t c level small long =
    omega (arith, pairs_within-one level (take c.args.width (drop c.args.start (g.P.Places.slots c.args.places.now))) (take c.args.width (drop c.args.start c.args.changed)) (sym long ∙ c.if-width-eq1.true) small)

pub returns-then-not-is_many-clause-value : goal.returns-then-not-is_many-clause-value
returns-then-not-is_many-clause-value g t c level olds small long at agree room =
    let slots = g.P.Places.slots c.args.places.now in
    let places = take c.args.width (drop c.args.start slots) in
    let places_long : length places ≡ 2 ^ level = length-places c.args.start c.args.width slots c.requires.long c.requires.within ∙ long in
    let why : IsNotHashed level places = inr (sym (c.is_many.ensures slots c.requires.children c.requires.leaves) ∙ c.if-not-is_many.true) in
    (c.first_in-then-not-is_many.ensures ∙ hash-not_hashed level places places_long why, sym (append-nil c.args.out.now.items) ∙ ap (λ t. c.args.out.now.items ++ t) (sym (present-not_hashed level places why)))

pub returns-then-not-is_many-clause-pairs : goal.returns-then-not-is_many-clause-pairs
returns-then-not-is_many-clause-pairs g t c level small long =
    omega (
      arith,
      pairs_within-few level (take c.args.width (drop c.args.start (g.P.Places.slots c.args.places.now))) (take c.args.width (drop c.args.start c.args.changed)) (sym (c.is_many.ensures (g.P.Places.slots c.args.places.now) c.requires.children c.requires.leaves) ∙ c.if-not-is_many.true),
    )

pub returns-clause-value : goal.returns-clause-value
returns-clause-value g t c level olds small long at agree room =
    let start = c.args.start in
    let width = c.args.width in
    let slots = g.P.Places.slots c.args.places.now in
    let changed = c.args.changed in
    let out = c.args.out.now in
    let half = width / 2 in
    let places = take width (drop start slots) in
    let some : 0 < level = not_one level width long c.if-width-eq1.false in
    let h = halves level width small some long in
    let in_half : half + half ≡ width = omega (arith, h.twice, long) in
    let back : width - half ≡ half = omega (arith, h.twice, long) in
    let many = sym (c.is_many.ensures slots c.requires.children c.requires.leaves) ∙ c.if-not-is_many.false in
    let lefts = present (kept_within (level - 1) (take half places)) in
    let rights = present (kept_within (level - 1) (drop half places)) in
    let all = present-halves level half places some h.is many in
    let long_all : length (present (kept_within level places)) ≡ length lefts + length rights + 1 = length-appended lefts rights (present (kept_within level places)) (range_hash level places) all in
    let is_left = left_half half width start slots in_half in
    let is_right = right_half half width start slots in_half in
    let before = before_halves level half width c.args.first olds c.args.old.now some h.is h.some in_half at in
    let left = c.refresh-left.ensures.value (level - 1) (take half olds) (omega arith) h.is before.0 (agree_left half width start olds changed slots in_half agree)
    (omega (arith, room, long_all, ap (λ xs. length (present (kept_within (level - 1) xs))) is_left)) in
    let after_left : c.refresh-left.new.out.items ≡ out.items ++ lefts = left.1 ∙ ap (λ xs. out.items ++ present (kept_within (level - 1) xs)) is_left in
    let long_left : length c.refresh-left.new.out.items ≡ length out.items + length lefts = ap length after_left ∙ length-append out.items lefts in
    let right = c.refresh-right.ensures.value (level - 1) (drop half olds) (omega arith) (back ∙ h.is) before.1 (agree_right half width start olds changed slots in_half agree)
    (omega (arith, room, long_all, long_left, c.refresh-left.ensures.capacity, ap (λ xs. length (present (kept_within (level - 1) xs))) is_right)) in
    let after_right : c.refresh-right.new.out.items ≡ (out.items ++ lefts) ++ rights = right.1 ∙ ap₂ (λ ys xs. ys ++ present (kept_within (level - 1) xs)) after_left is_right in
    let long_right : length c.refresh-right.new.out.items ≡ length out.items + length lefts + length rights = ap length after_right ∙ length-append (out.items ++ lefts) rights ∙ ap (λ n. n + length rights) (length-append out.items lefts) in
    let hash = hashed_over level half places c.refresh-left.result c.refresh-right.result c.hash_pair-hash.result some h.is many (left.0 ∙ ap (range_hash (level - 1)) is_left) (right.0 ∙ ap (range_hash (level - 1)) is_right)
    c.hash_pair-hash.ensures.value in
    let fits = c.push.ensures.succeeds (omega (arith, room, long_all, long_right, c.refresh-right.new.out.ok.0, c.refresh-left.ensures.capacity, c.refresh-right.ensures.capacity)) in (
      hash,
      grown c.push.result c.refresh-right.new.out.items (c.hash_pair-hash.result ∷ []) c.push.new.self.items c.push.ensures.items fits ∙ ap₂ (λ xs x. xs ++ x ∷ []) after_right hash
          ∙ appended out.items lefts rights (present (kept_within level places)) (range_hash level places) all,
    )

pub returns-clause-pairs : goal.returns-clause-pairs
returns-clause-pairs g t c level small long =
    let start = c.args.start in
    let width = c.args.width in
    let slots = g.P.Places.slots c.args.places.now in
    let changed = c.args.changed in
    let half = width / 2 in
    let places = take width (drop start slots) in
    let changes = take width (drop start changed) in
    let some : 0 < level = not_one level width long c.if-width-eq1.false in
    let h = halves level width small some long in
    let in_half : half + half ≡ width = omega (arith, h.twice, long) in
    let back : width - half ≡ half = omega (arith, h.twice, long) in
    let left = c.refresh-left.ensures.pairs (level - 1) (omega arith) h.is ∙ ap₂ (λ xs bs. c.args.steps.now + pairs_within (level - 1) xs bs) (left_half half width start slots in_half) (left_half half width start changed in_half) in
    let right = c.refresh-right.ensures.pairs (level - 1) (omega arith) (back ∙ h.is) ∙ ap₂ (λ xs bs. c.refresh-left.new.steps + pairs_within (level - 1) xs bs) (right_half half width start slots in_half) (right_half half width start changed in_half) in
    let many = sym (c.is_many.ensures slots c.requires.children c.requires.leaves) ∙ c.if-not-is_many.false in
    let whole = pairs_within-halves level half places changes some h.is (has_change-counted changes (λ none. c.if-count-eq0.false (c.count.ensures ∙ none))) many in
    omega (arith, c.hash_pair-hash.ensures.cost, left, right, whole)
