use Rattle.std.proofs.Common.{◌≡◌, ◌/◌, ◌-◌, ◌^◌, ◌<◌, ◌∙◌, ap, ap₂, arith, length, take, drop, length-drop}
use Rattle.jf_hash.specs.Hashes.{N}
use Rattle.jf_hash.specs.Slots.{occupants_hash, range_hash}
use Rattle.jf_hash.proofs.Halves.{range_hash-empty, range_hash-lone, range_hash-one, range_hash-halves, not_one, halves}
use Rattle.jf_hash.proofs.range.+hash_of.Goals as goal

pub returns-in-Empty : goal.returns-in-Empty
returns-in-Empty t c level small long = c.empty.ensures ∙ range_hash-empty level c.args.places.now (c.in-Empty.ensures)

pub returns-in-Lone : goal.returns-in-Lone
returns-in-Lone t c level small long = range_hash-lone level c.args.places.now c.in-Lone.hash (c.in-Lone.ensures)

pub returns-then-places-eq1 : goal.returns-then-places-eq1
returns-then-places-eq1 t c level small long = c.hash_at.ensures ∙ range_hash-one level c.args.places.now _ c.in-Many.ensures c.if-places-eq1.true long small

pub returns-else-places-eq1 : goal.returns-else-places-eq1
returns-else-places-eq1 t c level small long =
    let slots = c.args.places.now in
    let half = length slots / 2 in
    let some : 0 < level = not_one level (length slots) long c.if-places-eq1.false in
    let h = halves level (length slots) small some long in
    let back : length c.split_at.result.1.now ≡ 2 ^ (level - 1) = omega (arith, ap length c.split_at.ensures.back, length-drop half slots, long, h.is, h.twice) in
    c.inner.ensures
    ∙ ap₂ N (c.hash_of.ensures (level - 1) (omega arith) (c.split_at.ensures.front_len ∙ h.is) ∙ ap (range_hash (level - 1)) c.split_at.ensures.front)
    (c.hash_of-in-Many.ensures (level - 1) (omega arith) back ∙ ap (range_hash (level - 1)) c.split_at.ensures.back)
    ∙ ap (λ s. occupants_hash s (N (range_hash (level - 1) (take half slots)) (range_hash (level - 1) (drop half slots)))) c.in-Many.ensures
    ∙ range_hash-halves level half slots some h.is
