-- The places of a node are known from its children.
use Rattle.std.specs.Prelude.{◌≡◌, ◌+◌, ◌*◌, ℕ, Option, Some, None, ◌<◌, List, length, Bool, false, [], ◌∷◌, ◌^◌, map}
use Rattle.std.proofs.Common.{refl, ap, arith, sym, ◌∙◌, get_or, suc, zero, pow-suc}
use Rattle.std.proofs.lemmas.List.{get_or-map, length-map}
use Rattle.std.proofs.lemmas.List.FromFn.{fill_by_all, get_or-map-range_with_len}
use Rattle.jf_hash.specs.Slots.{slot_of, with_nibble, slots_of, Part}
use Rattle.jf_hash.specs.declared.slot.Slot.{Slot}
use Rattle.jf_hash.specs.declared.slot.Slot.TheVariants.{Absent}
use Rattle.jf_hash.specs.Ranges.{Agree}
use Rattle.jf_hash.proofs.SlotLaws.{length-slots_of}
use Rattle.jf_node.specs.LinkValue.{LinkValue}
use Rattle.jf_node.specs.Children.{content, child_slot, FitsAt, entries_of_children, AreChildren, SameElsewhere}
use Rattle.jf_node.proofs.ChildLaws.{FitFrom-at, with_nibble-joined}

-- what stands at a child's place, from the child's entries
place_fits : (depth n : ℕ) (x : Option LinkValue) → FitsAt depth n x → child_slot x ≡ slot_of (4 * (depth + 1)) (content x)
place_fits depth n None fit = refl
place_fits depth n (Some x) fit = ap (λ d. slot_of (4 * d) x.entries) fit.0

-- the places of a node are those of its children
pub slots_joined : (depth : ℕ) (links : List (Option LinkValue)) (slots : List Slot) → AreChildren depth links → length slots ≡ 16 → ((k : ℕ) → k < 16 → get_or slots k Absent ≡ child_slot (get_or links k None)) → slots ≡ slots_of depth (entries_of_children links)
unfolding slots_of
slots_joined depth links slots children long each =
    fill_by_all (λ k. slot_of (4 * (depth + 1)) (with_nibble depth k (entries_of_children links))) slots 16 Absent long (λ k small.
    let within : k < length links = omega (arith, children.long) in
    each k small ∙ place_fits depth (0 + k) (get_or links k None) (FitFrom-at depth 0 k links children.fit within)
    ∙ ap (slot_of (4 * (depth + 1))) (sym (with_nibble-joined depth 0 k k links None children.fit within (omega arith))))

pub slots-children : (depth : ℕ) (links : List (Option LinkValue)) → AreChildren depth links → map child_slot links ≡ slots_of depth (entries_of_children links)
slots-children depth links children =
    slots_joined depth links (map child_slot links) children (length-map links child_slot ∙ children.long) (λ k small. get_or-map child_slot links k None Absent (omega (arith, small, children.long)))

-- one place of a node
get_or-slots_of : (depth k : ℕ) (es : Part) → k < 16 → get_or (slots_of depth es) k Absent ≡ slot_of (4 * (depth + 1)) (with_nibble depth k es)
unfolding slots_of
get_or-slots_of depth k es small = get_or-map-range_with_len (λ i. slot_of (4 * (depth + 1)) (with_nibble depth i es)) 0 16 k k Absent small (omega arith)

agree_by : (olds : List Slot) (changed : List Bool) (slots : List Slot) → length olds ≡ length changed → length slots ≡ length changed
    → ((k : ℕ) → k < length changed → get_or changed k false ≡ false → get_or olds k Absent ≡ get_or slots k Absent) → Agree olds changed slots
agree_by [] [] [] lo ls h = tt
agree_by [] [] (s ∷ slots) lo ls h = absurd (omega arith)
agree_by [] (c ∷ changed) slots lo ls h = absurd (omega arith)
agree_by (o ∷ olds) [] slots lo ls h = absurd (omega arith)
agree_by (o ∷ olds) (c ∷ changed) [] lo ls h = absurd (omega arith)
agree_by (o ∷ olds) (c ∷ changed) (s ∷ slots) lo ls h = (h 0 (omega arith), agree_by olds changed slots (omega arith) (omega arith) (λ k lt. h (suc k) (omega arith)))

-- if no child changed there, the places are as before
pub same_places : (depth : ℕ) (changed : List Bool) (old new : Part) → length changed ≡ 16 → SameElsewhere changed depth old new → Agree (slots_of depth old) changed (slots_of depth new)
same_places depth changed old new long same =
    agree_by (slots_of depth old) changed (slots_of depth new) (length-slots_of depth old ∙ sym long) (length-slots_of depth new ∙ sym long) (λ k lt unchanged.
    let small : k < 16 = omega (arith, long) in
    get_or-slots_of depth k old small ∙ ap (slot_of (4 * (depth + 1))) (same k small unchanged) ∙ sym (get_or-slots_of depth k new small))

-- ---- one place
pub one_wide : (level : ℕ) → 1 ≡ 2 ^ level → level ≡ 0
one_wide zero e = refl
one_wide (suc level) e = absurd (omega (arith, pow-suc 2 level))
