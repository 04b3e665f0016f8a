-- The nodes of a new part that are unchanged: the old one has them, with the same part.
use Rattle.std.proofs.Common.{ℕ, Bool, ◌&&◌, ◌≡◌, true, false, [], ◌∷◌, refl, sym, true≢false, ◌+◌, ap₂}
use Rattle.jf_hash.specs.Slots.{Part, with_nibble}
use Rattle.jf_model.specs.Nodes.{Path, under, is_node, same_part, has_one}
use Rattle.jf_model.specs.ChildEntries.{child_entries}
use Rattle.jf_walk.proofs.SameParts.{same_part-refl}

-- the old part has the node, with the same part
abbrev pub is_unchanged : ℕ → Path → Part → Part → Bool
is_unchanged d p old new = is_node d p old && same_part (under d p old) (under d p new)

-- an empty old part has no unchanged node
pub is_unchanged-none : (d : ℕ) (p : Path) (new : Part) → has_one new ≡ true → is_unchanged d p [] new ≡ false
unfolding is_node under
is_unchanged-none d [] [] some = absurd (true≢false (sym some))
is_unchanged-none d [] (e ∷ es) some = refl
is_unchanged-none d (n ∷ p) new some = refl

is_unchanged-one : (d : ℕ) (p : Path) (old new : Part) → has_one new ≡ true → ((has_one old && is_node d p old) && same_part (under d p old) (under d p new)) ≡ is_unchanged d p old new
is_unchanged-one d p [] new some = sym (is_unchanged-none d p new some)
is_unchanged-one d p (e ∷ es) new some = refl

-- a node is unchanged below a child exactly if it is so below the parent
pub is_unchanged-child_entries : (d n : ℕ) (p : Path) (old new : Part) → has_one (with_nibble d n new) ≡ true → is_unchanged d (n ∷ p) old new ≡ is_unchanged (d + 1) p (child_entries d n old) (with_nibble d n new)
unfolding is_node under
is_unchanged-child_entries d n p [] new some = sym (is_unchanged-none (d + 1) p (with_nibble d n new) some)
is_unchanged-child_entries d n p (e ∷ []) new some = sym (is_unchanged-none (d + 1) p (with_nibble d n new) some)
is_unchanged-child_entries d n p (e ∷ f ∷ es) new some = is_unchanged-one (d + 1) p (with_nibble d n (e ∷ f ∷ es)) (with_nibble d n new) some

-- a node is unchanged in its own part
pub is_unchanged-same : (d : ℕ) (p : Path) (es : Part) → is_node d p es ≡ true → is_unchanged d p es es ≡ true
is_unchanged-same d p es node = ap₂ (λ a b. a && b) node (same_part-refl (under d p es))
