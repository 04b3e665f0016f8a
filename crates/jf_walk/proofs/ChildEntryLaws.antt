-- A node of fewer than two entries has no children; otherwise its children have its parts by nibble.
use Rattle.std.proofs.Common.{◌≡◌, ℕ, ◌<◌, [], ◌∷◌, length, refl, arith, ◌≤◌, ◌+◌, ap, ◌∙◌}
use Rattle.jf_hash.specs.Slots.{Part, with_nibble}
use Rattle.jf_model.specs.ChildEntries.{child_entries, sub}
use Rattle.jf_model.specs.Nodes.{Path}
use Rattle.jf_walk.proofs.PartLaws.{with_nibble-past}

-- fewer than two entries have no children
pub child_entries-few : (d n : ℕ) (es : Part) → length es < 2 → child_entries d n es ≡ []
child_entries-few d n [] h = refl
child_entries-few d n (e ∷ []) h = refl
child_entries-few d n (e ∷ f ∷ es) h = absurd (omega arith)

-- with two entries or more, the child at each nibble has the part of that nibble
pub child_entries-many : (d n : ℕ) (es : Part) → 2 ≤ length es → child_entries d n es ≡ with_nibble d n es
child_entries-many d n [] h = absurd (omega arith)
child_entries-many d n (e ∷ []) h = absurd (omega arith)
child_entries-many d n (e ∷ f ∷ es) h = refl

-- below a part without entries there is no entry
pub sub-none : (d : ℕ) (p : Path) → sub d p [] ≡ []
sub-none d [] = refl
sub-none d (n ∷ p) = sub-none (d + 1) p

-- below fewer than two entries there is no entry
pub sub-few : (d n : ℕ) (p : Path) (es : Part) → length es < 2 → sub d (n ∷ p) es ≡ []
sub-few d n p es h = ap (sub (d + 1) p) (child_entries-few d n es h) ∙ sub-none (d + 1) p

-- below two entries or more the path goes on in the part of its nibble
pub sub-many : (d n : ℕ) (p : Path) (es : Part) → 2 ≤ length es → sub d (n ∷ p) es ≡ sub (d + 1) p (with_nibble d n es)
sub-many d n p es h = ap (sub (d + 1) p) (child_entries-many d n es h)

-- no node has a nibble of 16 or more in its path
pub sub-past : (d n : ℕ) (p : Path) (es : Part) → 2 ≤ length es → 16 ≤ n → sub d (n ∷ p) es ≡ []
sub-past d n p es h past = sub-many d n p es h ∙ ap (sub (d + 1) p) (with_nibble-past d n es past) ∙ sub-none (d + 1) p
