-- The part of the node at a path: all entries under the path if there is a node, and otherwise no entries.
use Rattle.std.proofs.Common.{◌≡◌, true, [], ◌∷◌, refl, sym, ap, ◌∙◌, true≢false, false, ℕ, ◌+◌, cond, ◌&&◌}
use Rattle.std.proofs.Math.Bool.{and-true}
use Rattle.jf_path.proofs.BoolLaws.{left_true, right_true}
use Rattle.jf_hash.specs.Slots.{Part, with_nibble}
use Rattle.jf_model.specs.Nodes.{has_one, Path, under, has_two, is_node}
use Rattle.jf_model.specs.ChildEntries.{sub}
use Rattle.jf_walk.proofs.ChildEntryLaws.{sub-none}

-- a part that isn't empty passes the test for an entry
pub has_one-some : (es : Part) → ¬ (es ≡ []) → has_one es ≡ true
has_one-some [] h = absurd (h refl)
has_one-some (e ∷ es) h = refl

pub some-has_one : (es : Part) → has_one es ≡ true → ¬ (es ≡ [])
some-has_one es h none = true≢false (sym h ∙ ap has_one none)

pub none-has_one : (es : Part) → has_one es ≡ false → es ≡ []
none-has_one [] h = refl
none-has_one (e ∷ es) h = absurd (true≢false h)

-- a node has all entries under its path
pub sub-under : (d : ℕ) (p : Path) (es : Part) → is_node d p es ≡ true → sub d p es ≡ under d p es
unfolding is_node under
sub-under d [] es h = refl
sub-under d (n ∷ p) es h =
    ap (λ b. sub (d + 1) p (cond b (with_nibble d n es) [])) (left_true _ _ (left_true _ _ h)) ∙ sub-under (d + 1) p (with_nibble d n es) (right_true (has_two es && has_one (with_nibble d n es)) _ h)

-- below a part with entries, the paths with entries are exactly those of nodes
pub has_one-sub : (d : ℕ) (p : Path) (es : Part) → has_one (sub d p es) ≡ (has_one es && is_node d p es)
unfolding is_node
has_one-sub d [] es = sym (and-true (has_one es))
has_one-sub d (n ∷ p) [] = ap has_one (sub-none (d + 1) p)
has_one-sub d (n ∷ p) (e ∷ []) = ap has_one (sub-none (d + 1) p)
has_one-sub d (n ∷ p) (e ∷ f ∷ es) = has_one-sub (d + 1) p (with_nibble d n (e ∷ f ∷ es))

-- below the top, the paths with entries are exactly those of nodes
pub has_one-sub_below : (d n : ℕ) (p : Path) (es : Part) → has_one (sub d (n ∷ p) es) ≡ is_node d (n ∷ p) es
unfolding is_node
has_one-sub_below d n p [] = ap has_one (sub-none (d + 1) p)
has_one-sub_below d n p (e ∷ []) = ap has_one (sub-none (d + 1) p)
has_one-sub_below d n p (e ∷ f ∷ es) = has_one-sub (d + 1) p (with_nibble d n (e ∷ f ∷ es))

-- a path with entries is that of a node
pub is_node-sub : (d : ℕ) (p : Path) (es : Part) → ¬ (sub d p es ≡ []) → is_node d p es ≡ true
is_node-sub d p es some = right_true (has_one es) _ (sym (has_one-sub d p es) ∙ has_one-some (sub d p es) some)

-- the path of a node has entries, if the part has any
pub sub-is_node : (d : ℕ) (p : Path) (es : Part) → ¬ (es ≡ []) → is_node d p es ≡ true → ¬ (sub d p es ≡ [])
sub-is_node d p es some node = some-has_one (sub d p es) (has_one-sub d p es ∙ ap (λ b. b && is_node d p es) (has_one-some es some) ∙ node)

-- the path of a node below the top has entries
pub sub-is_node_below : (d n : ℕ) (p : Path) (es : Part) → is_node d (n ∷ p) es ≡ true → ¬ (sub d (n ∷ p) es ≡ [])
sub-is_node_below d n p es node = some-has_one (sub d (n ∷ p) es) (has_one-sub_below d n p es ∙ node)

-- a path without a node has no entries
pub sub-no_node : (d : ℕ) (p : Path) (es : Part) → is_node d p es ≡ false → sub d p es ≡ []
unfolding is_node
sub-no_node d [] es h = absurd (true≢false h)
sub-no_node d (n ∷ p) es h = none-has_one (sub d (n ∷ p) es) (has_one-sub_below d n p es ∙ h)
