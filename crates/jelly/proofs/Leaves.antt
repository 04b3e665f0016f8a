-- The leaves of entries, at places and in parts.
use Rattle.std.specs.Prelude.{◌≡◌, ◌+◌, ◌-◌, ◌<◌, ◌≤◌, ℕ, List, [], ◌∷◌, take, drop, length, true, false, T}
use Rattle.std.specs.List.{AllByRecursion}
use Rattle.std.specs.Ordering.{is_lt}
use Rattle.jf_path.specs.Keys.{bit, key_cmp, IsKey}
use Rattle.std.proofs.Common.{sym, ap, ap₂, subst, ◌∙◌, arith, get_or, take_all, length-drop}
use Rattle.std.proofs.lemmas.List.{get_or-map, length-map, take-map, drop-map}
use Rattle.jf_hash.specs.Hashes.{E, L, N}
use Rattle.jf_hash.specs.Roots.{Leaf, leaves_root}
use Rattle.jf_hash.specs.Parts.{IsPart, IsFirstOne}
use Rattle.jf_hash.proofs.RootLaws.{leaves_root-none, leaves_root-one, leaves_root-split}
use Rattle.jf_hash.proofs.Split.{deeper, zeros_ones, zeros_part, ones_part}
use Rattle.jelly.specs.declared.root.Entry.{Entry}
use Rattle.jelly.specs.MapRoots.{leaves_in, HaveKeys}
use Rattle.jelly.proofs.Rising.{rise, rise-more, rise-broken}

-- the leaf of an entry
abbrev pub leaf_in : Entry → Leaf
leaf_in e = (e.key, e.value_hash)

-- there are as many as entries
pub length-leaves_in : (es : List Entry) → length (leaves_in es) ≡ length es
length-leaves_in es = length-map es leaf_in

-- the one at a place is that of the entry there
pub leaves_in-at : (es : List Entry) (i : ℕ) (e : Entry) (d : Leaf) → i < length es → get_or (leaves_in es) i d ≡ leaf_in (get_or es i e)
leaves_in-at es i e d within = get_or-map leaf_in es i e d within

-- the entries from a place on
pub leaves_in-rest : (es : List Entry) (p : ℕ) → leaves_in (take (length es - p) (drop p es)) ≡ drop p (leaves_in es)
leaves_in-rest es p = ap leaves_in (take_all (length es - p) (drop p es) (omega (arith, length-drop p es))) ∙ sym (drop-map leaf_in p es)

pub keys-of_entries : (es : List Entry) → HaveKeys es → AllByRecursion (λ (l : Leaf). IsKey l.0) (leaves_in es)
keys-of_entries [] keys = tt
keys-of_entries (e ∷ es) keys = (keys.0, keys-of_entries es keys.1)

-- ---- keys that rise
-- two entries have their leaves' keys
keys_at : (es : List Entry) (i j : ℕ) (e f : Entry) → i < length es → j < length es
    → is_lt (key_cmp (get_or (leaves_in es) i (leaf_in e)).0 (get_or (leaves_in es) j (leaf_in e)).0) ≡ is_lt (key_cmp (get_or es i e).key (get_or es j f).key)
keys_at es i j e f first second = ap₂ (λ (a b : Leaf). is_lt (key_cmp a.0 b.0)) (leaves_in-at es i e (leaf_in e) first) (leaves_in-at es j f (leaf_in e) second)

pub rise-more_entries : (es : List Entry) (i : ℕ) (e f : Entry) → 0 < i → i < length es → is_lt (key_cmp (get_or es (i - 1) e).key (get_or es i f).key) ≡ true → T (rise (take i (leaves_in es))) → T (rise (take (i + 1) (leaves_in es)))
rise-more_entries es i e f some within lt rises =
    rise-more (leaves_in es) i (leaf_in e) some (omega (arith, length-leaves_in es)) (keys_at es (i - 1) i e f (omega arith) within ∙ lt) rises

pub rise-broken_entries : (es : List Entry) (i : ℕ) (e f : Entry) → 0 < i → i < length es → is_lt (key_cmp (get_or es (i - 1) e).key (get_or es i f).key) ≡ false → false ≡ rise (leaves_in es)
rise-broken_entries es i e f some within other =
    rise-broken (leaves_in es) i (leaf_in e) some (omega (arith, length-leaves_in es)) (keys_at es (i - 1) i e f (omega arith) within ∙ other)

-- the place of the first entry that has a bit is that of its leaf
pub first-one_found : (d p : ℕ) (es : List Entry) (e : Entry) → p ≤ length es → ((k : ℕ) (f : Entry) → k < p → bit (get_or es k f).key d ≡ false) → (p < length es → bit (get_or es p e).key d ≡ true) → IsFirstOne d p (leaves_in es)
first-one_found d p es e within before at = record {
  within = omega (arith, length-leaves_in es);
  before = λ k x lt. ap (λ (l : Leaf). bit l.0 d) (leaves_in-at es k e x (omega arith)) ∙ before k e lt;
  at = λ x lt. let there : p < length es = omega (arith, length-leaves_in es) in ap (λ (l : Leaf). bit l.0 d) (leaves_in-at es p e x there) ∙ at there;
}

-- ---- the root of a part
pub root-none : (d : ℕ) (es : List Entry) → length es < 1 → leaves_root d (leaves_in es) ≡ E
root-none d [] short = leaves_root-none d
root-none d (e ∷ es) short = absurd (omega arith)

pub root-one : (d : ℕ) (es : List Entry) (x : Entry) → 1 ≤ length es → length es < 2 → leaves_root d (leaves_in es) ≡ L (get_or es 0 x).key (get_or es 0 x).value_hash
root-one d [] x long short = absurd (omega arith)
root-one d (e ∷ []) x long short = leaves_root-one d (leaf_in e)
root-one d (e ∷ f ∷ es) x long short = absurd (omega arith)

two_leaves : (es : List Entry) → 2 ≤ length es → 2 ≤ length (leaves_in es)
two_leaves es two = omega (arith, length-leaves_in es)

-- two entries of a part differ in a bit that is still to come
pub part-deeper : (d : ℕ) (es : List Entry) → IsPart d (leaves_in es) → 2 ≤ length es → d < 256
part-deeper d es part two = deeper d (leaves_in es) part (two_leaves es two)

-- the root of a part with two entries is that of its two halves
pub root-halves : (d p : ℕ) (es : List Entry) → IsPart d (leaves_in es) → 2 ≤ length es → IsFirstOne d p (leaves_in es)
    → leaves_root d (leaves_in es) ≡ N (leaves_root (d + 1) (leaves_in (take p es))) (leaves_root (d + 1) (leaves_in (take (length es - p) (drop p es))))
root-halves d p es part two first =
    let both = zeros_ones d p (leaves_in es) part first in
    leaves_root-split d (leaves_in es) (part-deeper d es part two) (two_leaves es two)
    ∙ ap₂ (λ l r. N (leaves_root (d + 1) l) (leaves_root (d + 1) r)) (both.0 ∙ take-map leaf_in p es) (both.1 ∙ sym (leaves_in-rest es p))

pub zeros-part : (d p : ℕ) (es : List Entry) → IsPart d (leaves_in es) → IsFirstOne d p (leaves_in es) → IsPart (d + 1) (leaves_in (take p es))
zeros-part d p es part first = subst (IsPart (d + 1)) ((zeros_ones d p (leaves_in es) part first).0 ∙ take-map leaf_in p es) (zeros_part d (leaves_in es) part)

pub ones-part : (d p : ℕ) (es : List Entry) → IsPart d (leaves_in es) → IsFirstOne d p (leaves_in es) → IsPart (d + 1) (leaves_in (take (length es - p) (drop p es)))
ones-part d p es part first = subst (IsPart (d + 1)) ((zeros_ones d p (leaves_in es) part first).1 ∙ sym (leaves_in-rest es p)) (ones_part d (leaves_in es) part)
