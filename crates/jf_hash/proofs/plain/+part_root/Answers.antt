use Rattle.std.proofs.Common.{rules, ◌≡◌, ℕ, ◌+◌, ◌-◌, ◌<◌, ◌≤◌, ◌∙◌, sym, ap₂, length, take, drop, take_all, length-drop, arith, List, [], ◌∷◌, get_or, subst}
use Rattle.jf_hash.specs.Hashes.{E, L, N}
use Rattle.jf_hash.specs.Roots.{Leaf, leaves_root}
use Rattle.jf_hash.proofs.RootLaws.{leaves_root-none, leaves_root-one, leaves_root-split}
use Rattle.jf_hash.specs.Parts.{IsPart, IsFirstOne}
use Rattle.jf_hash.proofs.Split.{deeper, zeros_ones, zeros_part, ones_part}
use Rattle.jf_hash.proofs.plain.+part_root.Goals as goal

whole : (p : ℕ) (es : List Leaf) → take (length es - p) (drop p es) ≡ drop p es
whole p es = take_all (length es - p) (drop p es) (omega (arith, length-drop p es))

none_of : (d : ℕ) (es : List Leaf) → length es < 1 → leaves_root d es ≡ E
none_of d [] short = leaves_root-none d
none_of d (e ∷ es) short = absurd (omega arith)

one_of : (d : ℕ) (es : List Leaf) → 1 ≤ length es → length es < 2 → leaves_root d es ≡ L (get_or es 0 ([], [])).0 (get_or es 0 ([], [])).1
one_of d [] long short = absurd (omega arith)
one_of d (e ∷ []) long short = leaves_root-one d e
one_of d (e ∷ f ∷ es) long short = absurd (omega arith)

more : (d p : ℕ) (es : List Leaf) → IsPart d es → 2 ≤ length es → IsFirstOne d p es → leaves_root d es ≡ N (leaves_root (d + 1) (take p es)) (leaves_root (d + 1) (take (length es - p) (drop p es)))
more d p es part two first =
    let both = zeros_ones d p es part first in
    leaves_root-split d es (deeper d es part two) two
    ∙ ap₂ (λ l r. N (leaves_root (d + 1) l) (leaves_root (d + 1) r)) both.0 (both.1 ∙ sym (whole p es))

left_part : (d p : ℕ) (es : List Leaf) → IsPart d es → IsFirstOne d p es → IsPart (d + 1) (take p es)
left_part d p es part first = subst (IsPart (d + 1)) (zeros_ones d p es part first).0 (zeros_part d es part)

right_part : (d p : ℕ) (es : List Leaf) → IsPart d es → IsFirstOne d p es → IsPart (d + 1) (take (length es - p) (drop p es))
right_part d p es part first = subst (IsPart (d + 1)) ((zeros_ones d p es part first).1 ∙ sym (whole p es)) (ones_part d es part)

pub first_one-ones-requires : goal.first_one-ones-requires
first_one-ones-requires t c = deeper c.args.depth c.args.entries.now c.requires.part c.in_default.len_at_least

pub overflow_add-depth : goal.overflow_add-depth
overflow_add-depth t c =
    let h = deeper c.args.depth c.args.entries.now c.requires.part c.in_default.len_at_least in grind arith

pub part_root-left-requires : goal.part_root-left-requires
part_root-left-requires t c = (let h : c.args.depth < 256 = deeper c.args.depth c.args.entries.now c.requires.part c.in_default.len_at_least in search rules, left_part _ _ _ c.requires.part c.first_one-ones.ensures)

pub overflow_add-depth-in_default : goal.overflow_add-depth-in_default
overflow_add-depth-in_default t c =
    let h = deeper c.args.depth c.args.entries.now c.requires.part c.in_default.len_at_least in grind arith

pub part_root-right-requires : goal.part_root-right-requires
part_root-right-requires t c = (let h : c.args.depth < 256 = deeper c.args.depth c.args.entries.now c.requires.part c.in_default.len_at_least in search rules, right_part _ _ _ c.requires.part c.first_one-ones.ensures)

pub returns-in-empty : goal.returns-in-empty
returns-in-empty t c = c.empty.ensures ∙ sym (none_of _ _ c.in-empty.len_below)

pub returns-in-len1 : goal.returns-in-len1
returns-in-len1 t c = c.leaf.ensures ∙ sym (one_of _ _ c.in-len1.len_at_least c.in-len1.len_below)

pub returns-in_default : goal.returns-in_default
returns-in_default t c =
    c.inner.ensures ∙ ap₂ N c.part_root-left.ensures c.part_root-right.ensures
    ∙ sym (more _ _ _ c.requires.part c.in_default.len_at_least c.first_one-ones.ensures)
