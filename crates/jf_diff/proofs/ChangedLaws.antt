-- Below which nibbles a landing writes nodes or makes them stale, by the children of the two tops.
use denote.Ref.{Bor}
use Rattle.std.proofs.Common.{◌≡◌, ◌↔◌, ℕ, ◌+◌, ◌<◌, ◌==◌, [], ◌∷◌, ◌⊎◌, inl, inr, Bool, true, false, true≢false, Option, Some, None, sym, ap, ◌∙◌, subst, refl, arith, IsTrue}
use Rattle.std.proofs.lemmas.Bool.{cases_lt}
use Rattle.std.specs.Option.{option_copied, is_some}
use Rattle.jf_path.proofs.BoolLaws.{left_true}
use Rattle.jf_path.proofs.NumberLaws.{number_tells, same_number}
use Rattle.jf_hash.specs.Slots.{Part}
use Rattle.jf_model.specs.ChildEntries.{child_entries, sub}
use Rattle.jf_model.specs.Nodes.{Path, is_node, is_fresh}
use Rattle.jf_walk.proofs.FreshVersions.{is_fresh-same, is_fresh-other}
use Rattle.jf_walk.proofs.SameParts.{some_entry, not_empty}
use Rattle.jf_walk.proofs.SubLaws.{is_node-sub}
use Rattle.jf_node.specs.LinkValue.{LinkValue, link_version_at}
use Rattle.jf_node.specs.LinkFacts.{IsLink}
use Rattle.jf_node.specs.Children.{content}
use Rattle.jf_diff.specs.Below.{IsBelow, IsBelowIf}
use Rattle.jf_diff.specs.Changed.{ChangesBelow, ChangesSeveral}
use Rattle.jf_diff.specs.OptionalNodes.{IsAtDepth}
use Rattle.jf_diff.specs.Tops.{IsFreshUnder}
use Rattle.jf_diff.proofs.Walks.{some_is, child_in_sound}

-- ---- by the entries of the children
fresh_is_node : (old new : Part) (n : ℕ) (p : Path) → is_fresh old new (n ∷ p) ≡ true → is_node 0 (n ∷ p) new ≡ true
unfolding is_fresh
fresh_is_node old new n p h = left_true _ _ h

fresh_differs : (old new : Part) (n : ℕ) (p : Path) → is_fresh old new (n ∷ p) ≡ true → ¬ (child_entries 0 n old ≡ child_entries 0 n new)
fresh_differs old new n p fresh same = true≢false (sym fresh ∙ is_fresh-same old new n p (fresh_is_node old new n p fresh) (ap (sub 1 p) same))

differs_fresh : (old new : Part) (n : ℕ) → ¬ (child_entries 0 n new ≡ []) → ¬ (child_entries 0 n old ≡ child_entries 0 n new) → is_fresh old new (n ∷ []) ≡ true
differs_fresh old new n some other = is_fresh-other old new n [] (is_node-sub 0 (n ∷ []) new some) other

-- nothing changes below a nibble with the same entries as before
same_unchanged : (old new : Part) (n : ℕ) → child_entries 0 n old ≡ child_entries 0 n new → ¬ ChangesBelow old new n
same_unchanged old new n same changes = elim changes.1 [
  | inl fresh ↦ fresh_differs old new n changes.0 fresh same
  | inr stale ↦ fresh_differs new old n changes.0 stale (sym same)
]

-- and something does if the entries are others
other_changed : (old new : Part) (n : ℕ) → ¬ (child_entries 0 n old ≡ child_entries 0 n new) → ChangesBelow old new n
other_changed old new n other = elim (some_entry (child_entries 0 n new)) [
  | inl none ↦ ([], inr (differs_fresh new old n (λ gone. other (gone ∙ sym none)) (λ same. other (sym same))))
  | inr some ↦ ([], inl (differs_fresh old new n (not_empty _ some) other))
]

below_or_at : (k n : ℕ) → k < n + 1 → (k < n) ⊎ (k ≡ n)
below_or_at k n lt = elim (cases_lt k n) [ inl low ↦ inl low | inr high ↦ inr (omega arith) ]

-- ---- by the children
child_of_top : (y : Option LinkValue) (n : ℕ) (c : Option LinkValue) → IsAtDepth 0 y → IsBelowIf y n c → content c ≡ child_entries 0 n (content y)
child_of_top None n c at is = ap content is
child_of_top (Some y) n c at is = is.entries ∙ ap (λ d. child_entries d n y.entries) at

-- there is no child now: something changed if there was one
pub changed-gone : (old top : Option LinkValue) (n : ℕ) (now was : Option (Bor LinkValue)) → IsAtDepth 0 old → IsAtDepth 0 top → IsBelowIf top n (option_copied now) → now ≡ None → IsBelowIf old n (option_copied was) → IsTrue (is_some was) ↔ ChangesBelow (content old) (content top) n
changed-gone old top n now None deep at is none before =
    let without : child_entries 0 n (content top) ≡ [] = sym (child_of_top top n (option_copied now) at is) ∙ ap (λ r. content (option_copied r)) none in
    (λ h. absurd (true≢false (sym h)), λ changes. absurd (same_unchanged (content old) (content top) n (sym (child_of_top old n None deep before) ∙ sym without) changes))
changed-gone old top n now (Some c) deep at is none before =
    let without : child_entries 0 n (content top) ≡ [] = sym (child_of_top top n (option_copied now) at is) ∙ ap (λ r. content (option_copied r)) none in
    let link = child_in_sound old n (Some c.now) before in
    (λ h. other_changed (content old) (content top) n (λ same. not_empty c.now.entries link.entries.some (child_of_top old n (Some c.now) deep before ∙ same ∙ without)), λ changes. refl)

-- there is a child now: something changed if the landing wrote it
pub changed-new : (version : ℕ) (old top : Option LinkValue) (before : Path → Option ℕ) (n : ℕ) (now : Option (Bor LinkValue)) (c : Bor LinkValue) (v : ℕ) → IsAtDepth 0 top → IsFreshUnder version (content old) before top → IsBelowIf top n (option_copied now) → now ≡ Some c → IsLink c.now → v ≡ c.now.version
    → IsTrue (v == version) ↔ ChangesBelow (content old) (content top) n
changed-new version old None before n now c v at under is some link own = absurd (let e : Some c.now ≡ None = ap option_copied (sym some) ∙ is in cc)
changed-new version old (Some x) before n now c v at under is some link own =
    let es = content old in
    let below : IsBelow x n (Some c.now) = subst (λ r. IsBelow x n (option_copied r)) some is in
    let follows = under.versioned n [] in
    let some_now : ¬ (child_entries x.depth n x.entries ≡ []) = λ none. not_empty c.now.entries link.entries.some (below.entries ∙ none) in
    let has : link_version_at (n ∷ []) (Some x) ≡ Some v = below.versions [] ∙ link.own ∙ ap (λ w. Some w) (sym own) in
    let deep : (child_entries 0 n es ≡ child_entries 0 n x.entries) → child_entries x.depth n es ≡ child_entries x.depth n x.entries = λ same. subst (λ d. child_entries d n es ≡ child_entries d n x.entries) (sym at) same in
    let top : (child_entries x.depth n es ≡ child_entries x.depth n x.entries) → child_entries 0 n es ≡ child_entries 0 n x.entries = λ same. subst (λ d. child_entries d n es ≡ child_entries d n x.entries) at same in (
      λ h. other_changed es x.entries n (λ same. under.older n [] (sym (follows.kept some_now (deep same)) ∙ has ∙ ap (λ w. Some w) (number_tells v version h))),
      λ changes. same_number v version (some_is v version (sym has ∙ follows.fresh some_now (λ same. same_unchanged es x.entries n (top same) changes))),
    )

-- ---- more than one nibble
-- of the nibbles below n one has been found at most: `found` says whether there is one
pub record IsFoundBelow (old new : Part) (n : ℕ) (found : Bool) : Type 0 where
  pub nothing : found ≡ false → (k : ℕ) → k < n → ¬ ChangesBelow old new k
  pub one : found ≡ true → (m : ℕ) × (m < n) × ChangesBelow old new m × ((k : ℕ) → k < n → ChangesBelow old new k → k ≡ m)

pub found-start : (old new : Part) → IsFoundBelow old new 0 false
found-start old new = record { nothing = λ is k lt. absurd (omega arith); one = λ is. absurd (true≢false (sym is)) }

pub found-same : (old new : Part) (n : ℕ) (found : Bool) → IsFoundBelow old new n found → ¬ ChangesBelow old new n → IsFoundBelow old new (n + 1) found
found-same old new n found so none = record {
  nothing = λ is k lt changes. elim (below_or_at k n lt) [ inl low ↦ so.nothing is k low changes | inr at ↦ none (subst (ChangesBelow old new) at changes) ];
  one = λ is. let it = so.one is in
      (it.0, omega (arith, it.1), it.2, λ k lt changes. elim (below_or_at k n lt) [ inl low ↦ it.3 k low changes | inr at ↦ absurd (none (subst (ChangesBelow old new) at changes)) ]);
}

pub found-first : (old new : Part) (n : ℕ) → IsFoundBelow old new n false → ChangesBelow old new n → IsFoundBelow old new (n + 1) true
found-first old new n so here = record {
  nothing = λ is. absurd (true≢false is);
  one = λ is. (n, omega arith, here, λ k lt changes. elim (below_or_at k n lt) [ inl low ↦ absurd (so.nothing refl k low changes) | inr at ↦ at ]);
}

pub found-second : (old new : Part) (n : ℕ) → n < 16 → IsFoundBelow old new n true → ChangesBelow old new n → ChangesSeveral old new
found-second old new n small so here = let it = so.one refl in (it.0, n, it.1, small, it.2, here)

pub found-all : (old new : Part) (n : ℕ) (found : Bool) → n ≡ 16 → IsFoundBelow old new n found → ¬ ChangesSeveral old new
found-all old new n false all so h = so.nothing refl h.1 (omega (arith, h.3)) h.5
found-all old new n true all so h =
    let it = so.one refl in
    let low = it.3 h.0 (omega (arith, h.2, h.3)) h.4 in
    let high = it.3 h.1 (omega (arith, h.3)) h.5 in
    omega (arith, h.2)
