-- The update of a top, from the update of its node.
use Rattle.std.proofs.Common.{◌≡◌, ℕ, ◌+◌, [], sym, ap, subst, Option, Some, ◌∷◌, ◌∙◌, None, ◌≤◌, arith, inl, inr}
use Rattle.std.specs.Option.{is_some}
use Rattle.jf_hash.specs.Maps.{Batch}
use Rattle.jf_model.specs.Nodes.{Path, is_node}
use Rattle.jf_model.specs.Changes.{entries_after_batch}
use Rattle.jf_model.specs.ChildEntries.{sub}
use Rattle.jf_model.specs.NodeVersions.{VersionsFollow}
use Rattle.jf_walk.proofs.ChildEntryLaws.{sub-none}
use Rattle.jf_walk.proofs.SameParts.{same_or_other, some_entry, not_empty}
use Rattle.jf_walk.proofs.SubLaws.{sub-is_node}
use Rattle.jf_node.specs.LinkValue.{LinkValue, link_version_at}
use Rattle.jf_node.specs.LinkFacts.{IsLink, IsLinkIf}
use Rattle.jf_node.specs.Children.{content, renewed_value}
use Rattle.jf_node.proofs.NodeVersions.{version-renewed}
use Rattle.jf_diff.specs.OptionalNodes.{IsAtDepth, IsOfVersion}
use Rattle.jf_diff.proofs.Walks.{some_is}
use Rattle.jf_update.specs.TopUpdates.{NoneNewer, IsNextTop}
use Rattle.jf_update.specs.Outcomes.{IsNodeUpdate, IsOutcome}
use Rattle.jf_update.specs.declared.outcome.Outcome.TheVariants.{New}

-- ---- a landing that changes nothing
renewed_newest : (head : ℕ) (old : Option LinkValue) (x : LinkValue) (p : Path) (v : ℕ) → NoneNewer head old → old ≡ Some x → IsLink x → link_version_at p (Some (renewed_value (head + 1) x)) ≡ Some v → v ≤ head + 1
renewed_newest head old x [] v newest is link e = omega (arith, some_is (head + 1) v e)
renewed_newest head old x (n ∷ p) v newest is link e = omega (arith, newest (n ∷ p) v (ap (link_version_at (n ∷ p)) is ∙ sym (version-renewed (head + 1) n p x link) ∙ e))

-- ---- a landing that changes something
landed_newest : (head : ℕ) (old top : Option LinkValue) → IsAtDepth 0 top → NoneNewer head old → IsLinkIf top → VersionsFollow 0 (head + 1) (content old) (content top) (λ p. link_version_at p old) (λ p. link_version_at p top) → NoneNewer (head + 1) top
landed_newest head old None at newest sound versions p v e = absurd (cc)
landed_newest head old (Some y) at newest sound versions p v e = elim (some_entry (sub 0 p y.entries)) [
  | inl none ↦ absurd (unversioned none)
  | inr some ↦
      let here : ¬ (sub 0 p y.entries ≡ []) = not_empty (sub 0 p y.entries) some in
      elim (same_or_other (sub 0 p (content old)) (sub 0 p y.entries)) [
        | inl same ↦ omega (arith, newest p v (sym ((versions p).kept here same) ∙ e))
        | inr other ↦ omega (arith, some_is v (head + 1) (sym e ∙ (versions p).fresh here other))
      ]
]
  where
    unversioned : sub 0 p y.entries ≡ [] → ⊥
    unversioned none = sub-is_node 0 p y.entries (not_empty y.entries sound.entries.some) (ap (λ d. is_node d p y.entries) (sym at) ∙ sym (sound.versioned.exact p) ∙ ap is_some e) none

pub has_version : (head : ℕ) (old top : Option LinkValue) (bs : Batch) → IsNodeUpdate 0 (head + 1) old bs top → ¬ (entries_after_batch (content old) bs ≡ content old) → IsLinkIf top → IsOfVersion (head + 1) top
has_version head old None bs made differ sound = tt
has_version head old (Some y) bs made differ sound =
    some_is y.version (head + 1) (sym sound.own ∙ (made.versions []).fresh (not_empty y.entries sound.entries.some) (λ e. differ (sym made.entries ∙ sym e)))

-- ---- the new top alone
pub next_none : (head : ℕ) (old : Option LinkValue) (bs : Batch) → old ≡ None → entries_after_batch (content old) bs ≡ content old → IsNextTop head old bs None
next_none head old bs is same = record {
  entries = sym (same ∙ ap content is);
  placed = tt;
  own = tt;
  versions = λ n p. let nothing = sub-none 1 p in record { kept = λ some eq. absurd (some nothing); fresh = λ some other. absurd (some nothing) };
  newest = λ p v e. absurd (cc);
  sound = tt;
}

pub next_renewed : (head : ℕ) (old : Option LinkValue) (x y : LinkValue) (bs : Batch) → NoneNewer head old → old ≡ Some x → IsAtDepth 0 old → IsLink x → IsLink y → y ≡ renewed_value (head + 1) x → entries_after_batch (content old) bs ≡ content old → IsNextTop head old bs (Some y)
next_renewed head old x y bs newest is placed link sound renew same =
    let at : content old ≡ x.entries = ap content is in
    let now : y.entries ≡ x.entries = ap (λ (z : LinkValue). z.entries) renew in
    record {
      entries = now ∙ sym (same ∙ at);
      placed = ap (λ (z : LinkValue). z.depth) renew ∙ subst (IsAtDepth 0) is placed;
      own = ap (λ (z : LinkValue). z.version) renew;
      versions = λ n p. record {
        kept = λ some eq. ap (λ z. link_version_at (n ∷ p) (Some z)) renew ∙ version-renewed (head + 1) n p x link ∙ ap (link_version_at (n ∷ p)) (sym is);
        fresh = λ some other. absurd (other (ap (sub 0 (n ∷ p)) (at ∙ sym now)));
      };
      newest = λ p v e. renewed_newest head old x p v newest is link (ap (λ z. link_version_at p (Some z)) (sym renew) ∙ e);
      sound = sound;
    }

pub next_changed : (head : ℕ) (old top : Option LinkValue) (bs : Batch) → NoneNewer head old → IsLinkIf top → IsOutcome 0 (head + 1) old bs (New top) → IsNextTop head old bs top
next_changed head old top bs newest sound out = record {
  entries = out.0.entries;
  placed = out.0.placed;
  own = has_version head old top bs out.0 out.1 sound;
  versions = λ n p. out.0.versions (n ∷ p);
  newest = landed_newest head old top out.0.placed newest sound out.0.versions;
  sound = sound;
}
