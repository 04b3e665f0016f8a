-- The versions of the nodes below a node, by those of its children.
use Rattle.std.proofs.Common.{◌≡◌, ℕ, sym, ◌∙◌, Option, refl, ◌<◌, [], ◌∷◌, length, ◌+◌, ◌≤◌, inl, inr, Some}
use Rattle.std.proofs.lemmas.Bool.{cases_lt}
use Rattle.jf_hash.specs.Slots.{Part, with_nibble}
use Rattle.jf_model.specs.NodeVersions.{VersionFollows, VersionsFollow, AllNew, IsNewTop}
use Rattle.jf_model.specs.Nodes.{Path}
use Rattle.jf_walk.proofs.ChildEntryLaws.{sub-few, sub-many, sub-past}
use Rattle.jf_walk.proofs.SameParts.{same_or_other}

-- `VersionFollows` holds also of equal parts and versions
pub moved : (version : ℕ) (a b : Part) (c e : Option ℕ) (a' b' : Part) (c' e' : Option ℕ) → VersionFollows version a b c e → a' ≡ a → b' ≡ b → c' ≡ c → e' ≡ e → VersionFollows version a' b' c' e'
moved version a b c e a' b' c' e' h p q r s = record {
  kept = λ some same. s ∙ h.kept (λ none. some (q ∙ none)) (sym p ∙ same ∙ q) ∙ sym r;
  fresh = λ some other. s ∙ h.fresh (λ none. some (q ∙ none)) (λ same. other (p ∙ same ∙ sym q));
}

-- if nothing changes, each node keeps its version
pub same_versioned : (version depth : ℕ) (es : Part) (before : Path → Option ℕ) → VersionsFollow depth version es es before before
same_versioned version depth es before p = record { kept = λ some same. refl; fresh = λ some other. absurd (other refl) }

-- over at most one old entry each node is new, if the part changes
pub built_versioned : (depth version : ℕ) (old new : Part) (before now : Path → Option ℕ) → length old < 2 → ¬ (new ≡ old) → AllNew depth version new now → VersionsFollow depth version old new before now
built_versioned depth version old new before now few differ all [] = record { kept = λ some same. absurd (differ (sym same)); fresh = λ some other. all [] some }
built_versioned depth version old new before now few differ all (n ∷ p) =
    record { kept = λ some same. absurd (some (sym same ∙ sub-few depth n p old few)); fresh = λ some other. all (n ∷ p) some }

-- a new node over children that are kept or new
pub topped_versioned : (depth version : ℕ) (old new : Part) (befores nows : ℕ → Path → Option ℕ) (before now : Path → Option ℕ) → 2 ≤ length old → ¬ (new ≡ old)
    → ((n : ℕ) (p : Path) → n < 16 → before (n ∷ p) ≡ befores n p)
    → ((n : ℕ) → n < 16 → VersionsFollow (depth + 1) version (with_nibble depth n old) (with_nibble depth n new) (befores n) (nows n))
    → IsNewTop version new nows now → VersionsFollow depth version old new before now
topped_versioned depth version old new befores nows before now many differ was each t [] = record { kept = λ some same. absurd (differ (sym same)); fresh = λ some other. t.top some }
topped_versioned depth version old new befores nows before now many differ was each t (n ∷ p) =
    elim (cases_lt (length new) 2) [
      | inl few ↦ let gone = sub-few depth n p new few in record { kept = λ some same. absurd (some gone); fresh = λ some other. absurd (some gone) }
      | inr lots ↦ elim (cases_lt n 16) [
        | inl small ↦ moved version _ _ _ _ _ _ _ _ (each n small p) (sub-many depth n p old many) (sub-many depth n p new lots) (was n p small) (t.children n p lots)
        | inr past ↦ let gone = sub-past depth n p new lots past in record { kept = λ some same. absurd (some gone); fresh = λ some other. absurd (some gone) }
      ]
    ]

-- a new node over new children
pub topped_built : (depth version : ℕ) (es : Part) (nows : ℕ → Path → Option ℕ) (now : Path → Option ℕ) → 2 ≤ length es → ((n : ℕ) → n < 16 → AllNew (depth + 1) version (with_nibble depth n es) (nows n)) → IsNewTop version es nows now → AllNew depth version es now
topped_built depth version es nows now many each t [] some = t.top some
topped_built depth version es nows now many each t (n ∷ p) some = elim (cases_lt n 16) [
  | inl small ↦ t.children n p many ∙ each n small p (λ none. some (sub-many depth n p es many ∙ none))
  | inr past ↦ absurd (some (sub-past depth n p es many past))
]

-- a new node over at most one entry is all new
pub built_one : (depth version : ℕ) (es : Part) (now : Path → Option ℕ) → length es < 2 → now [] ≡ Some version → AllNew depth version es now
built_one depth version es now few is [] some = is
built_one depth version es now few is (n ∷ p) some = absurd (some (sub-few depth n p es few))

-- a node without the new version has the part that it had
pub VersionFollows-old : (version : ℕ) (old new : Part) (before now : Option ℕ) → VersionFollows version old new before now → ¬ (new ≡ []) → ¬ (now ≡ Some version) → old ≡ new
VersionFollows-old version old new before now h some other = elim (same_or_other old new) [ inl same ↦ same | inr differ ↦ absurd (other (h.fresh some differ)) ]

-- a node that gets the new version has another part than it had
pub VersionFollows-new : (version : ℕ) (old new : Part) (before now : Option ℕ) → VersionFollows version old new before now → ¬ (new ≡ []) → ¬ (before ≡ Some version) → now ≡ Some version → ¬ (old ≡ new)
VersionFollows-new version old new before now h some older is same = older (sym (h.kept some same) ∙ is)
