-- The versions that a landing gives to nodes.
use Rattle.std.specs.Prelude.{◌≡◌, ℕ, [], Option, Some, ◌≤◌, ◌∷◌, length}
use Rattle.jf_hash.specs.Slots.{Part}
use Rattle.jf_model.specs.Nodes.{Path}
use Rattle.jf_model.specs.ChildEntries.{sub}

-- a node whose part is as before keeps its version, and any other has the new one
pub record VersionFollows (version : ℕ) (old new : Part) (before now : Option ℕ) : Type 0 where
  pub kept : ¬ (new ≡ []) → old ≡ new → now ≡ before
  pub fresh : ¬ (new ≡ []) → ¬ (old ≡ new) → now ≡ Some version

-- each node below two parts is so versioned, by the versions at each path before and now
abbrev pub VersionsFollow : ℕ → ℕ → Part → Part → (Path → Option ℕ) → (Path → Option ℕ) → Type 0
VersionsFollow depth version old new before now = (path : Path) → VersionFollows version (sub depth path old) (sub depth path new) (before path) (now path)

-- each node below a part has the new version
abbrev pub AllNew : ℕ → ℕ → Part → (Path → Option ℕ) → Type 0
AllNew depth version es now = (path : Path) → ¬ (sub depth path es ≡ []) → now path ≡ Some version

-- a new node over children with versions of their own
pub record IsNewTop (version : ℕ) (es : Part) (below : ℕ → Path → Option ℕ) (now : Path → Option ℕ) : Type 0 where
  pub top : ¬ (es ≡ []) → now [] ≡ Some version
  pub children : (n : ℕ) (path : Path) → 2 ≤ length es → now (n ∷ path) ≡ below n path
