-- Where in a map a landing writes nodes or makes them stale.
use Rattle.std.specs.Prelude.{ℕ, ◌<◌, ◌∷◌, ◌⊎◌, IsTrue}
use Rattle.jf_hash.specs.Slots.{Part}
use Rattle.jf_model.specs.Nodes.{Path, is_fresh}

-- the landing of the new entries over the old ones writes a node whose path begins with nibble n, or makes one stale
abbrev pub ChangesBelow : Part → Part → ℕ → Type 0
ChangesBelow old new n = (p : Path) × (IsTrue (is_fresh old new (n ∷ p)) ⊎ IsTrue (is_fresh new old (n ∷ p)))

-- it does so below more than one nibble
abbrev pub ChangesSeveral : Part → Part → Type 0
ChangesSeveral old new = (m n : ℕ) × (m < n) × (n < 16) × ChangesBelow old new m × ChangesBelow old new n
