-- Lines and texts in two buffers, beside their sizes.
use Rattle.std.specs.Prelude.{◌≡◌, ℕ, ◌≤◌, List, [], ◌∷◌, length, take, drop}

-- the lines and texts of these sizes that stand one after another in two buffers
abbrev pub sized_texts : List (ℕ × ℕ) → List ℕ → List ℕ → List (List ℕ × List ℕ)
sized_texts [] lines texts = []
sized_texts (s ∷ ss) lines texts = (take s.0 lines, take s.1 texts) ∷ sized_texts ss (drop s.0 lines) (drop s.1 texts)

-- the sizes are those of all that stands in the buffers
abbrev pub AreSizesOf : List (ℕ × ℕ) → List ℕ → List ℕ → Type 0
AreSizesOf [] lines texts = (lines ≡ []) × (texts ≡ [])
AreSizesOf (s ∷ ss) lines texts = (s.0 ≤ length lines) × (s.1 ≤ length texts) × AreSizesOf ss (drop s.0 lines) (drop s.1 texts)

-- so it is with the sizes from one place on, and with the buffers from two others on
abbrev pub AreSizesFrom : ℕ → ℕ → ℕ → List (ℕ × ℕ) → List ℕ → List ℕ → Type 0
AreSizesFrom taken line_start text_start sizes lines texts = (taken ≤ length sizes) × (line_start ≤ length lines) × (text_start ≤ length texts) × AreSizesOf (drop taken sizes) (drop line_start lines) (drop text_start texts)
