-- The rule of a window, which holds between any two steps of any threads.
use lib.ListN.{get_elem?}
use mathlib.Core.Option as maybe
use Rattle.std.specs.Prelude.{ℕ, ◌<◌, List, ◌≡◌, Option, Some, length, slice_index}
use Rattle.atomic_table.specs.Table.{State}
use Rattle.jf_window.specs.declared.view.Grasp.{Grasp}
use Rattle.jf_window.specs.declared.view.Grasp.TheVariants.{Empty, Full}
use Rattle.jf_window.specs.declared.view.WindowView.{WindowView}

-- who has the value: nobody, or the one at a place
pub data Holder : Type 0 where
  nobody : Holder
  held_at : ℕ → Holder

-- the word is 0 exactly if nobody has the value
abbrev pub IsWordOf : Holder → ℕ → Type 0
IsWordOf nobody n = n ≡ 0
IsWordOf (held_at place) n = 0 < n

-- no other than the holder has the value
abbrev pub IsGraspOf : Holder → ℕ → Grasp → Type 0
IsGraspOf nobody place Empty = Unit {0}
IsGraspOf nobody place Full = ⊥
IsGraspOf (held_at p) place Empty = Unit {0}
IsGraspOf (held_at p) place Full = place ≡ p

module _ {K T : Type 0} (fits : K → T → Type 0) where
  -- a value that nobody has is in its slot, and fits
  abbrev pub IsInPlace : K → List (maybe.Option (Option T)) → Holder → Type 0
  IsInPlace key homes nobody = (y : T) × (get_elem? homes 0 ≡ maybe.some (maybe.some (Some y))) × fits key y
  IsInPlace key homes (held_at place) = Unit {0}

  -- the rule: of one word, one slot, and the views of all who came, each of which knows the key
  pub record IsWindow (key : K) (s : State (Option T) (WindowView K)) : Type 0 where
    pub holder : Holder
    pub wide : length s.words ≡ 1
    pub word_is : IsWordOf holder (slice_index s.words 0)
    pub home : IsInPlace key s.homes holder
    pub each : (place : ℕ) (v : WindowView K) → get_elem? s.views place ≡ maybe.some v → IsGraspOf holder place v.grasp × (v.key ≡ Some key)

-- the view of one who comes to the window
abbrev pub newcomer : {K : Type 0} → K → WindowView K
newcomer key = record { grasp = Empty; key = Some key }
