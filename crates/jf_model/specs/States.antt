-- The state of a run: what its entries have made so far.
use Rattle.std.specs.Prelude.{ℕ, List, [], ◌≤◌}
use Rattle.std.specs.List.{AllByRecursion}
use Rattle.jf_hash.specs.Maps.{IsBatch}
use Rattle.jf_model.specs.Versions.{Versions, versions_from_floor, IsVersions}
use Rattle.jf_model.specs.Forks.{Fork, AreForks}

-- All versions from the floor at opening on, which are never dropped; the present floor; and what the files don't hold:
-- the retired bound, the number of entries, of forks made, and the live forks.
pub record State : Type 0 where
  pub all : Versions
  pub floor : ℕ
  pub retired : ℕ
  pub generation : ℕ
  pub count : ℕ
  pub made : ℕ
  pub forks : List Fork

-- the versions from the present floor on
abbrev pub versions : State → Versions
versions s = versions_from_floor s.floor s.all

-- the state of a store that was opened, with the generation that it has
abbrev pub state_when_opened : Versions → ℕ → State
state_when_opened v g = record { all = v; floor = v.floor; retired = v.floor; generation = g; count = 0; made = 0; forks = [] }

-- a sound state: its versions and forks are sound, and floor, retired bound and head stand in this order
pub record IsState (s : State) : Type 0 where
  pub sound : IsVersions s.all
  pub first : s.all.floor ≤ s.floor
  pub floor_low : s.floor ≤ s.retired
  pub retired_low : s.retired ≤ s.all.head
  pub live : AreForks s.made s.forks
  pub batches : AllByRecursion (λ f. IsBatch f.batch) s.forks
