-- Entries: when each is legal, and the state that it makes.
use Rattle.std.specs.Prelude.{List, [], ◌∷◌, ◌+◌, ℕ, IsTrue, ◌≡◌, ◌<◌, length, ◌≤◌, ◌-◌, ◌^◌}
use Rattle.std.specs.FinMap as fin
use Rattle.jf_path.specs.Limits.{max_forks}
use Rattle.jf_hash.specs.Maps.{Batch, apply, IsBatch}
use Rattle.jf_hash.specs.Roots.{root}
use Rattle.jf_split.specs.Limits.{max_keys}
use Rattle.jf_model.specs.Forks.{chain, batches, Fork, forks_after_landing, without, is_among, is_parent, parent_map}
use Rattle.jf_model.specs.States.{State}
use Rattle.jf_model.specs.declared.entries.Landing.{Landing}
use Rattle.jf_model.specs.Versions.{Versions, land_all, newest}
use Rattle.jf_model.specs.declared.entries.Entry.{Entry}
use Rattle.jf_model.specs.declared.entries.Parent.{Parent}
use Rattle.jf_model.specs.Batches.{key_count}
use Rattle.jf_model.specs.declared.entries.Landing.TheVariants as landing
use Rattle.jf_model.specs.declared.entries.Entry.TheVariants as entry

-- the batches that a landing lands, one version each
abbrev pub landed_batches : State → Landing → List Batch
landed_batches s (landing.Direct batch) = batch ∷ []
landed_batches s (landing.Fork id) = batches (chain s.forks id)

-- the forks that stay after a landing
abbrev pub forks_left : State → Landing → List Fork
forks_left s (landing.Direct batch) = []
forks_left s (landing.Fork id) = forks_after_landing id s.forks

-- the versions after a landing
abbrev pub versions_after : State → Landing → Versions
versions_after s how = land_all (landed_batches s how) s.all

-- the state that an entry makes
unfoldable pub after : Entry → State → State
after (entry.Made owner fork parent batch r) s =
    record s { count = s.count + 1; made = s.made + 1; forks = record { id = fork; parent = parent; batch = batch } ∷ s.forks }
after (entry.Landed owner version how r moment) s =
    record s { all = versions_after s how; count = s.count + 1; forks = forks_left s how }
after (entry.Dropped owner fork) s = record s { count = s.count + 1; forks = without fork s.forks }
after (entry.Retired owner bound floor) s = record s { count = s.count + 1; retired = bound; floor = floor }
after (entry.Compacted owner generation) s = record s { count = s.count + 1; generation = generation }

-- the state after entries, in turn
unfoldable pub replay : State → List Entry → State
replay s [] = s
replay s (e ∷ es) = replay (after e s) es

-- ---- legal entries
-- the fork is live
abbrev pub IsLive : State → ℕ → Type 0
IsLive s id = IsTrue (is_among id s.forks)

-- a fork may be made: it has the next number, a parent, and room among at most 1,024 live forks, and this is the root of its map
pub record IsMaking (s : State) (fork : ℕ) (parent : Parent) (batch : Batch) (r : List ℕ) : Type 0 where
  pub next : fork ≡ s.made
  pub stands : IsTrue (is_parent parent s.forks)
  pub room : length s.forks < max_forks
  pub sound : IsBatch batch
  pub rooted : r ≡ root (apply (parent_map (newest s.all) s.forks parent) batch)

-- what may land: a batch, or a live fork whose chain has at most 10,000 keys
abbrev pub MayLand : State → Landing → Type 0
MayLand s (landing.Direct batch) = IsBatch batch
MayLand s (landing.Fork id) = IsLive s id × (key_count (batches (chain s.forks id)) ≤ max_keys)

-- a landing starts from a map of at most 2^62 entries, and makes a version for each of its batches
pub record IsLandedEntry (s : State) (version : ℕ) (how : Landing) (r : List ℕ) : Type 0 where
  pub may : MayLand s how
  pub small : fin.len (newest s.all) ≤ 2 ^ 62
  pub next : version ≡ s.all.head + length (landed_batches s how)
  pub bounded : version ≤ 2 ^ 64 - 2
  pub rooted : r ≡ root (newest (versions_after s how))

-- versions may be retired: neither bound nor floor falls, the bound is at most the head, and the floor at most the bound
pub record IsRetiring (s : State) (bound floor : ℕ) : Type 0 where
  pub rises : s.retired ≤ bound
  pub within : bound ≤ s.all.head
  pub floor_rises : s.floor ≤ floor
  pub below : floor ≤ bound

-- the next generation may be written
abbrev pub IsCompacting : State → ℕ → Type 0
IsCompacting s generation = (generation ≡ s.generation + 1) × (generation ≤ 2 ^ 64 - 2)

-- an entry fits the state
abbrev pub IsLegalStep : State → Entry → Type 0
IsLegalStep s (entry.Made owner fork parent batch r) = IsMaking s fork parent batch r
IsLegalStep s (entry.Landed owner version how r moment) = IsLandedEntry s version how r
IsLegalStep s (entry.Dropped owner fork) = IsLive s fork
IsLegalStep s (entry.Retired owner bound floor) = IsRetiring s bound floor
IsLegalStep s (entry.Compacted owner generation) = IsCompacting s generation

-- there is room for one more entry, and it fits the state
abbrev pub IsLegal : State → Entry → Type 0
IsLegal s e = (s.count < 2 ^ 62) × IsLegalStep s e

-- the entries are legal in turn
abbrev pub AreLegal : State → List Entry → Type 0
AreLegal s [] = Unit {0}
AreLegal s (e ∷ es) = IsLegal s e × AreLegal (after e s) es

-- ---- moments
-- the moments at which the landings were acknowledged
abbrev pub moments_of : List Entry → List ℕ
moments_of [] = []
moments_of (entry.Made owner fork parent batch r ∷ es) = moments_of es
moments_of (entry.Landed owner version how r moment ∷ es) = moment ∷ moments_of es
moments_of (entry.Dropped owner fork ∷ es) = moments_of es
moments_of (entry.Retired owner bound floor ∷ es) = moments_of es
moments_of (entry.Compacted owner generation ∷ es) = moments_of es

-- each moment is above the one before, and the first is at least `low`
abbrev pub RiseFrom : ℕ → List ℕ → Type 0
RiseFrom low [] = Unit {0}
RiseFrom low (m ∷ ms) = (low ≤ m) × RiseFrom (m + 1) ms

-- what a history must be: each entry legal in turn, each landing later than the one before it
pub record IsHistory (s : State) (es : List Entry) : Type 0 where
  pub each : AreLegal s es
  pub moments : RiseFrom 0 (moments_of es)

-- ---- what an entry names
-- the number of the session that made the entry
abbrev pub owner_of : Entry → ℕ
owner_of (entry.Made owner fork parent batch r) = owner
owner_of (entry.Landed owner version how r moment) = owner
owner_of (entry.Dropped owner fork) = owner
owner_of (entry.Retired owner bound floor) = owner
owner_of (entry.Compacted owner generation) = owner

-- the entry with another moment
abbrev pub at_moment : ℕ → Entry → Entry
at_moment t (entry.Landed owner version how r moment) = entry.Landed owner version how r t
at_moment t (entry.Made owner fork parent batch r) = entry.Made owner fork parent batch r
at_moment t (entry.Dropped owner fork) = entry.Dropped owner fork
at_moment t (entry.Retired owner bound floor) = entry.Retired owner bound floor
at_moment t (entry.Compacted owner generation) = entry.Compacted owner generation

-- the entry without its moment
abbrev pub timeless : Entry → Entry
timeless e = at_moment 0 e
