-- Which records a standing takes, and their effect on it.
use Rattle.std.specs.Prelude.{◌≡◌, ◌+◌, IsTrue, map, List, [], ◌∷◌, ℕ, ◌≤◌, reverse}
use Rattle.std.specs.List.{AllByRecursion}
use Rattle.jf_codec.specs.declared.format.Format.{Format}
use Rattle.jf_payload.specs.declared.records.Commit.{Commit}
use Rattle.jf_payload.specs.declared.records.Record.{Record}
use Rattle.jf_payload.specs.declared.records.Record.TheVariants as «record»
use Rattle.jf_standing.specs.Standing.{Standing, is_named, with_commit, with_floor}
use Rattle.jf_standing.specs.Sound.{IsSound}

-- a landing continues from the head: it and its nodes have the next version, and it marks names of nodes stale
pub record Continues (s : Standing) (c : Commit) : Type 0 where
  pub next : c.version ≡ s.head + 1
  pub fresh_own : AllByRecursion (λ x. x.0.version ≡ c.version) c.fresh
  pub stale_known : AllByRecursion (λ name. IsTrue (is_named name (map (λ n. n.0) s.nodes))) c.stale

-- landings one after another, each of which leaves a sound standing
abbrev pub TakesCommits : Format → Standing → List Commit → Standing → Type 0
TakesCommits fmt s [] s' = s' ≡ s
TakesCommits fmt s (c ∷ cs) s' = Continues s c × IsSound fmt (with_commit c s) × TakesCommits fmt (with_commit c s) cs s'

-- a floor from the present one to the head, which leaves a sound standing
abbrev pub TakesFloor : Format → Standing → ℕ → Standing → Type 0
TakesFloor fmt s floor s' = (s.floor ≤ floor) × (floor ≤ s.head) × IsSound fmt s' × (s' ≡ with_floor floor s)

-- a record that isn't the first is taken
abbrev pub TakesRecord : Format → Standing → Record → Standing → Type 0
TakesRecord fmt s («record».Floor floor) s' = TakesFloor fmt s floor s'
TakesRecord fmt s («record».NodeCommit c) s' = TakesCommits fmt s (c ∷ []) s'
TakesRecord fmt s («record».Checkpoint generation base floor head roots nodes) s' = ⊥
TakesRecord fmt s («record».Group cs) s' = TakesCommits fmt s cs s'

-- a first record gives the standing that it lists: it is a sound checkpoint
abbrev pub GivesStanding : Format → Record → Standing → Type 0
GivesStanding fmt («record».Floor floor) s = ⊥
GivesStanding fmt («record».NodeCommit c) s = ⊥
GivesStanding fmt («record».Checkpoint generation base floor head roots nodes) s = IsSound fmt s × (s ≡ record { base = base; floor = floor; head = head; roots = reverse roots; nodes = nodes })
GivesStanding fmt («record».Group cs) s = ⊥
