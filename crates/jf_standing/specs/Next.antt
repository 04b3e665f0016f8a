-- The result of a record for a sound standing, as a function: None if that result isn't sound.
use Rattle.std.specs.Prelude.{◌+◌, ◌^◌, Bool, ◌&&◌, nat_le, nat_lt, if◌then◌else◌, List, [], ◌∷◌, Option, Some, None, ℕ, ◌≡◌, ◌-◌, ◌<◌, ◌≤◌, IsTrue, map, length}
use Rattle.std.specs.FinMap.{len}
use Rattle.std.specs.List.{AllByRecursion}
use Rattle.jf_path.specs.Keys.{IsKey}
use Rattle.jf_path.specs.Names.{are_rising}
use Rattle.jf_hash.specs.Maps.{apply}
use Rattle.jf_codec.specs.declared.format.Format.{Format}
use Rattle.jf_payload.specs.declared.records.Commit.{Commit}
use Rattle.jf_payload.specs.declared.records.Record.{Record}
use Rattle.jf_payload.specs.declared.records.Record.TheVariants as «record»
use Rattle.jf_standing.specs.Named.{not_stale, AreEntries, leaf_entries}
use Rattle.jf_standing.specs.Standing.{Standing, with_commit, with_floor}
use Rattle.jf_standing.specs.Landing.{head_map, batch_of, landing_of, fresh_leaves, IsInOrder}
use Rattle.jf_standing.specs.Same.{same_commit}

-- whether a landing writes exactly what a landing of the batch that is read off it writes
abbrev pub is_next : Format → Standing → Commit → Bool
is_next fmt s c =
    let m = apply (head_map s) (batch_of s c) in
    nat_lt (s.head + 1) not_stale && (nat_le (len m) (2 ^ 63) && same_commit c (landing_of fmt s m))

-- the standing after landings, one after another
abbrev pub next_by_commits : Format → Standing → List Commit → Option Standing
next_by_commits fmt s [] = Some s
next_by_commits fmt s (c ∷ cs) = if is_next fmt s c then next_by_commits fmt (with_commit c s) cs else None

-- the standing after a later floor
abbrev pub next_by_floor : Standing → ℕ → Option Standing
next_by_floor s floor = if nat_le s.floor floor && nat_le floor s.head then Some (with_floor floor s) else None

-- the standing after a record that isn't the first
abbrev pub next_standing : Format → Standing → Record → Option Standing
next_standing fmt s («record».Floor floor) = next_by_floor s floor
next_standing fmt s («record».NodeCommit c) = next_by_commits fmt s (c ∷ [])
next_standing fmt s («record».Checkpoint generation base floor head roots nodes) = None
next_standing fmt s («record».Group cs) = next_by_commits fmt s cs

-- ---- records that were read
-- a landing that was read: its names rise, its keys have 32 bytes, its values are bytes
abbrev pub IsReadCommit : Commit → Type 0
IsReadCommit c = IsInOrder c × AreEntries (fresh_leaves c)

-- what always holds of a record that was read after the first one
abbrev pub IsReadRecord : Record → Type 0
IsReadRecord («record».Floor floor) = Unit {0}
IsReadRecord («record».NodeCommit c) = IsReadCommit c
IsReadRecord («record».Checkpoint generation base floor head roots nodes) = Unit {0}
IsReadRecord («record».Group cs) = AllByRecursion IsReadCommit cs

-- a standing that was read: numbers in order, a root of 32 bytes for each version, keys of 32 bytes, names that rise
pub record IsReadStanding (s : Standing) : Type 0 where
  pub base_low : s.base ≤ s.floor
  pub floor_low : s.floor ≤ s.head
  pub head_last : s.head < not_stale
  pub root_each : length s.roots ≡ s.head - s.base + 1
  pub hashes : AllByRecursion IsKey s.roots
  pub keys : AreEntries (leaf_entries s.nodes)
  pub rises : IsTrue (are_rising (map (λ n. n.0) s.nodes))
