-- The landing that a next version writes, in bytes: it has a spelling, and is taken exactly if bytes that were read are it.
use Rattle.std.proofs.Common.{◌≡◌, ℕ, ◌<◌, ◌≤◌, ◌^◌, ◌++◌, List, length, refl, sym, ap, ◌∙◌, subst}
use Rattle.std.specs.FinMap.{len, entries}
use Rattle.std.specs.List.{AllByRecursion}
use Rattle.jf_path.specs.Limits.{max_value}
use Rattle.jf_hash.specs.Maps.{IsMap}
use Rattle.jf_codec.specs.Counted.{in_format}
use Rattle.jf_codec.specs.Spelling.{IsNode}
use Rattle.jf_codec.specs.declared.format.Format.{Format}
use Rattle.jf_codec.specs.declared.format.Format.TheVariants as format
use Rattle.jf_payload.specs.declared.records.Commit.{Commit}
use Rattle.jf_payload.specs.declared.records.Record.TheVariants as «record»
use Rattle.jf_payload.specs.Spelling.{IsCommit, commit_bytes, record_bytes}
use Rattle.jf_payload.specs.Counted.{commit_in}
use Rattle.jf_payload.specs.Laws.{KeptIsSpelled, WrittenInBoth}
use Rattle.jf_payload.proofs.FormatLaws.{fresh_nodes}
use Rattle.jf_standing.specs.Building.{landed_on}
use Rattle.jf_standing.specs.FormatLaws.{standing_in}
use Rattle.jf_standing.specs.Named.{leaf_entries, AreEntries}
use Rattle.jf_standing.specs.Sound.{IsSound}
use Rattle.jf_standing.specs.SpellingLaws.{LandingsAreSpelled}
use Rattle.jf_standing.specs.Standing.{Standing, with_commit}
use Rattle.jf_standing.specs.Taking.{Continues}
use Rattle.jf_node.specs.declared.update.Update.{Update}
use Rattle.jf_dir.specs.Directories.{IsLandingUpdate, landing_written}
use Rattle.jf_replay.specs.Faults.{fault_of_check}
use Rattle.jf_replay.specs.Next.{read_map}
use Rattle.jf_replay.specs.declared.check_fault.CheckFault.{CheckFault}
use Rattle.jf_replay.specs.declared.check_fault.CheckFault.TheVariants as check_fault
use Rattle.jf_replay.specs.declared.fault.ReplayFault.{ReplayFault}
use Rattle.jf_replay.specs.declared.fault.ReplayFault.TheVariants as fault
use Rattle.jf_replay.proofs.Spelled.{spelled-entries, spelled-IsInOrder}
use Rattle.jf_replay.proofs.Verdicts.{landing_written-is, taken, sound-IsAsLanded}

-- what a format keeps of a landing has the landing's bytes
bytes_kept : KeptIsSpelled → (fmt : Format) (c : Commit) → commit_bytes fmt (commit_in fmt c) ≡ commit_bytes fmt c
unfolding record_bytes
bytes_kept kept fmt c = (kept fmt («record».NodeCommit c)).0

-- a landing was taken, whose bytes stand before the rest of bytes
abbrev pub IsTakenAs : Format → Standing → List ℕ → List ℕ → Standing → Type 0
IsTakenAs fmt s bytes rest s' = (c : Commit) × IsCommit fmt c × (bytes ≡ commit_bytes fmt c ++ rest) × Continues s c × IsSound fmt (with_commit c s) × (s' ≡ with_commit c s)

module _ (fmt : Format) (s : Standing) (u : Update) (keys : AreEntries (leaf_entries s.nodes)) (made : IsLandingUpdate s u.snapshot.map u) (own : IsMap u.snapshot.map) (room : len u.snapshot.map ≤ 2 ^ 63) where
  -- what the landing writes has a spelling
  pub written-spelled : LandingsAreSpelled → WrittenInBoth → AllByRecursion (λ (e : List ℕ × List ℕ). length e.1 ≤ max_value) (entries u.snapshot.map) → length u.fresh < 2 ^ 64 → length u.stale < 2 ^ 64
      → IsCommit fmt (commit_in fmt (landing_written u))
  written-spelled spelled both short fresh stale =
      let is = landing_written-is s u.snapshot.map u made in
      both fmt («record».NodeCommit (landing_written u)) (subst (IsCommit format.Two) (sym is) (
      spelled format.Two s u.snapshot.map keys own short room made.last (subst (λ (c : Commit). length c.fresh < 2 ^ 64) is fresh) (subst (λ (c : Commit). length c.stale < 2 ^ 64) is stale)))

  -- so each of its nodes has one
  pub written-nodes : IsCommit fmt (commit_in fmt (landing_written u)) → AllByRecursion (λ x. IsNode fmt (in_format fmt x.1)) u.fresh
  written-nodes is = fresh_nodes fmt u.fresh is.fresh

  -- bytes that begin with those of the landing are taken
  pub written-taken : KeptIsSpelled → IsSound format.Two s → IsCommit fmt (commit_in fmt (landing_written u)) → (bytes rest : List ℕ) → bytes ≡ commit_bytes fmt (landing_written u) ++ rest
      → IsTakenAs fmt (standing_in fmt s) bytes rest (standing_in fmt (landed_on format.Two u.snapshot.map s))
  written-taken kept sound is bytes rest same =
      let c = commit_in fmt (landing_written u) in
      let t = taken fmt s sound keys u.snapshot.map c own room made.last (ap (commit_in fmt) (landing_written-is s u.snapshot.map u made)) in
      (c, is, same ∙ ap (λ (x : List ℕ). x ++ rest) (sym (bytes_kept kept fmt (landing_written u))), t.0, t.1, t.2)

-- bytes of a landing that is sound are those of the landing that is built anew
pub sound-bytes : KeptIsSpelled → (fmt : Format) (s : Standing) (u : Update) → IsSound format.Two s → AreEntries (leaf_entries s.nodes) → (c : Commit) → IsCommit fmt c → Continues (standing_in fmt s) c → IsSound fmt (with_commit c (standing_in fmt s))
    → IsLandingUpdate s (read_map s c) u → commit_bytes fmt c ≡ commit_bytes fmt (landing_written u)
sound-bytes kept fmt s u sound keys c is goes after made =
    let anew = sound-IsAsLanded fmt s sound keys c (spelled-entries fmt c is) (spelled-IsInOrder fmt c is) goes after in
    ap (commit_bytes fmt) (anew ∙ ap (commit_in fmt) (sym (landing_written-is s (read_map s c) u made))) ∙ bytes_kept kept fmt (landing_written u)

-- a refusal as unsound is told at the record's offset
pub refused-unsound : (f : CheckFault) (offset at : ℕ) (r : ReplayFault) → r ≡ fault_of_check offset f → r ≡ fault.Unsound at → (f ≡ check_fault.Unsound) × (at ≡ offset)
refused-unsound check_fault.Unsound offset at r is e = (refl, cc)
refused-unsound check_fault.Memory offset at r is e = absurd (let both = sym is ∙ e in cc)
