-- Laws of the steps of a store: what their records lead to, and that a crash leaves the versions before or after.
use Rattle.std.specs.Prelude.{List, [], ◌∷◌, ◌≡◌, ◌+◌, ◌<◌, ◌≤◌, ◌^◌, ◌++◌, length, ℕ}
use Rattle.std.specs.FinMap.{len}
use Rattle.std.specs.List.{AllByRecursion}
use Rattle.jf_hash.specs.Maps.{Batch, IsBatch, IsMap, map_of_entries}
use Rattle.jf_model.specs.Batches.{key_count}
use Rattle.jf_model.specs.Versions.{Versions, new_store}
use Rattle.jf_disk.specs.Disk.{History, reads, IsImage}
use Rattle.jf_disk.specs.Crashes.{LeavesNow, LeavesFiles}
use Rattle.jf_frame.specs.Framed.{LogRecord}
use Rattle.jf_pair.specs.Pairs.{StopsBetween, Pair, IsInStep}
use Rattle.jf_pair.specs.Files.{HoldsLive}
use Rattle.jf_codec.specs.declared.format.Format.{Format}
use Rattle.jf_codec.specs.declared.format.Format.TheVariants as format
use Rattle.jf_payload.specs.declared.records.Commit.{Commit}
use Rattle.jf_payload.specs.declared.records.Record.{Record}
use Rattle.jf_payload.specs.Spelling.{IsSpelling}
use Rattle.jf_payload.specs.declared.records.Record.TheVariants as «record»
use Rattle.jf_standing.specs.Named.{not_stale, leaf_entries, AreEntries}
use Rattle.jf_standing.specs.Standing.{Standing, versions_of, with_floor, with_nodes}
use Rattle.jf_standing.specs.Sound.{IsSound}
use Rattle.jf_standing.specs.Landing.{head_map}
use Rattle.jf_standing.specs.Building.{landings_of, all_landed, nodes_by_name, checkpoint_of, imported_standing, new_standing}
use Rattle.jf_standing.specs.FormatLaws.{standing_in}
use Rattle.jf_files.specs.Files.{LeadToStanding, LeadTo, generation_in, StandsFor}
use Rattle.jf_files.specs.Steps.{Lands, versions_after_step, Prunes, Compacts, Imports, Opens, StoreStep, StopsWell, generation_after_step, LiveAfter, Succeeds}
use Rattle.jf_files.specs.Begun.{IsBegunOver}

-- the record of landings: a landing alone, or a group
abbrev pub landed_record : List Commit → Record
landed_record [] = «record».Group []
landed_record (c ∷ []) = «record».NodeCommit c
landed_record (c ∷ d ∷ cs) = «record».Group (c ∷ d ∷ cs)

-- a record of landings of these batches leads to the versions with these batches landed
abbrev pub LandingsFollow : Type 0
LandingsFollow =
    (rs : List LogRecord) (fmt : Format) (s : Standing) (bs : List Batch) (y : LogRecord) → LeadToStanding rs fmt s
    → IsSound fmt s → AreEntries (leaf_entries s.nodes) → AllByRecursion IsBatch bs → len (head_map s) + key_count bs ≤ 2 ^ 63 → s.head + length bs < not_stale
    → IsSpelling fmt (landed_record (landings_of fmt s bs)) y.kind y.payload
    → LeadToStanding (rs ++ y ∷ []) fmt (all_landed fmt s bs) × (versions_of (all_landed fmt s bs) ≡ versions_after_step (Lands bs) (versions_of s))

-- a record of a floor leads to the versions from that floor on
abbrev pub FloorsFollow : Type 0
FloorsFollow =
    (rs : List LogRecord) (fmt : Format) (s : Standing) (floor : ℕ) (y : LogRecord) → LeadToStanding rs fmt s
    → IsSound fmt s → s.floor ≤ floor → floor ≤ s.head → IsSpelling fmt («record».Floor floor) y.kind y.payload
    → LeadToStanding (rs ++ y ∷ []) fmt (with_floor floor s) × (versions_of (with_floor floor s) ≡ versions_after_step (Prunes floor) (versions_of s))

-- a checkpoint of a sound standing leads, alone, to the same nodes in the order of their names, and the same versions
abbrev pub CheckpointsFollow : Type 0
CheckpointsFollow =
    (fmt : Format) (s : Standing) (generation : ℕ) (x : LogRecord) → IsSound fmt s → IsSpelling fmt (checkpoint_of generation s) x.kind x.payload
    → LeadToStanding (x ∷ []) fmt (with_nodes (nodes_by_name s.nodes) s) × (versions_of (with_nodes (nodes_by_name s.nodes) s) ≡ versions_after_step Compacts (versions_of s))

-- a checkpoint in format 2 leads, alone, to the versions of what the file's format keeps of the standing
abbrev pub CompactionsFollow : Type 0
CompactionsFollow =
    (fmt : Format) (s : Standing) (generation : ℕ) (x : LogRecord) → IsSound format.Two s → IsSpelling format.Two (checkpoint_of generation s) x.kind x.payload → LeadTo (x ∷ []) (versions_after_step Compacts (versions_of (standing_in fmt s)))

-- a checkpoint of one map leads, alone, to that map as one version, whatever the versions before
abbrev pub ImportsFollow : Type 0
ImportsFollow =
    (fmt : Format) (version : ℕ) (es : List (List ℕ × List ℕ)) (generation : ℕ) (x : LogRecord) (v : Versions)
    → IsMap (map_of_entries es) → len (map_of_entries es) ≤ 2 ^ 63 → version < not_stale → IsSpelling fmt (checkpoint_of generation (imported_standing fmt version (map_of_entries es))) x.kind x.payload
    → LeadTo (x ∷ []) (versions_after_step (Imports version es) v)

-- the first checkpoint of a new store leads to a new store, as an empty list of records does
abbrev pub FirstFollows : Type 0
FirstFollows =
    (fmt : Format) (generation : ℕ) (x : LogRecord) → IsSpelling fmt (checkpoint_of generation (new_standing fmt)) x.kind x.payload
    → LeadTo (x ∷ []) (versions_after_step Opens new_store)

-- if crashes leave the live records `rs` or `rs'`, which lead to the versions before and after a step, it stops well
abbrev pub StopsByRecords : Type 0
StopsByRecords =
    (step : StoreStep) (old new : History) (v : Versions) (rs rs' : List LogRecord) → LeadTo rs v → LeadTo rs' (versions_after_step step v) → StopsBetween old new rs rs' → StopsWell step old new v

-- if a pair of files is then in step with `rs'`, the step has succeeded
abbrev pub SucceedsByRecords : Type 0
SucceedsByRecords =
    (step : StoreStep) (old new : History) (v : Versions) (p : Pair) (rs rs' : List LogRecord) → LeadTo rs v → LeadTo rs' (versions_after_step step v)
    → HoldsLive (reads old) rs → StopsBetween old new rs rs' → IsInStep p rs' new.now → generation_in rs' ≡ generation_after_step step (generation_in rs) → LiveAfter step rs rs'
    → Succeeds step old new v

-- calls that change nothing in the files may come before a step, if a crash before them leaves only files of its versions
abbrev pub SucceedsAfterReading : Type 0
SucceedsAfterReading =
    (step : StoreStep) (old mid new : History) (v : Versions) → LeavesNow old (λ f. StandsFor f v) → LeavesFiles old mid → Succeeds step mid new v → Succeeds step old new v

-- an opening that finds records has succeeded if it leaves the files unchanged
abbrev pub OpensByRecords : Type 0
OpensByRecords =
    (old new : History) (v : Versions) (p : Pair) (x : LogRecord) (xs : List LogRecord) → LeadTo (x ∷ xs) v
    → LeavesNow old (λ f. StandsFor f v) → LeavesFiles old new → IsInStep p (x ∷ xs) new.now → Succeeds Opens old new v

-- a first checkpoint on files without a record begins them, whether it succeeds or not
abbrev pub BeginsByRecords : Type 0
BeginsByRecords =
    (old mid new : History) (p : Pair) (x : LogRecord) → LeadTo (x ∷ []) new_store
    → LeavesFiles old mid → IsInStep p [] mid.now → StopsBetween mid new [] (x ∷ []) → IsImage new.now (reads new) → IsBegunOver old new
