-- What the records of each step lead to, and that a crash leaves the versions before or after the step.
use Rattle.std.proofs.Common.{List, [], ◌∷◌, refl, ◌≡◌, ℕ, sym, ◌∙◌, ◌⊎◌, inl, inr, ap, subst}
use Rattle.jf_hash.specs.Maps.{map_of_entries}
use Rattle.jf_model.specs.Versions.{Versions, imported_versions, new_store}
use Rattle.jf_disk.specs.Disk.{History, reads, IsImage, Files}
use Rattle.jf_disk.specs.Crashes.{LeavesNow, LeavesFiles}
use Rattle.jf_disk.proofs.CrashLaws.{goes_weaker, goes_further, goes_now}
use Rattle.jf_frame.specs.Framed.{LogRecord}
use Rattle.jf_pair.specs.Files.{HoldsLive}
use Rattle.jf_pair.specs.Pairs.{Pair, IsInStep}
use Rattle.jf_pair.proofs.PairLaws.{in_step_holds, in_step_leaves}
use Rattle.jf_pair.proofs.FileLaws.{holds_one}
use Rattle.jf_codec.specs.declared.format.Format.{Format}
use Rattle.jf_codec.specs.declared.format.Format.TheVariants as format
use Rattle.jf_payload.specs.declared.records.Commit.{Commit}
use Rattle.jf_payload.specs.Laws.{SpelledIsSpelling}
use Rattle.jf_payload.specs.Spelling.{IsSpelling}
use Rattle.jf_payload.specs.declared.records.Record.TheVariants as «record»
use Rattle.jf_standing.specs.Standing.{Standing, with_floor, with_nodes, versions_of}
use Rattle.jf_standing.specs.Taking.{TakesCommits, TakesRecord}
use Rattle.jf_standing.specs.Building.{landings_of, all_landed, nodes_by_name, checkpoint_of, imported_standing, new_standing}
use Rattle.jf_standing.specs.Laws.{GroupsLand, FloorsPrune}
use Rattle.jf_standing.specs.OrderLaws.{CheckpointsGive, ImportsAreSound, NewIsSound}
use Rattle.jf_standing.specs.Sound.{IsSound}
use Rattle.jf_standing.specs.FormatLaws.{standing_in, FormatsAreSound}
use Rattle.jf_files.specs.StepLaws.{landed_record, LandingsFollow, FloorsFollow, CheckpointsFollow, CompactionsFollow, ImportsFollow, FirstFollows, StopsByRecords, SucceedsByRecords, SucceedsAfterReading, OpensByRecords, BeginsByRecords}
use Rattle.jf_files.specs.Files.{generation, LeadTo, StandsFor}
use Rattle.jf_files.specs.Steps.{versions_after_step, generation_after_step, LiveAfter, StoreStep, StopsWell, Opens}
use Rattle.jf_files.proofs.Holding.{one_more, checkpoint_leads}
use Rattle.jf_files.proofs.Judging.{generation_live}

-- ---- records
takes_landed : (fmt : Format) (s s' : Standing) (cs : List Commit) → TakesCommits fmt s cs s' → TakesRecord fmt s (landed_record cs) s'
takes_landed fmt s s' [] takes = takes
takes_landed fmt s s' (c ∷ []) takes = takes
takes_landed fmt s s' (c ∷ d ∷ cs) takes = takes

pub landings_follow : SpelledIsSpelling → GroupsLand → LandingsFollow
landings_follow spelling law = λ rs fmt s bs y leads sound keys batches room last is.
    let g = law fmt s bs sound keys batches room last in
    (one_more spelling rs fmt s (all_landed fmt s bs) y (landed_record (landings_of fmt s bs)) leads is (takes_landed fmt s (all_landed fmt s bs) (landings_of fmt s bs) g.0), g.2)

pub floors_follow : SpelledIsSpelling → FloorsPrune → FloorsFollow
floors_follow spelling law = λ rs fmt s floor y leads sound low high is.
    let p = law fmt s floor sound low high in
    (one_more spelling rs fmt s (with_floor floor s) y («record».Floor floor) leads is (low, high, p.0, refl), p.1)

pub checkpoints_follow : SpelledIsSpelling → CheckpointsGive → CheckpointsFollow
checkpoints_follow spelling law = λ fmt s generation x sound is.
    let p = law fmt generation s sound in
    (checkpoint_leads spelling fmt (with_nodes (nodes_by_name s.nodes) s) x (checkpoint_of generation s) is p.0, p.2)

-- a checkpoint alone of a sound standing leads to its versions
alone : SpelledIsSpelling → CheckpointsGive → (fmt : Format) (s : Standing) (generation : ℕ) (x : LogRecord) (v : Versions) → IsSound fmt s → versions_of s ≡ v → IsSpelling fmt (checkpoint_of generation s) x.kind x.payload → LeadTo (x ∷ []) v
alone spelling law fmt s generation x v sound versions is =
    let p = checkpoints_follow spelling law fmt s generation x sound is in
    (fmt, with_nodes (nodes_by_name s.nodes) s, p.0, sym (p.1 ∙ versions))

pub compactions_follow : SpelledIsSpelling → CheckpointsGive → FormatsAreSound → CompactionsFollow
compactions_follow spelling gives formats = λ fmt s generation x sound is. alone spelling gives format.Two s generation x (versions_of (standing_in fmt s)) sound (sym (formats fmt s sound).1) is

pub imports_follow : SpelledIsSpelling → CheckpointsGive → ImportsAreSound → ImportsFollow
imports_follow spelling gives law = λ fmt version es generation x v map room last is.
    let i = law fmt version (map_of_entries es) map room last in
    alone spelling gives fmt (imported_standing fmt version (map_of_entries es)) generation x (imported_versions version (map_of_entries es)) i.0 i.1 is

pub first_follows : SpelledIsSpelling → CheckpointsGive → NewIsSound → FirstFollows
first_follows spelling gives law = λ fmt generation x is.
    let i = law fmt in
    alone spelling gives fmt (new_standing fmt) generation x new_store i.0 i.1 is

-- ---- crashes
pub stops_by_records : StopsByRecords
stops_by_records = λ step old new v rs rs' before behind stops.
    goes_weaker old new (λ f. HoldsLive f rs ⊎ HoldsLive f rs') (λ f. StandsFor f v ⊎ StandsFor f (versions_after_step step v)) (λ f held. elim held [
      | inl h ↦ inl (record { live = rs; held = h; leads = before })
      | inr h ↦ inr (record { live = rs'; held = h; leads = behind })
    ]) stops

-- files in step with a pair represent what its records lead to, and so does what a crash leaves of them
in_step_stands : (new : History) (v : Versions) (p : Pair) (rs : List LogRecord) → LeadTo rs v → IsInStep p rs new.now → StandsFor (reads new) v × LeavesNow new (λ f. StandsFor f v)
in_step_stands new v p rs leads k = (record { live = rs; held = in_step_holds p rs new k; leads = leads }, λ f image. record { live = rs; held = in_step_leaves p rs new k f image; leads = leads })

pub succeeds_by_records : SucceedsByRecords
succeeds_by_records = λ step old new v p rs rs' before behind holds stops k same_generation live.
    let now = in_step_stands new (versions_after_step step v) p rs' behind k in
    let holds' = in_step_holds p rs' new k in
    record {
      stops = stops_by_records step old new v rs rs' before behind stops;
      stands = now.0;
      leaves = now.1;
      generation_of = generation_live (reads new) rs' holds' ∙ same_generation ∙ ap (generation_after_step step) (sym (generation_live (reads old) rs holds));
      live = λ qs held. (rs', holds', subst (λ xs. LiveAfter step xs rs') (holds_one (reads old) rs qs holds held) live);
    }

reading_stops : (step : StoreStep) (old mid : History) (v : Versions) → LeavesNow old (λ f. StandsFor f v) → LeavesFiles old mid → StopsWell step old mid v
reading_stops step old mid v calm left = goes_weaker old mid (IsImage old.now) (λ f. StandsFor f v ⊎ StandsFor f (versions_after_step step v)) (λ f image. inl (calm f image)) left.images

pub succeeds_after_reading : SucceedsAfterReading
succeeds_after_reading = λ step old mid new v calm left then_. record {
  stops = goes_further old mid new (λ f. StandsFor f v ⊎ StandsFor f (versions_after_step step v)) (reading_stops step old mid v calm left) then_.stops;
  stands = then_.stands;
  leaves = then_.leaves;
  generation_of = then_.generation_of ∙ ap (λ files. generation_after_step step (generation files)) left.same;
  live = λ rs held. then_.live rs (subst (λ files. HoldsLive files rs) (sym left.same) held);
}

pub opens_by_records : OpensByRecords
opens_by_records = λ old new v p x xs leads calm left k.
    let now = in_step_stands new v p (x ∷ xs) leads k in
    let holds = in_step_holds p (x ∷ xs) new k in
    record {
      stops = reading_stops Opens old new v calm left;
      stands = now.0;
      leaves = now.1;
      generation_of = ap generation left.same;
      live = λ rs held. (x ∷ xs, holds, subst (λ ys. LiveAfter Opens ys (x ∷ xs)) (holds_one (reads new) (x ∷ xs) rs holds (subst (λ files. HoldsLive files rs) (sym left.same) held)) refl);
    }

-- files without a record, or with the first checkpoint of a new store, represent a new store
either_new : (x : LogRecord) → LeadTo (x ∷ []) new_store → (f : Files) → HoldsLive f [] ⊎ HoldsLive f (x ∷ []) → StandsFor f new_store
either_new x leads f (inl h) = record { live = []; held = h; leads = refl }
either_new x leads f (inr h) = record { live = x ∷ []; held = h; leads = leads }

pub begins_by_records : BeginsByRecords
begins_by_records = λ old mid new p x leads left k stops readable.
    let now = goes_now mid new (λ f. HoldsLive f [] ⊎ HoldsLive f (x ∷ [])) stops (λ f image. inl (in_step_leaves p [] mid k f image)) (reads new) readable in
    record {
      none = subst (λ files. HoldsLive files []) left.same (in_step_holds p [] mid k);
      stands = either_new x leads (reads new) now;
      images = goes_further old mid new (λ f. IsImage old.now f ⊎ StandsFor f new_store)
          (goes_weaker old mid (IsImage old.now) (λ f. IsImage old.now f ⊎ StandsFor f new_store) (λ f image. inl image) left.images)
          (goes_weaker mid new (λ f. HoldsLive f [] ⊎ HoldsLive f (x ∷ [])) (λ f. IsImage old.now f ⊎ StandsFor f new_store) (λ f held. inr (either_new x leads f held)) stops);
    }
