-- What is read of two files: a store that their records lead to, or a pair without a record.
use Rattle.std.specs.Prelude.{Ok}
use Rattle.std.proofs.Common.{◌≡◌, subst, ℕ, ◌≤◌, List, [], ◌∷◌, Option, Some, None, true, false, arith}
use Rattle.jf_disk.specs.Disk.{History, Files, reads}
use Rattle.jf_disk.specs.Crashes.{LeavesFiles}
use Rattle.jf_disk.specs.declared.side.Side.TheVariants as side
use Rattle.jf_frame.specs.Framed.{LogRecord}
use Rattle.jf_pair.specs.Files.{HoldsLive}
use Rattle.jf_pair.specs.Pairs.{Pair, IsInStep}
use Rattle.jf_pair.proofs.PairLaws.{in_step_holds}
use Rattle.jf_pair.proofs.FileLaws.{holds_one}
use Rattle.jf_codec.specs.declared.format.Format.{Format}
use Rattle.jf_codec.specs.declared.format.Format.TheVariants as format
use Rattle.jf_payload.specs.Laws.{SpelledIsSpelling}
use Rattle.jf_standing.specs.Standing.{Standing}
use Rattle.jf_standing.specs.Sound.{IsSound}
use Rattle.jf_standing.specs.FormatLaws.{standing_in, FormatsAreSound}
use Rattle.jf_files.specs.Files.{LeadToStanding, generation_in}
use Rattle.jf_files.specs.Laws.{StandingsHaveVersions, GenerationIsLive, CheckpointsAreNumbered}
use Rattle.jf_files.specs.StepLaws.{OpensByRecords}
use Rattle.jf_engine.specs.Openings.{DiskView, disk_view}
use Rattle.jf_engine.specs.Sought.{HasSoughtStore, HasSoughtPair, HasSought}
use Rattle.jf_engine.specs.declared.opening.Found.{Found}
use Rattle.jf_engine.specs.declared.opening.Sought.{Sought}
use Rattle.jf_engine.specs.declared.opening.Sought.TheVariants as sought
use Rattle.jf_engine.proofs.Opened.{replayed_opened, replayed_kept, replayed_numbered}

-- no records lead to no standing
leads_by_a_record : (rs : List LogRecord) (fmt : Format) (s : Standing) → LeadToStanding rs fmt s → rs ≡ [] → ⊥
leads_by_a_record [] fmt s leads e = absurd leads
leads_by_a_record (x ∷ xs) fmt s leads e = absurd (cc)

-- what is found if the records of a log are replayed
module _ (formats : FormatsAreSound) (have : StandingsHaveVersions) (number : GenerationIsLive) (opens : OpensByRecords) (spelling : SpelledIsSpelling) (numbered : CheckpointsAreNumbered)
    (o n : Option History) (m f m' f' : ℕ) (p : Pair) (rs : List LogRecord) (unknown : o ≡ None → n ≡ None) (moment : m ≤ m') (faults : f ≤ f')
    (at : (h : History) → o ≡ Some h → (g : History) × (n ≡ Some g) × (LeavesFiles h g × IsInStep p rs g.now)) (held : (h : History) → o ≡ Some h → HoldsLive (reads h) rs) where
  pub sought_store : f' ≡ f → p.is_live ≡ true → p.failed ≡ false → (x : Found) → x.pair ≡ p → LeadToStanding rs x.format (standing_in x.format x.directory) → IsSound format.Two x.directory → x.generation ≡ generation_in rs
      → HasSoughtStore (disk_view o m f) (disk_view n m' f') x
  sought_store calm live whole x same led sound is = record {
    reopened = record {
      opened = replayed_opened formats have number opens o n m f m' f' p rs unknown moment faults at held calm (Ok x) led sound is;
      recorded = λ h told none. leads_by_a_record rs x.format (standing_in x.format x.directory) led (holds_one (reads h) rs [] (held h told) none);
      left = λ h told. let a = at h told in (a.0, a.1, a.2.0);
    };
    kept = replayed_kept formats have number opens o n m f m' f' p rs unknown moment faults at held live whole (Ok x) same led sound is;
    numbered = replayed_numbered spelling numbered rs (Ok x) led is;
  }

-- files without a record
module _ (o n : Option History) (p : Pair) (unknown : o ≡ None → n ≡ None) (left : (h : History) → o ≡ Some h → (g : History) × (n ≡ Some g) × (LeavesFiles h g × IsInStep p [] g.now)) where
  pub sought_pair : (m f m' f' : ℕ) → m ≤ m' → f' ≡ f → p.failed ≡ false → p.is_live ≡ false → p.side ≡ side.B → HasSoughtPair (disk_view o m f) (disk_view n m' f') p
  sought_pair m f m' f' moment calm sound none first = record {
    none = record {
      disk = λ h told. let l = left h told in (l.0, l.1, (subst (λ (fs : Files). HoldsLive fs []) l.2.0.same (in_step_holds p [] l.0 l.2.1), l.2.0));
      unknown = unknown;
      moment = moment;
      faults = calm;
    };
    in_step = left;
    sound = sound;
    not_live = none;
    first = first;
  }

-- a pair is all that was found
pub found_pair : (old new : DiskView) (s : Sought) (p : Pair) → s ≡ sought.Unrecorded p → HasSought old new s → HasSoughtPair old new p
found_pair old new s p is k = subst (HasSought old new) is k

-- a count that is the same has not fallen
pub not_fallen : (f f' : ℕ) → f' ≡ f → f ≤ f'
not_fallen f f' e = omega (arith, e)
