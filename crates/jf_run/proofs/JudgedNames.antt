-- What follows from a name that was looked up in a reply.
use Rattle.std.specs.Prelude.{IsTrue}
use Rattle.std.proofs.Common.{◌≡◌, ◌⊎◌, inl, inr, ℕ, List, [], Option, refl, sym, ◌∙◌, subst}
use Rattle.jf_disk.specs.declared.side.Side.{Side}
use Rattle.jf_ask.specs.declared.lookup.LookupFault.{LookupFault}
use Rattle.jf_judge.specs.declared.judging.Judged.{Judged}
use Rattle.jf_judge.specs.declared.judging.Judged.TheVariants as judged
use Rattle.jf_judge.proofs.Taken.{taken-none}
use Rattle.jf_run.specs.Statuses.{status_of_judged, is_input_fault}
use Rattle.jf_run.specs.JudgingNames.{HasJudgedName}
use Rattle.jf_run.specs.Outcomes.{IsDoneOrMemory}
use Rattle.jf_run.specs.declared.status.Status.{Status}
use Rattle.jf_run.specs.declared.status.Status.TheVariants as status

-- ---- what the status tells
pub read_told : (v : Judged) → status_of_judged v ≡ status.ReadFault → v ≡ judged.ReadFault
read_told judged.Shown e = absurd (cc)
read_told (judged.Refused why) e = absurd (cc)
read_told judged.ReadFault e = refl
read_told judged.WriteFault e = absurd (cc)
read_told judged.Memory e = absurd (cc)

pub write_told : (v : Judged) → status_of_judged v ≡ status.WriteFault → v ≡ judged.WriteFault
write_told judged.Shown e = absurd (cc)
write_told (judged.Refused why) e = absurd (cc)
write_told judged.ReadFault e = absurd (cc)
write_told judged.WriteFault e = refl
write_told judged.Memory e = absurd (cc)

memory_told : (v : Judged) → status_of_judged v ≡ status.Memory → v ≡ judged.Memory
memory_told judged.Shown e = absurd (cc)
memory_told (judged.Refused why) e = absurd (cc)
memory_told judged.ReadFault e = absurd (cc)
memory_told judged.WriteFault e = absurd (cc)
memory_told judged.Memory e = refl

pub silence_told : (v : Judged) → (status_of_judged v ≡ status.ReadFault) ⊎ (status_of_judged v ≡ status.Memory) → (v ≡ judged.ReadFault) ⊎ (v ≡ judged.Memory)
silence_told v (inl e) = inl (read_told v e)
silence_told v (inr e) = inr (memory_told v e)

-- it tells of the input only if the source failed
input_of : (v : Judged) → IsTrue (is_input_fault (status_of_judged v)) → status_of_judged v ≡ status.ReadFault
input_of judged.Shown e = absurd (cc)
input_of (judged.Refused why) e = absurd (cc)
input_of judged.ReadFault e = refl
input_of judged.WriteFault e = absurd (cc)
input_of judged.Memory e = absurd (cc)

no_usage : (v : Judged) → status_of_judged v ≡ status.Usage → ⊥
no_usage judged.Shown e = absurd (cc)
no_usage (judged.Refused why) e = absurd (cc)
no_usage judged.ReadFault e = absurd (cc)
no_usage judged.WriteFault e = absurd (cc)
no_usage judged.Memory e = absurd (cc)

no_disk : (v : Judged) → status_of_judged v ≡ status.DiskFault → ⊥
no_disk judged.Shown e = absurd (cc)
no_disk (judged.Refused why) e = absurd (cc)
no_disk judged.ReadFault e = absurd (cc)
no_disk judged.WriteFault e = absurd (cc)
no_disk judged.Memory e = absurd (cc)

no_damage : (v : Judged) (side : Side) (at : ℕ) → status_of_judged v ≡ status.Damaged side at → ⊥
no_damage judged.Shown side at e = absurd (cc)
no_damage (judged.Refused why) side at e = absurd (cc)
no_damage judged.ReadFault side at e = absurd (cc)
no_damage judged.WriteFault side at e = absurd (cc)
no_damage judged.Memory side at e = absurd (cc)

no_outside : (v : Judged) (least head : ℕ) → status_of_judged v ≡ status.Outside least head → ⊥
no_outside judged.Shown least head e = absurd (cc)
no_outside (judged.Refused why) least head e = absurd (cc)
no_outside judged.ReadFault least head e = absurd (cc)
no_outside judged.WriteFault least head e = absurd (cc)
no_outside judged.Memory least head e = absurd (cc)

no_elsewhere : (v : Judged) (head : ℕ) (root : List ℕ) → status_of_judged v ≡ status.Elsewhere head root → ⊥
no_elsewhere judged.Shown head root e = absurd (cc)
no_elsewhere (judged.Refused why) head root e = absurd (cc)
no_elsewhere judged.ReadFault head root e = absurd (cc)
no_elsewhere judged.WriteFault head root e = absurd (cc)
no_elsewhere judged.Memory head root e = absurd (cc)

well : (v : Judged) (s : Status) → s ≡ status_of_judged v → (s ≡ status.ReadFault → ⊥) → (s ≡ status.WriteFault → ⊥) → IsDoneOrMemory s ⊎ ((why : LookupFault) × (s ≡ status.NotShown why))
well judged.Shown s is r w = inl (inl is)
well (judged.Refused why) s is r w = inr (why, is)
well judged.ReadFault s is r w = absurd (r is)
well judged.WriteFault s is r w = absurd (w is)
well judged.Memory s is r w = inl (inr is)

module _ (s : Status) (root name : List ℕ) (source left old new : Option (List ℕ)) (j : HasJudgedName s root name source left old new) where
  -- the lookup of a name never ends with `Usage`, a fault of the disk, damage, a version outside or elsewhere
  pub names_words : s ≡ status.Usage → ⊥
  names_words e = no_usage j.end (sym j.how_is ∙ e)

  pub names_disk : s ≡ status.DiskFault → ⊥
  names_disk e = no_disk j.end (sym j.how_is ∙ e)

  pub names_files : (side : Side) (at : ℕ) → s ≡ status.Damaged side at → ⊥
  names_files side at e = no_damage j.end side at (sym j.how_is ∙ e)

  pub names_inside : (least head : ℕ) → s ≡ status.Outside least head → ⊥
  names_inside least head e = no_outside j.end least head (sym j.how_is ∙ e)

  pub names_here : (head : ℕ) (newest : List ℕ) → s ≡ status.Elsewhere head newest → ⊥
  names_here head newest e = no_elsewhere j.end head newest (sym j.how_is ∙ e)

  -- the status tells of the input only if the source failed
  pub names_input : IsTrue (is_input_fault s) → s ≡ status.ReadFault
  names_input e = j.how_is ∙ input_of j.end (subst (λ (x : Status). IsTrue (is_input_fault x)) j.how_is e)

  -- without a fault of source and sink a value or an absence was shown, memory ran out or nothing was shown
  pub names_well : (s ≡ status.ReadFault → ⊥) → (s ≡ status.WriteFault → ⊥) → IsDoneOrMemory s ⊎ ((why : LookupFault) × (s ≡ status.NotShown why))
  names_well r w = well j.end s j.how_is r w

-- memory ran out before a call was made on a device
pub names_unread : (root name : List ℕ) (source old : Option (List ℕ)) → HasJudgedName status.Memory root name source source old old
names_unread root name source old = record {
  end = judged.Memory;
  how_is = refl;
  judged = record {
    taken = [];
    front = taken-none source;
    whole = λ came. absurd (came.1 refl);
    written = refl;
    sound = λ came. absurd (came.1 refl);
    fair = λ came. absurd (came.1 refl);
  };
}
