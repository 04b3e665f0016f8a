-- What a call promises that opened the store and was to write the total of the recorded roots.
use Rattle.std.specs.Prelude.{IfSome}
use Rattle.std.proofs.Common.{◌≡◌, ◌⊎◌, ◌∙◌, refl, sym, subst, ℕ, ◌≤◌, List, Option, Some, Ok, Err, Result, inl, inr, le_refl}
use Rattle.jf_path.specs.Faults.{HasCause}
use Rattle.jf_model.specs.States.{State}
use Rattle.jf_disk.specs.declared.side.Side.{Side}
use Rattle.jf_files.specs.Laws.{DamageIsNoVersions}
use Rattle.jf_totals.specs.Written.{WritesHistory}
use Rattle.jf_totals.specs.declared.fault.HistoryFault.{HistoryFault}
use Rattle.jf_totals.specs.declared.fault.HistoryFault.TheVariants as fault
use Rattle.jf_words.specs.declared.modes.Mode.TheVariants as mode
use Rattle.jf_run.specs.Statuses.{status_of_history}
use Rattle.jf_run.specs.Calls.{ProgramCall}
use Rattle.jf_run.specs.ReadOnly.{IsReadOnlyCall}
use Rattle.jf_run.specs.Histories.{IsHistoryCall}
use Rattle.jf_run.specs.Outcomes.{IsDoneOrMemory}
use Rattle.jf_run.specs.Promises.{HasCauses, KeepsPromises}
use Rattle.jf_run.specs.declared.status.Status.{Status}
use Rattle.jf_run.specs.declared.status.Status.TheVariants as status
use Rattle.jf_run.proofs.Complete.{steady_ends}
use Rattle.jf_run.proofs.ReadOnly.{read_only_keeps}

abbrev How : Type 0
How = Result (Unit {0}) HistoryFault

-- ---- the status
no_usage : (how : How) → status_of_history how ≡ status.Usage → ⊥
no_usage (Ok u) e = absurd (cc)
no_usage (Err (fault.Outside least head)) e = absurd (cc)
no_usage (Err fault.WriteFault) e = absurd (cc)
no_usage (Err fault.Memory) e = absurd (cc)

no_damage : (how : How) (side : Side) (at : ℕ) → status_of_history how ≡ status.Damaged side at → ⊥
no_damage (Ok u) side at e = absurd (cc)
no_damage (Err (fault.Outside least head)) side at e = absurd (cc)
no_damage (Err fault.WriteFault) side at e = absurd (cc)
no_damage (Err fault.Memory) side at e = absurd (cc)

pub history_here : (how : How) (head : ℕ) (root : List ℕ) → status_of_history how ≡ status.Elsewhere head root → ⊥
history_here (Ok u) head root e = absurd (cc)
history_here (Err (fault.Outside least greatest)) head root e = absurd (cc)
history_here (Err fault.WriteFault) head root e = absurd (cc)
history_here (Err fault.Memory) head root e = absurd (cc)

no_read : (how : How) → status_of_history how ≡ status.ReadFault → ⊥
no_read (Ok u) e = absurd (cc)
no_read (Err (fault.Outside least head)) e = absurd (cc)
no_read (Err fault.WriteFault) e = absurd (cc)
no_read (Err fault.Memory) e = absurd (cc)

no_disk : (how : How) → status_of_history how ≡ status.DiskFault → ⊥
no_disk (Ok u) e = absurd (cc)
no_disk (Err (fault.Outside least head)) e = absurd (cc)
no_disk (Err fault.WriteFault) e = absurd (cc)
no_disk (Err fault.Memory) e = absurd (cc)

write_told : (how : How) → status_of_history how ≡ status.WriteFault → how ≡ Err fault.WriteFault
write_told (Ok u) e = absurd (cc)
write_told (Err (fault.Outside least head)) e = absurd (cc)
write_told (Err fault.WriteFault) e = refl
write_told (Err fault.Memory) e = absurd (cc)

-- if the sink didn't fail, all was done, memory ran out or the root isn't recorded
ended_well : (s : Status) (how : How) → s ≡ status_of_history how → (s ≡ status.WriteFault → ⊥) → IsDoneOrMemory s ⊎ ((least : ℕ) × (greatest : ℕ) × (s ≡ status.Outside least greatest))
ended_well s (Ok u) is w = inl (inl is)
ended_well s (Err (fault.Outside least head)) is w = inr (least, head, is)
ended_well s (Err fault.WriteFault) is w = absurd (w is)
ended_well s (Err fault.Memory) is w = inl (inr is)

-- ---- the call
pub history_keeps : (c : ProgramCall) (version head : ℕ) (s : State) (how : How) → IsReadOnlyCall c s head → DamageIsNoVersions
    → c.asks ≡ Some (mode.History version) → c.start ≡ Some head → c.status ≡ status_of_history how → WritesHistory how s.all version c.before.text c.after.text
    → c.after.rest ≡ c.before.rest → c.after.source_faults ≡ c.before.source_faults → (how ≡ Err fault.WriteFault → HasCause c.before.sink_faults c.after.sink_faults) → c.before.sink_faults ≤ c.after.sink_faults → KeepsPromises c
history_keeps c version head s how only none_stand asks start is written rest faults write sink =
    let causes : HasCauses c = record { read = λ r. absurd (no_read how (sym is ∙ r)); write = λ w. write (write_told how (sym is ∙ w)); disk = λ d. absurd (no_disk how (sym is ∙ d)); calm = λ d. only.begun.opening.faults } in
    read_only_keeps c head s only none_stand (mode.History version) asks refl start
    (record { usage = λ u. no_usage how (sym is ∙ u); damage = λ side at d. no_damage how side at (sym is ∙ d); causes = causes })
    (subst (λ (o : Option ℕ). IfSome o (IsHistoryCall c version)) (sym start) (record {
      state = s;
      read_only = only;
      how = how;
      status_is = is;
      written = written;
      unread = (rest, faults);
      complete = steady_ends c _ causes (λ r w d. ended_well c.status how is w);
    }))
    (subst (λ k. c.before.source_faults ≤ k) (sym faults) (le_refl c.before.source_faults)) sink
