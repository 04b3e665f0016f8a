-- What a call promises that opened the store and was to look up the names of its input.
use Rattle.std.specs.Prelude.{IfSome, IsTrue}
use Rattle.std.proofs.Common.{◌≡◌, ◌⊎◌, ◌∙◌, refl, sym, subst, ℕ, ◌≤◌, List, Option, Some, Ok, Err, Result, inl, inr}
use Rattle.jf_path.specs.Faults.{HasCause}
use Rattle.jf_model.specs.States.{State}
use Rattle.jf_disk.specs.declared.side.Side.{Side}
use Rattle.jf_files.specs.Laws.{DamageIsNoVersions}
use Rattle.jf_names.specs.Answers.{AnswersNames, IsInside, RefusesLine}
use Rattle.jf_names.specs.declared.fault.NamesFault.{NamesFault}
use Rattle.jf_names.specs.declared.fault.NamesFault.TheVariants as fault
use Rattle.jf_receive.specs.declared.received.RestoreFault.TheVariants as restore_fault
use Rattle.jf_words.specs.declared.modes.Mode.TheVariants as mode
use Rattle.jf_run.specs.Statuses.{is_input_fault, status_of_names}
use Rattle.jf_run.specs.Calls.{ProgramCall, with_disk}
use Rattle.jf_run.specs.ReadOnly.{IsReadOnlyCall}
use Rattle.jf_run.specs.Many.{IsManyCall}
use Rattle.jf_run.specs.Outcomes.{IsDoneOrMemory}
use Rattle.jf_run.specs.Promises.{HasCauses, KeepsPromises}
use Rattle.jf_run.specs.declared.status.Status.{Status}
use Rattle.jf_run.specs.declared.status.Status.TheVariants as status
use Rattle.jf_run.proofs.Complete.{steady_ends}
use Rattle.jf_run.proofs.ReadOnly.{read_only_keeps}

abbrev How : Type 0
How = Result (Unit {0}) NamesFault

-- ---- the status
no_usage : (how : How) → status_of_names how ≡ status.Usage → ⊥
no_usage (Ok u) e = absurd (cc)
no_usage (Err (fault.Outside least head)) e = absurd (cc)
no_usage (Err (fault.Line at)) e = absurd (cc)
no_usage (Err fault.ReadFault) e = absurd (cc)
no_usage (Err fault.WriteFault) e = absurd (cc)
no_usage (Err fault.Memory) e = absurd (cc)

no_damage : (how : How) (side : Side) (at : ℕ) → status_of_names how ≡ status.Damaged side at → ⊥
no_damage (Ok u) side at e = absurd (cc)
no_damage (Err (fault.Outside least head)) side at e = absurd (cc)
no_damage (Err (fault.Line line)) side at e = absurd (cc)
no_damage (Err fault.ReadFault) side at e = absurd (cc)
no_damage (Err fault.WriteFault) side at e = absurd (cc)
no_damage (Err fault.Memory) side at e = absurd (cc)

pub names_here : (how : How) (head : ℕ) (root : List ℕ) → status_of_names how ≡ status.Elsewhere head root → ⊥
names_here (Ok u) head root e = absurd (cc)
names_here (Err (fault.Outside least greatest)) head root e = absurd (cc)
names_here (Err (fault.Line at)) head root e = absurd (cc)
names_here (Err fault.ReadFault) head root e = absurd (cc)
names_here (Err fault.WriteFault) head root e = absurd (cc)
names_here (Err fault.Memory) head root e = absurd (cc)

no_disk : (how : How) → status_of_names how ≡ status.DiskFault → ⊥
no_disk (Ok u) e = absurd (cc)
no_disk (Err (fault.Outside least head)) e = absurd (cc)
no_disk (Err (fault.Line at)) e = absurd (cc)
no_disk (Err fault.ReadFault) e = absurd (cc)
no_disk (Err fault.WriteFault) e = absurd (cc)
no_disk (Err fault.Memory) e = absurd (cc)

read_told : (how : How) → status_of_names how ≡ status.ReadFault → how ≡ Err fault.ReadFault
read_told (Ok u) e = absurd (cc)
read_told (Err (fault.Outside least head)) e = absurd (cc)
read_told (Err (fault.Line at)) e = absurd (cc)
read_told (Err fault.ReadFault) e = refl
read_told (Err fault.WriteFault) e = absurd (cc)
read_told (Err fault.Memory) e = absurd (cc)

-- the status tells that a version is outside only if it is
pub outside_told : (how : How) (least head : ℕ) → status_of_names how ≡ status.Outside least head → how ≡ Err (fault.Outside least head)
outside_told (Ok u) least head e = absurd (cc)
outside_told (Err (fault.Outside from to)) least head e = cc
outside_told (Err (fault.Line at)) least head e = absurd (cc)
outside_told (Err fault.ReadFault) least head e = absurd (cc)
outside_told (Err fault.WriteFault) least head e = absurd (cc)
outside_told (Err fault.Memory) least head e = absurd (cc)

-- the status tells of the input only if the source failed or a line was refused
pub input_told : (how : How) → IsTrue (is_input_fault (status_of_names how)) → (how ≡ Err fault.ReadFault) ⊎ ((at : ℕ) × (how ≡ Err (fault.Line at)))
input_told (Ok u) e = absurd (cc)
input_told (Err (fault.Outside least head)) e = absurd (cc)
input_told (Err (fault.Line at)) e = inr (at, refl)
input_told (Err fault.ReadFault) e = inl refl
input_told (Err fault.WriteFault) e = absurd (cc)
input_told (Err fault.Memory) e = absurd (cc)

write_told : (how : How) → status_of_names how ≡ status.WriteFault → how ≡ Err fault.WriteFault
write_told (Ok u) e = absurd (cc)
write_told (Err (fault.Outside least head)) e = absurd (cc)
write_told (Err (fault.Line at)) e = absurd (cc)
write_told (Err fault.ReadFault) e = absurd (cc)
write_told (Err fault.WriteFault) e = refl
write_told (Err fault.Memory) e = absurd (cc)

-- a version was outside, or a line was refused
abbrev IsRefused : Status → Type 0
IsRefused s = ((least : ℕ) × (greatest : ℕ) × (s ≡ status.Outside least greatest)) ⊎ ((at : ℕ) × (s ≡ status.Refused (restore_fault.Line at)))

-- without a fault of source and sink all was done, memory ran out, the version is outside or a line was refused
ended_well : (s : Status) (how : How) → s ≡ status_of_names how → (s ≡ status.ReadFault → ⊥) → (s ≡ status.WriteFault → ⊥) → IsDoneOrMemory s ⊎ IsRefused s
ended_well s (Ok u) is r w = inl (inl is)
ended_well s (Err (fault.Outside least head)) is r w = inr (inl (least, head, is))
ended_well s (Err (fault.Line at)) is r w = inr (inr (at, is))
ended_well s (Err fault.ReadFault) is r w = absurd (r is)
ended_well s (Err fault.WriteFault) is r w = absurd (w is)
ended_well s (Err fault.Memory) is r w = inl (inr is)

-- ---- the call
pub many_keeps : (c : ProgramCall) (version head : ℕ) (s : State) (how : How) → IsReadOnlyCall c s head → DamageIsNoVersions → c.asks ≡ Some (mode.Many version) → c.start ≡ Some head → c.status ≡ status_of_names how
    → AnswersNames how s.all version c.before.rest c.after.rest c.before.text c.after.text → (IsInside s.all version → RefusesLine how c.before.rest)
    → ((least greatest : ℕ) → how ≡ Err (fault.Outside least greatest) → c.after ≡ with_disk c.after.disk c.before) → ((at : ℕ) → (how ≡ Err (fault.Line at)) ⊎ (how ≡ Err fault.Memory) → c.after.sink_faults ≡ c.before.sink_faults)
    → (how ≡ Err fault.ReadFault → HasCause c.before.source_faults c.after.source_faults) → (how ≡ Err fault.WriteFault → HasCause c.before.sink_faults c.after.sink_faults)
    → c.before.source_faults ≤ c.after.source_faults → c.before.sink_faults ≤ c.after.sink_faults → KeepsPromises c
many_keeps c version head s how only none_stand asks start is answered line untouched silent read write source sink =
    let causes : HasCauses c = record { read = λ e. read (read_told how (sym is ∙ e)); write = λ e. write (write_told how (sym is ∙ e)); disk = λ e. absurd (no_disk how (sym is ∙ e)); calm = λ e. only.begun.opening.faults } in
    read_only_keeps c head s only none_stand (mode.Many version) asks refl start
    (record { usage = λ u. no_usage how (sym is ∙ u); damage = λ side at d. no_damage how side at (sym is ∙ d); causes = causes })
    (subst (λ (o : Option ℕ). IfSome o (IsManyCall c version)) (sym start) (record {
      state = s;
      read_only = only;
      how = how;
      status_is = is;
      answered = answered;
      line = line;
      untouched = untouched;
      silent = silent;
      complete = steady_ends c _ causes (λ r w d. ended_well c.status how is r w);
    })) source sink
