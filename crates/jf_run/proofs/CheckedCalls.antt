-- What a call promises that told what the files of a disk show.
use Rattle.std.proofs.Common.{◌≡◌, ◌⊎◌, ◌∙◌, ◌≤◌, ◌+◌, inl, inr, ℕ, List, [], None, Result, Ok, Err, refl, sym, ap, subst, arith}
use Rattle.jf_disk.specs.declared.side.Side.{Side}
use Rattle.jf_disk.proofs.CrashLaws.{by_nowhere}
use Rattle.jf_check.specs.Written.{ChecksDisk}
use Rattle.jf_check.specs.declared.fault.Unchecked.{Unchecked}
use Rattle.jf_check.specs.declared.fault.Unchecked.TheVariants as unchecked
use Rattle.jf_check.specs.declared.store_check.StoreCheck.{StoreCheck}
use Rattle.jf_check.specs.declared.store_check.StoreCheck.TheVariants as store_check
use Rattle.jf_check.proofs.DiskChecks.{unchecked_disk}
use Rattle.jf_run.specs.Calls.{Devices, ProgramCall}
use Rattle.jf_run.specs.Checking.{IsCheckedCall}
use Rattle.jf_run.specs.Outcomes.{IsDoneOrMemory}
use Rattle.jf_run.specs.Statuses.{status_of_check}
use Rattle.jf_run.specs.declared.status.Status.{Status}
use Rattle.jf_run.specs.declared.status.Status.TheVariants as status

abbrev pub How : Type 0
How = Result StoreCheck Unchecked

-- ---- what the status tells
pub told_usage : (r : How) → status_of_check r ≡ status.Usage → ⊥
told_usage (Ok (store_check.Damaged w at)) e = absurd (cc)
told_usage (Ok (store_check.Sound live kept checkpoint)) e = absurd (cc)
told_usage (Err unchecked.DiskFault) e = absurd (cc)
told_usage (Err unchecked.WriteFault) e = absurd (cc)
told_usage (Err unchecked.Memory) e = absurd (cc)

pub told_read : (r : How) → status_of_check r ≡ status.ReadFault → ⊥
told_read (Ok (store_check.Damaged w at)) e = absurd (cc)
told_read (Ok (store_check.Sound live kept checkpoint)) e = absurd (cc)
told_read (Err unchecked.DiskFault) e = absurd (cc)
told_read (Err unchecked.WriteFault) e = absurd (cc)
told_read (Err unchecked.Memory) e = absurd (cc)

pub told_elsewhere : (r : How) (head : ℕ) (root : List ℕ) → status_of_check r ≡ status.Elsewhere head root → ⊥
told_elsewhere (Ok (store_check.Damaged w at)) head root e = absurd (cc)
told_elsewhere (Ok (store_check.Sound live kept checkpoint)) head root e = absurd (cc)
told_elsewhere (Err unchecked.DiskFault) head root e = absurd (cc)
told_elsewhere (Err unchecked.WriteFault) head root e = absurd (cc)
told_elsewhere (Err unchecked.Memory) head root e = absurd (cc)

pub told_write : (r : How) → status_of_check r ≡ status.WriteFault → r ≡ Err unchecked.WriteFault
told_write (Ok (store_check.Damaged w at)) e = absurd (cc)
told_write (Ok (store_check.Sound live kept checkpoint)) e = absurd (cc)
told_write (Err unchecked.DiskFault) e = absurd (cc)
told_write (Err unchecked.WriteFault) e = refl
told_write (Err unchecked.Memory) e = absurd (cc)

pub told_disk : (r : How) → status_of_check r ≡ status.DiskFault → r ≡ Err unchecked.DiskFault
told_disk (Ok (store_check.Damaged w at)) e = absurd (cc)
told_disk (Ok (store_check.Sound live kept checkpoint)) e = absurd (cc)
told_disk (Err unchecked.DiskFault) e = refl
told_disk (Err unchecked.WriteFault) e = absurd (cc)
told_disk (Err unchecked.Memory) e = absurd (cc)

told_memory : (r : How) → status_of_check r ≡ status.Memory → r ≡ Err unchecked.Memory
told_memory (Ok (store_check.Damaged w at)) e = absurd (cc)
told_memory (Ok (store_check.Sound live kept checkpoint)) e = absurd (cc)
told_memory (Err unchecked.DiskFault) e = absurd (cc)
told_memory (Err unchecked.WriteFault) e = absurd (cc)
told_memory (Err unchecked.Memory) e = refl

pub told_damage : (r : How) (side : Side) (at : ℕ) → status_of_check r ≡ status.Damaged side at → r ≡ Ok (store_check.Damaged side at)
told_damage (Ok (store_check.Damaged w n)) side at e = cc
told_damage (Ok (store_check.Sound live kept checkpoint)) side at e = absurd (cc)
told_damage (Err unchecked.DiskFault) side at e = absurd (cc)
told_damage (Err unchecked.WriteFault) side at e = absurd (cc)
told_damage (Err unchecked.Memory) side at e = absurd (cc)

pub told_silence : (r : How) → (status_of_check r ≡ status.DiskFault) ⊎ (status_of_check r ≡ status.Memory) → (r ≡ Err unchecked.DiskFault) ⊎ (r ≡ Err unchecked.Memory)
told_silence r (inl e) = inl (told_disk r e)
told_silence r (inr e) = inr (told_memory r e)

-- without a fault of sink and disk the files are reported, or memory runs out
pub told_well : (r : How) (s : Status) → s ≡ status_of_check r → (s ≡ status.WriteFault → ⊥) → (s ≡ status.DiskFault → ⊥) → IsDoneOrMemory s ⊎ ((side : Side) × (at : ℕ) × (s ≡ status.Damaged side at))
told_well (Ok (store_check.Damaged side at)) s is w d = inr (side, at, is)
told_well (Ok (store_check.Sound live kept checkpoint)) s is w d = inl (inl is)
told_well (Err unchecked.DiskFault) s is w d = absurd (d is)
told_well (Err unchecked.WriteFault) s is w d = absurd (w is)
told_well (Err unchecked.Memory) s is w d = inl (inr is)

-- ---- out of memory
-- memory ran out before a call was made on a device
pub uncheck : (c : ProgramCall) → c.start ≡ None → c.entries ≡ [] → c.after ≡ c.before → c.status ≡ status.Memory → IsCheckedCall c
uncheck c start none same memory = record {
  start = start;
  entries = none;
  outcome = Err unchecked.Memory;
  status_is = memory;
  told = subst (λ (d : Devices). ChecksDisk (Err unchecked.Memory) c.missing c.before.disk.history c.before.text d.text) (sym same)
      (unchecked_disk unchecked.Memory c.missing c.before.disk.history c.before.text (λ other. absurd (cc)));
  idle = λ h told. (h, ap (λ (d : Devices). d.disk.history) same ∙ told, by_nowhere (λ s. s ≡ h.now) h);
  moments = subst (λ (d : Devices). d.disk.moment ≤ c.before.disk.moment + 4) (sym same) (omega arith);
  calm = λ other. ap (λ (d : Devices). d.disk.faults) same;
  unread = (ap (λ (d : Devices). d.rest) same, ap (λ (d : Devices). d.source_faults) same);
  silent = λ ends. (ap (λ (d : Devices). d.text) same, ap (λ (d : Devices). d.sink_faults) same);
  complete = λ a b. inl (inr memory);
}
