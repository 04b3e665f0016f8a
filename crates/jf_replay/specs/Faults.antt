-- What is reported of a record that isn't taken.
use Rattle.std.specs.Prelude.{ℕ}
use Rattle.jf_payload.specs.declared.fault.RecordFault.{RecordFault}
use Rattle.jf_payload.specs.declared.fault.RecordFault.TheVariants as record_fault
use Rattle.jf_replay.specs.declared.check_fault.CheckFault.{CheckFault}
use Rattle.jf_replay.specs.declared.check_fault.CheckFault.TheVariants as check_fault
use Rattle.jf_replay.specs.declared.fault.ReplayFault.{ReplayFault}
use Rattle.jf_replay.specs.declared.fault.ReplayFault.TheVariants as fault

-- a payload that spells no record is unsound at the record's offset
abbrev pub fault_of_decoding : ℕ → RecordFault → ReplayFault
fault_of_decoding at record_fault.Bad = fault.Unsound at
fault_of_decoding at record_fault.Memory = fault.Memory

-- a record that isn't taken is unsound at its offset
abbrev pub fault_of_check : ℕ → CheckFault → ReplayFault
fault_of_check at check_fault.Unsound = fault.Unsound at
fault_of_check at check_fault.Memory = fault.Memory
