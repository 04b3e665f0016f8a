-- A fault in taking input as a fault in reading all of it.
use Rattle.jf_io.specs.declared.piece.FetchFault.{FetchFault}
use Rattle.jf_io.specs.declared.piece.FetchFault.TheVariants as fetch_fault
use Rattle.jf_serve.specs.declared.reading.InputFault.{InputFault}
use Rattle.jf_serve.specs.declared.reading.InputFault.TheVariants as input_fault

-- the fault of each
abbrev pub of_fetch : FetchFault → InputFault
of_fetch fetch_fault.ReadFault = input_fault.ReadFault
of_fetch fetch_fault.Memory = input_fault.Memory
