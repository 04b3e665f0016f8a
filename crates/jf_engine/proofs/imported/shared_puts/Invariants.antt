-- The entries before the present one are puts, and have keys and values of bytes.
use Rattle.std.proofs.Common.{◌≡◌, take}
use Rattle.std.specs.List.{AllByRecursion}
use Rattle.jf_path.specs.Keys.{IsKey, IsBytes}
use Rattle.jf_engine.specs.Imported.{puts_of}
use Rattle.jf_engine.proofs.imported.shared_puts.Given as goal

abbrev pub invariant-loop-entry : goal.invariant-loop-entry
invariant-loop-entry l = (l.puts.items ≡ puts_of (take l.entry-index l.entries)) × AllByRecursion (λ e. IsKey e.0 × IsBytes e.1) (take l.entry-index l.entries)
