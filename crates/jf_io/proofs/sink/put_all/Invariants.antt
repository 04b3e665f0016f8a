use Rattle.std.proofs.Common.{◌≡◌, ◌-◌, ◌≤◌, ◌++◌, length, take}
use Rattle.std.specs.Prelude.{option_map}
use Rattle.jf_io.proofs.sink.put_all.Given as goal

abbrev pub invariant-loop-done : goal.invariant-loop-done
invariant-loop-done g l = record {
  within : l.done ≤ length l.bytes;
  text : g.K.Sink.text l.sink ≡ option_map (λ t. t ++ take l.done l.bytes) (g.K.Sink.text l.initial.sink);
  grows : g.K.Sink.faults l.initial.sink ≤ g.K.Sink.faults l.sink;
  untouched : l.done ≡ 0 → l.sink ≡ l.initial.sink;
}

abbrev pub decreases-loop-done : goal.decreases-loop-done
decreases-loop-done g l = length l.bytes - l.done
