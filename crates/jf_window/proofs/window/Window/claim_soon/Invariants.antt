-- No try has taken the slot.
use Rattle.std.proofs.Common.{◌≡◌}
use Rattle.jf_window.proofs.window.Window.claim_soon.Given as goal

abbrev pub invariant-loop : goal.invariant-loop
invariant-loop g l = record {
  table : l.token.table_id ≡ l.initial.token.table_id;
  unchanged : l.token.me ≡ l.initial.token.me;
}
