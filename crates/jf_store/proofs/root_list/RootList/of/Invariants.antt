use Rattle.std.proofs.Common.{◌≡◌, ◌+◌, ◌-◌, ◌≤◌, length, vec_capacity}
use Rattle.jf_store.specs.Landings.{roots_from}
use Rattle.jf_store.proofs.root_list.RootList.of.Given as goal

abbrev pub invariant-loop-version : goal.invariant-loop-version
invariant-loop-version g l = record {
  recorded : l.engine.versions.base ≤ l.first;
  end : l.version-end ≡ l.engine.versions.head + 1;
  room : l.version-end - l.first ≤ vec_capacity l.room;
  begun : l.first ≤ l.version;
  within : l.version ≤ l.version-end;
  many : length l.room.items ≡ l.version - l.first;
  roots : l.room.items ≡ roots_from l.engine.versions l.first (l.version - l.first);
}
