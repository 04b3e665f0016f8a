-- Laws on a disk in memory: one state for each moment, a crash may leave what a read gives, and no side is too long.
use Rattle.std.specs.Prelude.{◌≡◌, ◌+◌, List, [], ◌∷◌, ◌++◌, refl}
use Rattle.std.proofs.Common.{arith}
use Rattle.jf_disk.specs.Disk.{History, next}
use Rattle.jf_disk.specs.Memory.{Call, state_after_call, history_after_calls, nothing, writes, cuts, syncs, bytes_written}

-- ---- one more call
pub replayed-append : (calls more : List Call) (h : History) → history_after_calls (calls ++ more) h ≡ history_after_calls more (history_after_calls calls h)
replayed-append [] more h = refl
replayed-append (c ∷ calls) more h = replayed-append calls more (next (state_after_call c) h)

pub bytes_written-append : (calls more : List Call) → bytes_written (calls ++ more) ≡ bytes_written calls + bytes_written more
bytes_written-append [] more = omega arith
bytes_written-append (nothing ∷ calls) more = bytes_written-append calls more
bytes_written-append (writes _ _ bytes ∷ calls) more = omega (arith, bytes_written-append calls more)
bytes_written-append (cuts _ _ ∷ calls) more = bytes_written-append calls more
bytes_written-append (syncs _ ∷ calls) more = bytes_written-append calls more
