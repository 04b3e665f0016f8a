use Rattle.std.proofs.Common.{arith}
use Rattle.jf_update.proofs.RemainderLaws.{hashes_long, only_is, two_puts, short_at, hashed_at}
use Rattle.jf_update.proofs.remainder.only_put.Goals as goal

pub bounds-hashes-i : goal.bounds-hashes-i
bounds-hashes-i c = omega (arith, c.requires.first.within, hashes_long c.args.entries.now c.args.hashes.now c.requires.hashed)

pub returns-in-None-first_put : goal.returns-in-None-first_put
returns-in-None-first_put c =
    let bs = c.args.entries.now in
    let i = c.args.i in (
      only_is bs i c.index-entries-i.result c.index-entries-i-in-None-first_put.result c.in-Some.value c.requires.first.within c.requires.first.before c.in-Some.is c.in-None-first_put.ensures.none,
      short_at bs i c.index-entries-i.result c.in-Some.value c.requires.short c.requires.first.within c.in-Some.is,
      hashed_at bs c.args.hashes.now i c.index-entries-i.result _ c.in-Some.value c.requires.hashed c.requires.first.within c.in-Some.is,
    )

pub returns-in-Some-first_put : goal.returns-in-Some-first_put
returns-in-Some-first_put c = two_puts c.args.entries.now c.args.i c.in-Some-first_put.field-0 c.index-entries-i.result _ c.requires.first.within c.requires.first.before c.in-Some.is c.in-Some-first_put.ensures.found
