use Rattle.std.proofs.Common.{◌≤◌, arith}
use Rattle.jf_replay.proofs.Floors.{floor_taken}
use Rattle.jf_replay.proofs.next.take_floor.Goals as goal

pub returns-clause-taken : goal.returns-clause-taken
returns-clause-taken c = λ fmt.
    let low : c.args.directory.now.floor ≤ c.args.floor = (let t = c.if-floor.false in let n = c.floor.ensures in omega arith) in
    let high : c.args.floor ≤ c.args.directory.now.head = (let t = c.if-floor-head.false in let n = c.head.ensures in omega arith) in
    floor_taken c.floors_prune.ensures c.formats_are_sound.ensures c.formats_follow.ensures fmt c.args.directory.now c.prune.new.self c.args.floor c.know.ensures.sound low high c.prune.ensures
