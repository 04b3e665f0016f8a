-- What a landing writes has a spelling.
use Rattle.std.proofs.Common.{◌≤◌, ◌<◌, ◌^◌, length, List, ℕ, subst, arith, rules}
use Rattle.std.specs.FinMap.{len, entries}
use Rattle.std.specs.List.{AllByRecursion}
use Rattle.jf_path.specs.Limits.{max_value}
use Rattle.jf_hash.specs.Maps.{Map, IsMap, apply}
use Rattle.jf_codec.specs.declared.format.Format.TheVariants as format
use Rattle.jf_standing.specs.Landing.{head_map, landing_of}
use Rattle.jf_node.specs.Snapshots.{IsSnapshot}
use Rattle.jf_engine.proofs.landing.next_landing.Goals as goal

pub returns-clause-spelled : goal.returns-clause-spelled
returns-clause-spelled g c =
    let dir = c.args.directory.now in
    let m = apply (head_map dir) c.args.batch.now in
    let written = landing_of format.Two dir m in
    let made = c.in_ok-next.ensures.landing in
    let known = subst IsSnapshot c.snapshot.ensures c.know-2.ensures in
    let grown = c.room_is_left.ensures (head_map dir) c.args.batch.now in
    let room = c.requires.room in
    let bounded : len m ≤ 2 ^ 63 = omega (arith, grown, room) in
    let fresh : length c.in_ok-next.next.fresh < 2 ^ 64 = search rules in
    let stale : length c.in_ok-next.next.stale < 2 ^ 64 = search rules in
    c.landings_are_spelled.ensures format.Two dir m c.know.ensures.read.keys (subst IsMap {y = m} made.map known.map)
    (subst (λ (k : Map). AllByRecursion (λ (e : List ℕ × List ℕ). length e.1 ≤ max_value) (entries k)) {y = m} made.map known.short) bounded c.requires.bounded
    (subst (λ xs. length xs < 2 ^ 64) {y = written.fresh} made.fresh fresh) (subst (λ xs. length xs < 2 ^ 64) {y = written.stale} made.stale stale)
