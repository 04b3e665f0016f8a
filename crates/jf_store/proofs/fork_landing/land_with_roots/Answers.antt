use Rattle.std.proofs.Common.{◌≡◌, ◌+◌, length, ap, ◌∙◌, arith}
use Rattle.jf_model.specs.Versions.{Versions}
use Rattle.jf_model.proofs.VersionLaws.{land_all-head, land_all-base}
use Rattle.jf_store.proofs.ChainRoots.{roots_from-landed}
use Rattle.jf_store.proofs.fork_landing.land_with_roots.Goals as goal

pub of-roots-requires-clause-low : goal.of-roots-requires-clause-low
of-roots-requires-clause-low g c κs within =
    let v = c.args.engine.now.versions in
    let done = c.in-Ok-land_batches.ensures.step in
    let base : c.land_batches.new.engine.versions.base ≡ v.base = ap (λ (w : Versions). w.base) done.versions_are ∙ land_all-base c.args.batches v in
    omega (arith, base, c.state-first.ensures.versions.2, c.know.ensures.sound.base_first, c.know.ensures.sound.floor_first)

pub of-roots-requires-clause-within : goal.of-roots-requires-clause-within
of-roots-requires-clause-within g c κs within =
    let v = c.args.engine.now.versions in
    let done = c.in-Ok-land_batches.ensures.step in
    let head : c.land_batches.new.engine.versions.head ≡ v.head + length c.args.batches = ap (λ (w : Versions). w.head) done.versions_are ∙ land_all-head c.args.batches v in
    omega (arith, head, c.state-first.ensures.versions.2)

pub of-roots-requires-clause-room : goal.of-roots-requires-clause-room
of-roots-requires-clause-room g c κs within =
    let v = c.args.engine.now.versions in
    let done = c.in-Ok-land_batches.ensures.step in
    let head : c.land_batches.new.engine.versions.head ≡ v.head + length c.args.batches = ap (λ (w : Versions). w.head) done.versions_are ∙ land_all-head c.args.batches v in
    omega (arith, head, c.state-first.ensures.versions.2, c.in-Ok.ensures.capacity, c.len.ensures)

pub returns-in-Ok-land_batches-clause-roots : goal.returns-in-Ok-land_batches-clause-roots
returns-in-Ok-land_batches-clause-roots g c =
    c.of-roots.ensures ∙ roots_from-landed c.args.batches c.args.engine.now.versions c.land_batches.new.engine.versions c.state-first.result.head c.in-Ok-land_batches.ensures.step.versions_are c.state-first.ensures.versions.2
