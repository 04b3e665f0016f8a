use Rattle.jf_replay.proofs.Runs.{ends-rise, run-written}
use Rattle.jf_replay.proofs.landing.places_of.Goals as goal

pub returns-clause-order : goal.returns-clause-order
returns-clause-order c =
    let start = c.count_by_version-start.ensures in
    let end = c.count_by_version-end.ensures in
    ends-rise c.args.version c.args.nodes.now c.requires.positive c.requires.sorted c.count_by_version-start.result c.count_by_version-end.result start.front end.front start.within end.within

pub returns-clause-written : goal.returns-clause-written
returns-clause-written c =
    let start = c.count_by_version-start.ensures in
    let end = c.count_by_version-end.ensures in
    run-written c.args.version c.args.nodes.now c.requires.positive c.requires.sorted c.count_by_version-start.result c.count_by_version-end.result start.front end.front start.within end.within
