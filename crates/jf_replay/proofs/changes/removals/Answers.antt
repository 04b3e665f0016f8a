use Rattle.std.proofs.Common.{◌≡◌, ◌∙◌, ap, drop, ◌-◌, [], length, ◌++◌, ◌∷◌}
use Rattle.std.proofs.lemmas.Iterator.Adapters.{YieldsList-from_rev_slice}
use Rattle.std.proofs.lemmas.Iterator.Consumers.{YieldsList-turn}
use Rattle.jf_standing.proofs.Batches.{removals_of}
use Rattle.jf_replay.specs.Changes.{put_each, leaves_at, removal_of}
use Rattle.jf_replay.proofs.Puts.{put-removal-at, place-reversed, next-reversed}
use Rattle.jf_replay.proofs.changes.removals.Goals as goal
use Rattle.jf_replay.proofs.changes.removals.Goals.{In_ok-insert}

step : (c : In_ok-insert) → c.insert.new.self.entries ≡ put_each (removals_of (leaves_at c.args.snapshot.now.map (drop (length c.args.names.now - length (c.loop-name.yielded ++ c.in-Some.name ∷ [])) c.args.names.now))) []
step c =
    let m = c.args.snapshot.now.map in
    let names = c.args.names.now in
    let done = c.loop-name.yielded in
    let name = c.in-Some.name in
    let turn = YieldsList-turn (YieldsList-from_rev_slice names (cc)) done _ c.loop-name.yielded_by _ _ name c.in-Some.is c.next.ensures.steps in
    let at = place-reversed names (length done) name.now turn.0 turn.1 in
    put-removal-at m names (length names - length done) name.now c.in-Some-2.key [] c.loop-name.changes.entries _ at.0 at.1 at.2 (c.in_ok-key.ensures.found.1 ∙ ap removal_of c.in-Some-2.is) c.loop-name.invariant c.in_ok-insert.ensures.entries
    ∙ ap (λ k. put_each (removals_of (leaves_at m (drop k names))) []) (next-reversed (length names) done name)

pub loop-name-preserved-in_ok-insert : goal.loop-name-preserved-in_ok-insert
loop-name-preserved-in_ok-insert c = step (goal.at.loop-name-preserved-in_ok-insert c).In_ok-insert

pub loop-name-preserved-in_ok-insert-2 : goal.loop-name-preserved-in_ok-insert-2
loop-name-preserved-in_ok-insert-2 c = step (goal.at.loop-name-preserved-in_ok-insert-2 c).In_ok-insert

pub loop-name-preserved-in_ok-insert-3 : goal.loop-name-preserved-in_ok-insert-3
loop-name-preserved-in_ok-insert-3 c = step (goal.at.loop-name-preserved-in_ok-insert-3 c).In_ok-insert

pub loop-name-preserved-in_ok-insert-4 : goal.loop-name-preserved-in_ok-insert-4
loop-name-preserved-in_ok-insert-4 c = step (goal.at.loop-name-preserved-in_ok-insert-4 c).In_ok-insert
