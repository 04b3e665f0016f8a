use Rattle.std.proofs.Common.{rules, ◌≡◌, ◌∙◌, ◌+◌, ◌-◌, ◌++◌, sym, ap, ap₂, subst, arith, length, take, drop}
use Rattle.std.proofs.lemmas.List.{take_all}
use Rattle.jf_evidence.specs.Ranges.{Entries}
use Rattle.jf_node.specs.Children.{entries_of_children}
use Rattle.jf_range.proofs.Walks.{IsWalked, child-deeper, walk-child, walk-none}
use Rattle.jf_range.proofs.Visiting.{one-visited, visit-child, visit-none, visit-node}
use Rattle.jf_range.proofs.walk.+copy_range.Goals as goal
use Rattle.jf_range.proofs.walk.+copy_range.Goals.{in-Some+in_ok-copy_range-in-Inner, in_default}

pub returns-then-room-eq0-clause-cost : goal.returns-then-room-eq0-clause-cost
returns-then-room-eq0-clause-cost g t c =
    one-visited (64 - c.args.link.now.depth) c.args.skip c.args.room (length c.args.link.now.entries) c.tick.new.self c.args.steps.now c.tick.ensures

pub returns-in_err-value-in-Leaf-clause-cost : goal.returns-in_err-value-in-Leaf-clause-cost
returns-in_err-value-in-Leaf-clause-cost g t c =
    one-visited (64 - c.args.link.now.depth) c.args.skip c.args.room (length c.args.link.now.entries) c.tick.new.self c.args.steps.now c.tick.ensures

pub returns-in_ok-value-in-Leaf-clause-cost : goal.returns-in_ok-value-in-Leaf-clause-cost
returns-in_ok-value-in-Leaf-clause-cost g t c =
    one-visited (64 - c.args.link.now.depth) c.args.skip c.args.room (length c.args.link.now.entries) c.tick.new.self c.args.steps.now c.tick.ensures

pub loop-n-init : goal.loop-n-init
loop-n-init g t c =
    record {
      copied = (search rules);
      skip = (search rules);
      room = (search rules);
      visited = (omega (arith, c.tick.ensures), omega (arith, c.tick.ensures));
    }

pub copy_range-requires : goal.copy_range-requires
copy_range-requires g t c κs within =
    let shows = c.in-Inner.ensures.shows in
    let deeper = child-deeper c.args.link.now c.in-Some.child.now c.in-Inner.children.now c.loop-n.n shows (omega arith) (c.in-Some.ensures) in
    let deep = shows.children.deep in
    search rules

pub returns-in_err-copy_range-in-Inner-clause-cost : goal.returns-in_err-copy_range-in-Inner-clause-cost
returns-in_err-copy_range-in-Inner-clause-cost g t c =
    let i = c.loop-n.invariant in
    let shows = c.in-Inner.ensures.shows in
    let links = c.in-Inner.children.now in
    let child = c.in-Some.child.now in
    let walked : IsWalked c.args.skip c.args.room c.args.out.now c.loop-n.out c.loop-n.skip c.loop-n.room (entries_of_children (take c.loop-n.n links)) = record { copied = i.copied; skip_is = i.skip; room_is = i.room } in
    let deeper = child-deeper c.args.link.now child links c.loop-n.n shows (omega arith) c.in-Some.ensures in
    let visited = visit-child c.args.link.now.depth c.args.skip c.args.room c.args.steps.now c.loop-n.steps c.copy_range.new.steps c.args.out.now c.loop-n.out c.loop-n.skip c.loop-n.room links c.loop-n.n child (omega (arith, shows.children.long))
    c.in-Some.ensures deeper shows.children.deep c.know.ensures.entries.some walked i.visited c.copy_range.ensures.cost in
    visit-node c.args.link.now c.args.skip c.args.room c.args.steps.now c.copy_range.new.steps links (c.loop-n.n + 1) shows (omega arith) (omega (arith, c.if-count-skip.false, c.count.ensures)) (omega arith) visited

pub loop-n-preserved : goal.loop-n-preserved
loop-n-preserved g t c =
    let i = c.loop-n.invariant in
    let shows = c.in-Inner.ensures.shows in
    let long = shows.children.long in
    let links = c.in-Inner.children.now in
    let before : IsWalked c.args.skip c.args.room c.args.out.now c.loop-n.out c.loop-n.skip c.loop-n.room (entries_of_children (take c.loop-n.n links)) = record { copied = i.copied; skip_is = i.skip; room_is = i.room } in
    elim c.match-child_at.branch [
      | in-Some+in_ok-copy_range-in-Inner w ↦ (
          let left = w.skip-is ∙ w.saturating_sub-skip.ensures ∙ ap (λ n. c.loop-n.skip - n) w.count-in-Some.ensures in
          let space = w.room-is ∙ ap₂ (λ a b. c.loop-n.room - (a - b)) (w.len.ensures ∙ ap length (sym w.out-is)) w.len-before.ensures in
          let walked = walk-child c.args.skip c.args.room c.args.out.now c.loop-n.out c.match-child_at.out c.loop-n.skip c.loop-n.room c.match-child_at.skip c.match-child_at.room links c.loop-n.n w.in-Some.child.now (omega arith)
          w.in-Some.ensures before (w.out-is ∙ w.in_ok-copy_range-in-Inner.ensures.copied) left space in
          let deeper = child-deeper c.args.link.now w.in-Some.child.now links c.loop-n.n shows (omega arith) w.in-Some.ensures in
          let visited = visit-child c.args.link.now.depth c.args.skip c.args.room c.args.steps.now c.loop-n.steps c.match-child_at.steps c.args.out.now c.loop-n.out c.loop-n.skip c.loop-n.room links c.loop-n.n w.in-Some.child.now (omega arith)
          w.in-Some.ensures deeper shows.children.deep w.know.ensures.entries.some before i.visited (omega (arith, w.steps-is, w.copy_range.ensures.cost)) in
          record { copied = walked.copied; skip = walked.skip_is; room = walked.room_is; visited = visited })
      | in_default w ↦ (
          let walked = walk-none c.args.skip c.args.room c.args.out.now c.loop-n.out c.loop-n.skip c.loop-n.room links c.loop-n.n (omega arith) w.in_default.ensures before in
          let visited = visit-none c.args.link.now.depth c.args.skip c.args.room c.args.steps.now c.loop-n.steps links c.loop-n.n (omega arith) w.in_default.ensures i.visited in
          record {
            copied = w.out-is ∙ walked.copied;
            skip = w.skip-is ∙ walked.skip_is;
            room = ap (λ k. k + length (take c.args.room (drop c.args.skip (entries_of_children (take (c.loop-n.n + 1) links))))) w.room-is ∙ walked.room_is;
            visited = (omega (arith, w.steps-is, visited.0), omega (arith, w.steps-is, visited.1));
          })
    ]

pub returns-after-loop-n-clause-copied : goal.returns-after-loop-n-clause-copied
returns-after-loop-n-clause-copied g t c =
    let shows = c.in-Inner.ensures.shows in
    let links = c.in-Inner.children.now in
    let all : entries_of_children (take c.loop-n.n links) ≡ c.args.link.now.entries = ap entries_of_children (take_all c.loop-n.n links (omega (arith, shows.children.long, c.loop-n-test.false))) ∙ sym shows.entries in
    subst (λ (es : Entries). c.loop-n.out ≡ c.args.out.now ++ take c.args.room (drop c.args.skip es)) all c.loop-n.invariant.copied

pub returns-after-loop-n-clause-cost : goal.returns-after-loop-n-clause-cost
returns-after-loop-n-clause-cost g t c =
    visit-node c.args.link.now c.args.skip c.args.room c.args.steps.now c.loop-n.steps c.in-Inner.children.now c.loop-n.n c.in-Inner.ensures.shows (omega arith) (omega (arith, c.if-count-skip.false, c.count.ensures)) (omega arith)
    c.loop-n.invariant.visited
