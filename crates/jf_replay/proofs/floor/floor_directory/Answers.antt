use Rattle.std.specs.Prelude.{Err}
use Rattle.std.proofs.Common.{sym, ap, ◌∙◌, subst, ◌<◌, ◌^◌, arith}
use Rattle.jf_replay.proofs.FloorFound.{refused-versions, refused-room, refused-root, refused-nodes, begun, no-difference, no-other}
use Rattle.jf_replay.proofs.floor.floor_directory.Goals as goal

pub returns-in_err-snapshot-clause-unsound : goal.returns-in_err-snapshot-clause-unsound
returns-in_err-snapshot-clause-unsound c =
    let a = c.args in
    let k = a.checkpoint in
    λ same. refused-versions a.format k.base k.floor k.head k.roots.now k.nodes.now _ c.requires.read c.requires.numbered c.count_by_version-count.ensures.front (c.in_err-snapshot.ensures.unsound (ap (λ f. Err f) (sym (rw same at c.from_residual.ensures.1))))

pub returns-then-count-gt-MOST_ENTRIES-clause-unsound : goal.returns-then-count-gt-MOST_ENTRIES-clause-unsound
returns-then-count-gt-MOST_ENTRIES-clause-unsound c =
    let a = c.args in
    let k = a.checkpoint in
    λ same. refused-room a.format k.base k.floor k.head k.roots.now k.nodes.now _ c.requires.read c.requires.numbered c.count_by_version-count.ensures.front c.in_ok-snapshot.snapshot c.in_ok-snapshot.ensures.restored (subst (λ n. 2 ^ 63 < n) c.count.ensures c.if-count-gt-MOST_ENTRIES.true)

pub returns-then-ne-clause-unsound : goal.returns-then-ne-clause-unsound
returns-then-ne-clause-unsound c =
    let a = c.args in
    let k = a.checkpoint in
    λ same. refused-root a.format k.base k.floor k.head k.roots.now k.nodes.now _ c.requires.read c.requires.numbered c.count_by_version-count.ensures.front c.in_ok-snapshot.snapshot c.in_ok-snapshot.ensures.restored (λ is. no-difference _ _ (c.root.ensures ∙ is) c.if-ne.ensures)

pub returns-clause-begun : goal.returns-clause-begun
returns-clause-begun c =
    let a = c.args in
    let k = a.checkpoint in
    begun a.format k.base k.floor k.head k.roots.now k.nodes.now _ c.requires.read c.requires.numbered c.count_by_version-count.ensures.front c.in_ok-snapshot.snapshot c.in_ok-snapshot.ensures.restored c.know.ensures
    (omega (arith, c.count.ensures, c.if-count-gt-MOST_ENTRIES.false)) c.in_ok-directory.directory c.know-2.ensures.read c.know-2.ensures.sound c.in_ok-directory.ensures (sym c.root.ensures ∙ no-other _ _ c.if-ne.ensures) (sym c.in_ok-are_nodes_of.ensures ∙ c.if-not-branch.false)

pub returns-then-not-branch-clause-unsound : goal.returns-then-not-branch-clause-unsound
returns-then-not-branch-clause-unsound c =
    let a = c.args in
    let k = a.checkpoint in
    λ same. refused-nodes a.format k.base k.floor k.head k.roots.now k.nodes.now _ c.requires.read c.requires.numbered c.count_by_version-count.ensures.front c.in_ok-snapshot.snapshot c.in_ok-snapshot.ensures.restored c.know.ensures
    (omega (arith, c.count.ensures, c.if-count-gt-MOST_ENTRIES.false)) c.in_ok-directory.directory c.know-2.ensures.read c.know-2.ensures.sound c.in_ok-directory.ensures (sym c.in_ok-are_nodes_of.ensures ∙ c.if-not-branch.true)
