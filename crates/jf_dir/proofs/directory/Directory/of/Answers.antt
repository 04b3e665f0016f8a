use Rattle.jf_dir.specs.Directories.{snapshot_standing}
use Rattle.jf_dir.proofs.Held.{held-is}
use Rattle.jf_dir.proofs.HeldAfter.{held-again, begun-held}
use Rattle.jf_dir.proofs.directory.Directory.of.Goals as goal

pub invariant_of-result : goal.invariant_of-result
invariant_of-result c = held-again (snapshot_standing c.args.base c.args.earlier.now c.args.snapshot) _ _ _ _ _
    (begun-held c.args.base c.args.earlier.now c.args.snapshot c.root.result c.in_ok-roots.roots.items c.new-snapshots.result.items c.push_back.new.self.items c.new.result.items c.in_ok-count.count c.know.ensures c.know_hashes.ensures c.requires.numbered c.requires.bounded c.requires.room
    c.root.ensures c.in_ok-roots.ensures c.new-snapshots.ensures.items c.in_ok-push_back.ensures.items c.new.ensures.items c.in_ok-count.ensures)

pub returns : goal.returns
returns c = held-is (snapshot_standing c.args.base c.args.earlier.now c.args.snapshot) _ _ _ _ _
    (begun-held c.args.base c.args.earlier.now c.args.snapshot c.root.result c.in_ok-roots.roots.items c.new-snapshots.result.items c.push_back.new.self.items c.new.result.items c.in_ok-count.count c.know.ensures c.know_hashes.ensures c.requires.numbered c.requires.bounded c.requires.room
    c.root.ensures c.in_ok-roots.ensures c.new-snapshots.ensures.items c.in_ok-push_back.ensures.items c.new.ensures.items c.in_ok-count.ensures)
