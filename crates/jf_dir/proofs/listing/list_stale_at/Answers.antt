use Rattle.jf_dir.proofs.Listings.{later-at, listed-next}
use Rattle.jf_dir.proofs.listing.list_stale_at.Goals as goal

pub list_stale_nodes-requires : goal.list_stale_nodes-requires
list_stale_nodes-requires c = record {
  later = later-at c.args.directory.now c.know.ensures.sound c.args.version c.in-Some-Some.old.now c.in-Some-Some.new.now c.requires.low c.requires.high c.in-Some-Some.ensures.snapshot c.in-Some-Some.ensures'.snapshot c.know-in-Some-Some.ensures c.know-in-Some-Some-2.ensures;
}

pub returns : goal.returns
returns c =
    listed-next c.args.directory.now c.know.ensures.sound c.args.version c.in-Some-Some.old.now c.in-Some-Some.new.now c.requires.low c.requires.high c.in-Some-Some.ensures.snapshot c.in-Some-Some.ensures'.snapshot c.know.ensures.read
    _ _ c.requires.listed c.in_ok-list_stale_nodes-in-Some-Some.ensures.listed
