-- One landing is a record of its own; any other number of landings is a group.
use Rattle.std.proofs.lemmas.Result.{on_ok_weaker}
use Rattle.jf_engine.proofs.Frames.{one-fits, group-fits, one-framed, group-framed}
use Rattle.jf_engine.proofs.frame.encode_landings.Goals as goal

pub encode_one-requires : goal.encode_one-requires
encode_one-requires c = one-fits c.args.format c.args.landings.now c.index-landings-0.result _ c.if-landings-eq1.true c.index-landings-0.is c.requires

pub encode_group-requires : goal.encode_group-requires
encode_group-requires c = group-fits c.args.format c.args.landings.now c.if-landings-eq1.false c.requires

pub returns-then-landings-eq1 : goal.returns-then-landings-eq1
returns-then-landings-eq1 c = on_ok_weaker c.encode_one.result (one-framed c.args.format c.args.landings.now c.index-landings-0.result _ c.if-landings-eq1.true c.index-landings-0.is c.encode_one.new.out) c.encode_one.ensures

pub returns : goal.returns
returns c = on_ok_weaker c.encode_group.result (group-framed c.args.format c.args.landings.now c.if-landings-eq1.false c.encode_group.new.out) c.encode_group.ensures
