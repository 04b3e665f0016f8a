use Rattle.jf_forks.proofs.Chains.{length_first}
use Rattle.jf_forks.proofs.chain.+chain_len.Goals as goal

pub returns-in-Fork-clause-length : goal.returns-in-Fork-clause-length
returns-in-Fork-clause-length t c =
    length_first c.in-Some.fork.now c.in-Some.older.now c.args.live.now c.args.id _ c.in-Fork.parent c.in-Some.ensures.cases.0 c.if-fork-id.false c.in-Fork.is c.chain_len-in-Fork.ensures.length
