use Rattle.std.proofs.Common.{length}
use Rattle.jf_forks.proofs.chain.+chain_len.Given as goal

abbrev pub decreases-chain_len : goal.decreases-chain_len
decreases-chain_len l = length l.live.now
