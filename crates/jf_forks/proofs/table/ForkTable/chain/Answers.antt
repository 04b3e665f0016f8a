use Rattle.std.proofs.Common.{rules, subst}
use Rattle.jf_forks.specs.Tables.{IsTable}
use Rattle.jf_forks.proofs.Bounds.{chain_bounds}
use Rattle.jf_forks.proofs.table.ForkTable.chain.Goals as goal

pub returns-clause-bounded : goal.returns-clause-bounded
returns-clause-bounded c = chain_bounds c.args.id c.args.self.now c.push_chain.new.out (subst IsTable c.self.view_is c.self.invariant) (search rules) (search rules)
