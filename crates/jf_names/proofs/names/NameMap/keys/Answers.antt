use Rattle.std.proofs.Common.{arith, ◌≡◌, subst, T}
use Rattle.std.specs.FinMap.{is_sorted}
use Rattle.std.proofs.lemmas.Grind.{common_steps}
use Rattle.jf_path.specs.Keys.{key_cmp}
use Rattle.jf_names.specs.Names.{keys_in}
use Rattle.jf_names.proofs.NamesLaws.{keys_in-rise}
use Rattle.jf_names.proofs.names.NameMap.keys.Goals as goal

pub returns-clause-sorted : goal.returns-clause-sorted
returns-clause-sorted c =
    let whole : c.loop-key.keys ≡ keys_in c.args.self.now = grind (arith, common_steps) in
    keys_in-rise c.loop-key.keys c.args.self.now whole (subst (λ es. T (is_sorted key_cmp es)) c.self.view_is c.self.invariant)
