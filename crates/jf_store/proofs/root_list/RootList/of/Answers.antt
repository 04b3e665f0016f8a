use Rattle.std.proofs.Common.{rules, ◌≡◌, ◌+◌, ◌-◌, ◌∷◌, ◌++◌, [], length, sym, ap, ap₂, ◌∙◌, arith, length-append}
use Rattle.jf_model.specs.Versions.{root_of}
use Rattle.jf_store.specs.Landings.{roots_from}
use Rattle.jf_store.proofs.ChainRoots.{roots_from-next}
use Rattle.jf_store.proofs.root_list.RootList.of.Goals as goal

pub loop-version-preserved : goal.loop-version-preserved
loop-version-preserved g c =
    let i = c.loop-version.invariant in
    let v = c.args.engine.now.versions in
    let version = c.loop-version.version in
    let pushed = c.push_reserved.ensures in
    let root : c.in-Some.root ≡ root_of v version = search rules in
    let len : length c.push_reserved.new.self.items ≡ length c.loop-version.room.items + 1 = ap length pushed.items ∙ length-append c.loop-version.room.items (c.in-Some.root ∷ []) in
    let one_more : c.loop-version.room.items ++ c.in-Some.root ∷ [] ≡ roots_from v c.args.first (version + 1 - c.args.first) = ap₂ (λ rs r. rs ++ r ∷ []) i.roots root ∙ sym (roots_from-next v c.args.first version i.begun) in record {
      recorded = i.recorded;
      end = i.end;
      room = search rules;
      begun = search rules;
      within = search rules;
      many = omega (arith, len, i.many, i.begun);
      roots = pushed.items ∙ one_more;
    }
