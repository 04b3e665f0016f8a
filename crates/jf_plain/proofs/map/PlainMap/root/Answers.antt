use Rattle.std.proofs.Common.{ap, sym, ◌∙◌, subst, T, map}
use Rattle.std.specs.FinMap.{is_sorted}
use Rattle.jf_path.specs.Keys.{key_cmp}
use Rattle.jf_hash.specs.Roots.{root, leaf_of, leaves_root}
use Rattle.jf_plain.proofs.Views.{root-of, sorted-leaves}
use Rattle.jf_plain.proofs.map.PlainMap.root.Goals as goal

pub plain_root-requires : goal.plain_root-requires
plain_root-requires c =
    let is = c.deref-2.ensures.value ∙ c.in_ok-leaves.ensures ∙ ap (map leaf_of) c.deref.ensures.value in
    subst (λ es. T (is_sorted key_cmp es)) (sym is) (sorted-leaves c.self.inside.entries.items c.self.invariant.sorted)

pub returns : goal.returns
returns c =
    c.plain_root.ensures ∙ ap (leaves_root 0) (c.deref-2.ensures.value ∙ c.in_ok-leaves.ensures ∙ ap (map leaf_of) c.deref.ensures.value)
    ∙ root-of _ c.self.invariant ∙ ap root c.self.view_is
