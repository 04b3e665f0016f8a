use Rattle.std.proofs.Common.{rules, ◌<◌, ◌∙◌, sym, ap₂, arith}
use Rattle.jf_hash.specs.Hashes.{N}
use Rattle.jelly.proofs.Leaves.{root-none, root-one, part-deeper, root-halves, zeros-part, ones-part}
use Rattle.jelly.proofs.root.+part_root.Goals as goal

pub first_one-ones-requires : goal.first_one-ones-requires
first_one-ones-requires t c = part-deeper c.args.depth c.args.entries.now c.requires.part c.in_default.len_at_least

pub overflow_add-depth : goal.overflow_add-depth
overflow_add-depth t c =
    let h = part-deeper c.args.depth c.args.entries.now c.requires.part c.in_default.len_at_least in grind arith

pub part_root-left-requires : goal.part_root-left-requires
part_root-left-requires t c = (let h : c.args.depth < 256 = part-deeper c.args.depth c.args.entries.now c.requires.part c.in_default.len_at_least in search rules, zeros-part _ _ _ c.requires.part c.first_one-ones.ensures)

pub overflow_add-depth-in_default : goal.overflow_add-depth-in_default
overflow_add-depth-in_default t c =
    let h = part-deeper c.args.depth c.args.entries.now c.requires.part c.in_default.len_at_least in grind arith

pub part_root-right-requires : goal.part_root-right-requires
part_root-right-requires t c = (let h : c.args.depth < 256 = part-deeper c.args.depth c.args.entries.now c.requires.part c.in_default.len_at_least in search rules, ones-part _ _ _ c.requires.part c.first_one-ones.ensures)

pub returns-in-empty : goal.returns-in-empty
returns-in-empty t c = c.empty.ensures ∙ sym (root-none _ _ c.in-empty.len_below)

pub returns-in-len1 : goal.returns-in-len1
returns-in-len1 t c = c.leaf.ensures ∙ sym (root-one _ _ _ c.in-len1.len_at_least c.in-len1.len_below)

pub returns-in_default : goal.returns-in_default
returns-in_default t c =
    c.inner.ensures ∙ ap₂ N c.part_root-left.ensures c.part_root-right.ensures
    ∙ sym (root-halves _ _ _ c.requires.part c.in_default.len_at_least c.first_one-ones.ensures)
