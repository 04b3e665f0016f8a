use Rattle.std.proofs.Common.{◌++◌, ◌∷◌, [], List, ℕ, sym, ap, ◌∙◌, arith}
use Rattle.jf_path.proofs.ListLaws.{All-after}
use Rattle.jf_path.specs.declared.node.PlainNode.{PlainNode}
use Rattle.jf_path.specs.declared.node.PlainNode.TheVariants as node
use Rattle.jf_codec.proofs.FieldLaws.{ok_is}
use Rattle.jf_landing.specs.Scanned.{leaf_alone}
use Rattle.jf_landing.proofs.Parts.{leaf_read, leaf_short}
use Rattle.jf_landing.proofs.leaves.add_leaf.Goals as goal

pub returns-in_err-key-clause-spelled : goal.returns-in_err-key-clause-spelled
returns-in_err-key-clause-spelled c = λ format key value tail is e.
    absurd (let both = sym (leaf_read format key value c.args.bytes.now tail is e) ∙ c.in_err-key.ensures in cc)

pub returns-clause-entries : goal.returns-clause-entries
returns-clause-entries c = λ all.
    let short = leaf_short c.args.bytes.now c.in_ok-key.key.now c.in_ok-key.value.now c.in_ok-key.rest.now (λ i. omega (arith, c.type_inv.bytes i)) c.in_ok-key.ensures in
    rw (c.in-Ok.ensures.items, c.in_ok-value.ensures) (All-after _ c.args.leaves.now.items _ all short)

pub returns-clause-spelled : goal.returns-clause-spelled
returns-clause-spelled c = λ format key value tail is e.
    let same = ok_is (node.Leaf c.in_ok-key.key.now c.in_ok-key.value.now, c.in_ok-key.rest.now) (node.Leaf key value, tail) (sym c.in_ok-key.ensures ∙ leaf_read format key value c.args.bytes.now tail is e) in
    let old = c.args.leaves.now.items in (
      ap (λ (p : PlainNode × List ℕ). p.1) same,
      c.in-Ok.ensures.items ∙ ap (λ (v : List ℕ). old ++ (c.in_ok-key.key.now, v) ∷ []) c.in_ok-value.ensures ∙ ap (λ (p : PlainNode × List ℕ). old ++ leaf_alone p.0) same,
    )
