use Rattle.std.proofs.Common.{◌≡◌, ◌++◌, ◌∷◌, length, sym, ap, ◌∙◌, subst, arith, rules}
use Rattle.std.proofs.lemmas.List.{append-nil}
use Rattle.jf_path.specs.declared.node.PlainNode.{PlainNode}
use Rattle.jf_codec.specs.Spelling.{IsNode, node_bytes}
use Rattle.jf_landing.specs.Scanned.{GivenMemory, leaf_alone}
use Rattle.jf_landing.proofs.Parts.{node_some, null_told, leaf_told, inner_told, given}
use Rattle.jf_landing.proofs.leaves.add_node.Goals as goal

pub returns-in_default-clause-spelled : goal.returns-in_default-clause-spelled
returns-in_default-clause-spelled c = λ n tail is e.
    absurd (let some = node_some c.args.format n tail in let same = ap length e in let none = c.in_default.ensures.cases in omega (arith, some, same, none))

pub returns-then-tag-eq-NULL-clause-spelled : goal.returns-then-tag-eq-NULL-clause-spelled
returns-then-tag-eq-NULL-clause-spelled c = λ n tail is e.
    let parts : c.args.bytes.now ≡ c.in-Some.tag.now ∷ c.in-Some.rest.now = search rules in
    let told = null_told c.args.format n c.in-Some.rest.now tail (ap (λ t. t ∷ c.in-Some.rest.now) (sym c.if-tag-eq-NULL.true) ∙ sym parts ∙ e) in
    (told.0, sym (append-nil c.args.leaves.now.items) ∙ ap (λ es. c.args.leaves.now.items ++ es) (sym told.1))

pub returns-then-tag-eq-LEAF-clause-spelled : goal.returns-then-tag-eq-LEAF-clause-spelled
returns-then-tag-eq-LEAF-clause-spelled c = λ n tail is e.
    let fmt = c.args.format in
    let parts : c.args.bytes.now ≡ c.in-Some.tag.now ∷ c.in-Some.rest.now = search rules in
    let leaf = ap (λ t. t ∷ c.in-Some.rest.now) (sym c.if-tag-eq-LEAF.true) ∙ sym parts ∙ e in
    let told = leaf_told fmt n c.in-Some.rest.now tail leaf in
    subst (λ (m : PlainNode). GivenMemory (λ rest. (rest.now ≡ tail) × (c.add_leaf.new.leaves.items ≡ c.args.leaves.now.items ++ leaf_alone m)) c.add_leaf.result) (sym told.2)
    (c.add_leaf.ensures.spelled fmt told.0 told.1 tail (subst (IsNode fmt) told.2 is) (leaf ∙ ap (λ m. node_bytes fmt m ++ tail) told.2))

pub returns-clause-spelled : goal.returns-clause-spelled
returns-clause-spelled c = λ n tail is e.
    let fmt = c.args.format in
    let parts : c.args.bytes.now ≡ c.in-Some.tag.now ∷ c.in-Some.rest.now = search rules in
    let whole = sym parts ∙ e in
    let told = inner_told fmt n c.in-Some.tag.now c.in-Some.rest.now tail c.if-tag-eq-NULL.false c.if-tag-eq-LEAF.false whole in
    given c.after_inner.result tail c.args.leaves.now.items n (ap leaf_alone told.1)
    (c.after_inner.ensures told.0 tail (subst (IsNode fmt) told.1 is) (e ∙ ap (λ m. node_bytes fmt m ++ tail) told.1))
