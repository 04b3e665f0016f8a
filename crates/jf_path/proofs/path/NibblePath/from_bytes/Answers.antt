-- The only path with these bytes is the one returned.
use Rattle.std.proofs.Common.{◌≡◌, ◌∷◌, length, sym, ap, ◌∙◌, rules, Ok}
use Rattle.jf_path.specs.Paths.{path_bytes, path_fault}
use Rattle.jf_path.proofs.Paths.{refused_is_no_path, fault_of_none, sound, bytes_of_halves, path_of_halves}
use Rattle.jf_path.proofs.path.NibblePath.from_bytes.Goals as goal

pub returns-in_default-clause-found : goal.returns-in_default-clause-found
returns-in_default-clause-found c path is same =
    let none : length c.args.bytes.now ≡ 0 = search rules in
    refused_is_no_path c.args.bytes.now _ (fault_of_none c.args.bytes.now none) path is same

pub returns-in_default-clause-refused : goal.returns-in_default-clause-refused
returns-in_default-clause-refused c =
    let none : length c.args.bytes.now ≡ 0 = search rules in
    sym (fault_of_none c.args.bytes.now none)

pub of_packed-requires-clause-bounded : goal.of_packed-requires-clause-bounded
of_packed-requires-clause-bounded c = (sound c.in-Some.count.now c.in-Some.packed.now (sym c.fault_of.ensures ∙ c.in-None.is)).short

pub of_packed-requires-clause-long : goal.of_packed-requires-clause-long
of_packed-requires-clause-long c = (sound c.in-Some.count.now c.in-Some.packed.now (sym c.fault_of.ensures ∙ c.in-None.is)).long

pub of_packed-requires-clause-end : goal.of_packed-requires-clause-end
of_packed-requires-clause-end c = (sound c.in-Some.count.now c.in-Some.packed.now (sym c.fault_of.ensures ∙ c.in-None.is)).end

pub returns-in-Some-fault_of-clause-found : goal.returns-in-Some-fault_of-clause-found
returns-in-Some-fault_of-clause-found c path is same =
    let parts : c.args.bytes.now ≡ c.in-Some.count.now ∷ c.in-Some.packed.now = search rules in
    refused_is_no_path c.args.bytes.now c.in-Some-fault_of.fault (ap path_fault parts ∙ sym c.fault_of.ensures ∙ c.in-Some-fault_of.is) path is same

pub returns-in-None-clause-value : goal.returns-in-None-clause-value
returns-in-None-clause-value c =
    let parts : c.args.bytes.now ≡ c.in-Some.count.now ∷ c.in-Some.packed.now = search rules in
    let good = sound c.in-Some.count.now c.in-Some.packed.now (sym c.fault_of.ensures ∙ c.in-None.is) in
    parts ∙ bytes_of_halves c.in-Some.count.now c.in-Some.packed.now good.long good.end ∙ ap path_bytes (sym c.of_packed.ensures)

pub returns-in-None-clause-found : goal.returns-in-None-clause-found
returns-in-None-clause-found c path is same =
    let parts : c.args.bytes.now ≡ c.in-Some.count.now ∷ c.in-Some.packed.now = search rules in
    ap (λ p. Ok p) (c.of_packed.ensures ∙ path_of_halves c.in-Some.count.now c.in-Some.packed.now path is (sym parts ∙ same))
