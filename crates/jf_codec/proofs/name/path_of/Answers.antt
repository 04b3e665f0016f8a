-- The count and the packed nibbles that were read are those of a path.
use Rattle.std.proofs.Common.{◌≡◌, ℕ, ◌<◌, ◌∷◌, get_or, ap, ◌∙◌, arith, rules}
use Rattle.jf_codec.specs.Reading.{path_at}
use Rattle.jf_codec.proofs.Names.{answer_by_path, path_answer, front_is, in_front}
use Rattle.jf_codec.proofs.name.path_of.Goals as goal

pub returns-in-Ok : goal.returns-in-Ok
returns-in-Ok c =
    let parts : c.args.bytes.now ≡ c.in-Some.count.now ∷ c.in-Some.rest.now = search rules in
    let bytes : (i : ℕ) → get_or c.args.bytes.now i 0 < 256 = λ i. omega (arith, c.type_inv.bytes i) in
    let short = c.if-count-gt64.false in
    ap path_at parts
    ∙ path_answer c.in-Some.count.now c.in-Some.rest.now _ c.from_bytes.result (c.in_ok-rest.field-0-0.now, c.in_ok-rest.rest.now) (omega arith) c.in_ok-rest.ensures
    (front_is c.args.bytes.now c.in-Some.count.now c.in-Some.rest.now _ (c.in_ok-rest.field-0-0.now, c.in_ok-rest.rest.now) parts c.in_ok-rest.ensures) (in_front c.args.bytes.now c.in-Some.count.now c.in-Some.rest.now parts bytes)
    c.from_bytes.ensures.found c.from_bytes.ensures.refused
    ∙ ap (λ r. answer_by_path r c.in_ok-rest.rest.now) c.in-Ok.is

pub returns-in-Err : goal.returns-in-Err
returns-in-Err c =
    let parts : c.args.bytes.now ≡ c.in-Some.count.now ∷ c.in-Some.rest.now = search rules in
    let bytes : (i : ℕ) → get_or c.args.bytes.now i 0 < 256 = λ i. omega (arith, c.type_inv.bytes i) in
    let short = c.if-count-gt64.false in
    ap path_at parts
    ∙ path_answer c.in-Some.count.now c.in-Some.rest.now _ c.from_bytes.result (c.in_ok-rest.field-0-0.now, c.in_ok-rest.rest.now) (omega arith) c.in_ok-rest.ensures
    (front_is c.args.bytes.now c.in-Some.count.now c.in-Some.rest.now _ (c.in_ok-rest.field-0-0.now, c.in_ok-rest.rest.now) parts c.in_ok-rest.ensures) (in_front c.args.bytes.now c.in-Some.count.now c.in-Some.rest.now parts bytes)
    c.from_bytes.ensures.found c.from_bytes.ensures.refused
    ∙ ap (λ r. answer_by_path r c.in_ok-rest.rest.now) c.in-Err.is
