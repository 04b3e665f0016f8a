-- Landings are taken as their bytes, a floor is decoded, and no other record comes after the first.
use Rattle.std.proofs.Common.{Some, sym, ap, ◌∙◌, subst}
use Rattle.std.proofs.lemmas.Option.{same_Some}
use Rattle.std.proofs.lemmas.Result.{on_ok_weaker}
use Rattle.jf_payload.specs.declared.records.Record.TheVariants as «record»
use Rattle.jf_standing.specs.Taking.{TakesRecord}
use Rattle.jf_standing.specs.FormatLaws.{standing_in}
use Rattle.jf_replay.proofs.Taken.{one-follows, one-refused, group-follows, group-refused}
use Rattle.jf_replay.proofs.next.take_payload.Goals as goal

pub returns-then-kind-eq-COMMIT-clause-taken : goal.returns-then-kind-eq-COMMIT-clause-taken
returns-then-kind-eq-COMMIT-clause-taken g c =
    let fmt = c.args.format in
    on_ok_weaker c.take_landings.result (one-follows c.spelled_is_spelling.ensures fmt (standing_in fmt c.args.directory.now) (standing_in fmt c.take_landings.new.directory) c.args.kind c.args.payload.now c.if-kind-eq-COMMIT.true) c.take_landings.ensures.taken

pub returns-then-kind-eq-COMMIT-clause-unsound : goal.returns-then-kind-eq-COMMIT-clause-unsound
returns-then-kind-eq-COMMIT-clause-unsound g c = λ bad.
    one-refused c.spelled_is_spelling.ensures c.args.format (standing_in c.args.format c.args.directory.now) c.args.kind c.args.payload.now c.if-kind-eq-COMMIT.true (c.take_landings.ensures.unsound bad)

pub returns-then-kind-eq-GROUP-clause-taken : goal.returns-then-kind-eq-GROUP-clause-taken
returns-then-kind-eq-GROUP-clause-taken g c =
    let fmt = c.args.format in
    on_ok_weaker c.take_group.result (group-follows c.spelled_is_spelling.ensures fmt (standing_in fmt c.args.directory.now) (standing_in fmt c.take_group.new.directory) c.args.kind c.args.payload.now c.if-kind-eq-GROUP.true) c.take_group.ensures.taken

pub returns-then-kind-eq-GROUP-clause-unsound : goal.returns-then-kind-eq-GROUP-clause-unsound
returns-then-kind-eq-GROUP-clause-unsound g c = λ bad.
    group-refused c.spelled_is_spelling.ensures c.args.format (standing_in c.args.format c.args.directory.now) c.args.kind c.args.payload.now c.if-kind-eq-GROUP.true (c.take_group.ensures.unsound bad)

pub returns-in-Ok-Floor-clause-taken : goal.returns-in-Ok-Floor-clause-taken
returns-in-Ok-Floor-clause-taken g c =
    on_ok_weaker c.take_floor.result (λ t. («record».Floor c.in-Ok-Floor.floor, c.in-Ok-Floor.ensures.exact ∙ ap (λ x. Some x) c.in-Ok-Floor.field-0-is, t)) (c.take_floor.ensures.taken c.args.format)

pub returns-in-Ok-Floor-clause-unsound : goal.returns-in-Ok-Floor-clause-unsound
returns-in-Ok-Floor-clause-unsound g c = λ bad r s read takes.
    let same = same_Some («record».Floor c.in-Ok-Floor.floor) r (sym (c.in-Ok-Floor.ensures.exact ∙ ap (λ x. Some x) c.in-Ok-Floor.field-0-is) ∙ read) in
    c.take_floor.ensures.unsound c.args.format s bad (subst (λ x. TakesRecord c.args.format (standing_in c.args.format c.args.directory.now) x s) (sym same) takes)
