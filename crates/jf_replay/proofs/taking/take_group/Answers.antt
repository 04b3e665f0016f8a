use Rattle.std.proofs.Common.{length, sym, ap, ◌∙◌, arith, ℕ, List}
use Rattle.std.proofs.lemmas.Result.{on_ok_weaker}
use Rattle.jf_codec.proofs.FieldLaws.{ok_is}
use Rattle.jf_standing.specs.FormatLaws.{standing_in}
use Rattle.jf_replay.proofs.Taken.{group_read, group_taken}
use Rattle.jf_replay.proofs.taking.take_group.Goals as goal
use Rattle.jf_replay.proofs.taking.take_group.Goals.{then-count-lt2-via-then-count-lt2, then-count-lt2-via-else-count-lt2+then-count-gt-MAX_FORKS}

pub returns-in_default-clause-unsound : goal.returns-in_default-clause-unsound
returns-in_default-clause-unsound g c = λ is cs s group spelled takes. absurd (let both = sym (group_read c.args.format c.args.bytes.now cs group spelled) ∙ c.in_default.ensures in cc)

pub returns-then-count-lt2-clause-unsound : goal.returns-then-count-lt2-clause-unsound
returns-then-count-lt2-clause-unsound g c = λ is cs s group spelled takes.
    let same = ap (λ (p : ℕ × List ℕ). p.0) (ok_is (c.in-Ok.count, c.in-Ok.landings.now) (length cs, _) (sym c.in-Ok.ensures ∙ group_read c.args.format c.args.bytes.now cs group spelled)) in
    let many = group.many in
    let few = group.few in
    elim c.then-count-lt2.branch [
      | then-count-lt2-via-then-count-lt2 w ↦ let t = w.if-count-lt2.true in omega (arith, same, many, t)
      | then-count-lt2-via-else-count-lt2+then-count-gt-MAX_FORKS w ↦ let t = w.if-count-gt-MAX_FORKS.true in omega (arith, same, few, t)
    ]

pub returns-clause-taken : goal.returns-clause-taken
returns-clause-taken g c =
    let fmt = c.args.format in
    on_ok_weaker c.take_landings.result
    (group_taken fmt (standing_in fmt c.args.directory.now) (standing_in fmt c.take_landings.new.directory) c.args.bytes.now c.in-Ok.landings.now c.in-Ok.count (λ i. omega (arith, c.type_inv.bytes i)) c.in-Ok.ensures c.if-count-lt2.false c.if-count-gt-MAX_FORKS.false)
    c.take_landings.ensures.taken

pub returns-clause-unsound : goal.returns-clause-unsound
returns-clause-unsound g c = λ is cs s group spelled takes.
    let same = ok_is (c.in-Ok.count, c.in-Ok.landings.now) (length cs, _) (sym c.in-Ok.ensures ∙ group_read c.args.format c.args.bytes.now cs group spelled) in
    c.take_landings.ensures.unsound is cs s (sym (ap (λ (p : ℕ × List ℕ). p.0) same)) group.commits (ap (λ (p : ℕ × List ℕ). p.1) same) takes
