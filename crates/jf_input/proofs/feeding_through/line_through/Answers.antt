use Rattle.std.proofs.Common.{◌≡◌, ◌<◌, ◌⊎◌, List, ℕ, [], ◌++◌, length, subst, ap, ◌∙◌}
use Rattle.jf_input.specs.Feeds.{max_gathered}
use Rattle.jf_input.specs.FeedsThrough.{IsPutNext}
use Rattle.jf_input.proofs.Gathering.{gathers_line, from_test}
use Rattle.jf_input.proofs.PutThrough.{put_next_next, handed_all}
use Rattle.jf_input.proofs.feeding_through.line_through.Goals as goal

pub returns-in-Ok-clause-ok : goal.returns-in-Ok-clause-ok
returns-in-Ok-clause-ok g c =
    let p = c.put_through_if.ensures.put in
    let t = c.in-Ok.ensures.ok in (
      p.0,
      p.1,
      λ whole given.
          let step = t.2 whole given in
          let known : (g.M.LineMachine.quiet c.args.machine.now c.take_line.new.self × (length c.args.out.now < max_gathered)) ⊎ (c.put_through_if.new.out ≡ []) = from_test c.is_due_before-is_due.result
          (λ no. let few = c.is_due_before-is_due.ensures no in (few.0 whole given _ _ step, few.1)) c.put_through_if.ensures.empty in
          (t.0, step, gathers_line g.M.LineMachine.quiet p.2 known t.1),
    )

pub returns-in-Err-clause-put : goal.returns-in-Err-clause-put
returns-in-Err-clause-put g c =
    let p = c.put_through_if.ensures.put in
    let all = ap (λ x. p.0 ++ x) c.in-Err.ensures.silent ∙ handed_all p.2 in
    subst (λ (x : List ℕ). IsPutNext c.args.is_cut.now c.put_through.new.is_cut (g.K.Sink.text c.args.sink.now) (g.K.Sink.text c.put_through.new.sink) x) all (put_next_next _ _ _ _ _ _ p.0 _ p.1 c.put_through.ensures.put)
