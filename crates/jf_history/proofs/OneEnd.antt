-- The end of a session that is alone on its store.
use Rattle.std.proofs.Common.{◌≡◌, ℕ, ◌<◌, Option, Some, None, List, [], ◌∷◌, ◌++◌, map, refl, sym, ap, ◌∙◌, subst, arith}
use Rattle.jf_model.specs.Entries.{replay, timeless}
use Rattle.jf_store.specs.declared.event.Event.{Event}
use Rattle.jf_store.specs.declared.event.Event.TheVariants.{Mark}
use Rattle.jf_store.specs.Events.{entries_among, attempt_of}
use Rattle.jf_store.specs.Ledgers.{AreEvents}
use Rattle.jf_store.specs.Passes.{Store, Pass, new_pass}
use Rattle.jf_store.proofs.EventLaws.{entries_of-mark, attempt_of-none}
use Rattle.jf_answers.specs.Explains.{LineReply}
use Rattle.jf_history.specs.Sessions.{Session, seen_by, IsTry}
use Rattle.jf_history.specs.Runs.{HasAnswered, IsAtRest}
use Rattle.jf_history.specs.Alone.{AnswersAlone}
use Rattle.jf_history.specs.declared.end.End.{End}
use Rattle.jf_history.specs.declared.end.End.TheVariants as end
use Rattle.jf_history.specs.Laws.{OneEndIsAlone}
use Rattle.jf_history.proofs.OnePass.{alone, one_pass_adds}
use Rattle.jf_history.proofs.OneSession.{AreEvents-before, one_session_is_alone, one_session_tries, one_session_is_never_broken}

module _ (store : Store) (mid last : Session) (ls : List (List ℕ)) (rs : List LineReply) (one : store.start.passes ≡ 1) (are : AreEvents store.start last.pass.seen) (a : HasAnswered store.start (new_pass store 0) mid ls rs) where
  below : mid.pass.number < store.start.passes
  below = let number : mid.pass.number ≡ 0 = ap (λ (p : Pass). p.number) a.same in omega arith

  -- a session that is at rest has seen nothing more
  pub rest_seen : (next : Option (List ℕ)) → IsAtRest mid last next → last.pass.seen ≡ mid.pass.seen
  rest_seen None h = ap (λ (s : Session). s.pass.seen) h
  rest_seen (Some line) h = alone store.start mid.pass last.pass.seen one below are.named h.follows.begins h.others

  rest_own : (next : Option (List ℕ)) → IsAtRest mid last next → last.own ≡ mid.own
  rest_own None h = ap (λ (s : Session). s.own) h
  rest_own (Some line) h = h.own

  -- nor one at a fault of the disk, but for the mark
  module _ (line : List ℕ) (t : IsTry store.start mid last line) where
    try_seen : last.pass.seen ≡ t.before ++ Mark mid.pass.number t.attempt ∷ []
    try_seen = ap (λ (p : Pass). p.seen) t.sees.last

    try_same : t.before ≡ mid.pass.seen
    try_same = one_pass_adds store.start mid.pass last.pass t.before (Mark mid.pass.number t.attempt) one below are t.sees

    try_entries : seen_by last.pass ≡ seen_by mid.pass
    try_entries = ap entries_among try_seen ∙ entries_of-mark t.before mid.pass.number t.attempt ∙ ap entries_among try_same

    try_before : AreEvents store.start mid.pass.seen
    try_before = subst (AreEvents store.start) try_same (AreEvents-before store.start t.before mid.pass.number t.attempt (subst (AreEvents store.start) try_seen are) t.sees.unmarked)

  -- the lines done are answered as by a session by itself
  module _ (none : store.start.state.count ≡ 0) where
    still_alone : AreEvents store.start mid.pass.seen → seen_by last.pass ≡ seen_by mid.pass → last.own ≡ mid.own → AnswersAlone store.start.state last ls rs
    still_alone before same own =
        let g = one_session_is_alone store mid ls rs one none before a in
        record { texts = g.texts; entries = ap (map timeless) same ∙ g.entries; state = ap (replay store.start.state) same ∙ g.state; own = own ∙ g.own }

    rest_alone : (next : Option (List ℕ)) → IsAtRest mid last next → AnswersAlone store.start.state last ls rs × (attempt_of last.pass.seen ≡ None)
    rest_alone next h =
        let same = rest_seen next h in (
          still_alone (subst (AreEvents store.start) same are) (ap entries_among same) (rest_own next h),
          ap attempt_of same ∙ attempt_of-none mid.pass.seen a.unmarked,
        )

pub one_end_is_alone : OneEndIsAlone
one_end_is_alone store end.Done mid last ls rs next one none are a d = rest_alone store mid last ls rs one are a none None d.0
one_end_is_alone store end.ReadFault mid last ls rs next one none are a d = rest_alone store mid last ls rs one are a none None d.0
one_end_is_alone store end.WriteFault mid last ls rs next one none are a d = rest_alone store mid last ls rs one are a none next d
one_end_is_alone store end.DiskFault mid last ls rs next one none are a d =
    let t = d.2 in (
      still_alone store mid last ls rs one are a none (try_before store mid last ls rs one are a d.0 t) (try_entries store mid last ls rs one are a d.0 t) t.own,
      (d.0, d.1, one_session_tries store mid last ls rs d.0 one none are a t),
    )
one_end_is_alone store end.Broken mid last ls rs next one none are a d = absurd (one_session_is_never_broken store mid last ls rs d.0 one are a d.2)
one_end_is_alone store end.Memory mid last ls rs next one none are a d = rest_alone store mid last ls rs one are a none next d
