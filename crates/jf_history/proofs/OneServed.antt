-- A session that was given a script, and was alone on its store until that was closed.
use Rattle.std.specs.Prelude.{IfSome, slice_get}
use Rattle.std.specs.List.{concat}
use Rattle.std.proofs.Common.{◌≡◌, ℕ, ◌+◌, ◌-◌, ◌<◌, ◌≤◌, min, Option, Some, None, List, [], ◌∷◌, ◌++◌, map, take, drop, length, refl, sym, ap, ◌∙◌, subst, arith, inl, inr, append_assoc, take-append-drop}
use Rattle.std.proofs.lemmas.List.{length-take, take-map}
use Rattle.jf_model.specs.Entries.{replay, timeless}
use Rattle.jf_model.specs.declared.entries.Entry.{Entry}
use Rattle.jf_engine.specs.Engines.{Engine}
use Rattle.jf_store.specs.declared.event.Event.{Event}
use Rattle.jf_store.specs.Events.{entries_among, attempt_of}
use Rattle.jf_store.specs.Ledgers.{AreEvents}
use Rattle.jf_store.specs.Passes.{Store, Pass, new_pass}
use Rattle.jf_store.specs.Closing.{IsClosed}
use Rattle.jf_store.proofs.EventLaws.{attempt_of-none}
use Rattle.jf_answers.specs.Own.{begun_session}
use Rattle.jf_answers.specs.Runs.{answers, texts_of, text_of}
use Rattle.jf_answers.specs.Explains.{LineReply, text_in}
use Rattle.jf_history.specs.Sessions.{seen_by}
use Rattle.jf_history.specs.Runs.{EndsBy, IsAtRest}
use Rattle.jf_history.specs.Alone.{WritesAlone, TriesAlone, ServedAlone}
use Rattle.jf_history.specs.Serving.{SessionOutcome, IsServed, LosesReplies}
use Rattle.jf_history.specs.declared.end.End.{End}
use Rattle.jf_history.specs.declared.end.End.TheVariants as end
use Rattle.jf_history.specs.Laws.{OneServedIsAlone}
use Rattle.jf_history.proofs.OnePass.{one_pass_closes}
use Rattle.jf_history.proofs.OneEnd.{rest_seen, one_end_is_alone}
use Rattle.jf_history.proofs.OneRun.{agrees_first, texts_of-take, take-take}

module _ (store : Store) (s : SessionOutcome) (out_of_memory : List ℕ) (entries : List Entry) (engine : Engine) (one : store.start.passes ≡ 1) (none : store.start.state.count ≡ 0) (number : s.pass.number ≡ 0)
    (closed : IsClosed store.start (s.pass ∷ []) entries engine) (r : IsServed store out_of_memory 0 s) where
  -- the store's history is what the session has seen in the end
  last_is : closed.events ≡ r.last.pass.seen
  last_is = one_pass_closes store.start s.pass entries engine one (omega arith) closed ∙ ap (λ (p : Pass). p.seen) r.pass_is

  are : AreEvents store.start r.last.pass.seen
  are = subst (λ (xs : List Event). AreEvents store.start xs) last_is closed.history

  entries_same : entries ≡ seen_by r.last.pass
  entries_same = closed.entries_are ∙ ap entries_among last_is

  module _ (how : End) (is : s.how ≡ how) where
    ends : EndsBy how store.start r.mid r.last r.next
    ends = subst (λ (e : End). EndsBy e store.start r.mid r.last r.next) is r.ends

    -- all replies were written
    all_told : s.replies ≡ r.had → (text_in s.replies ≡ text_of (answers store.start.state r.done) → WritesAlone how store.start.state r.done (text_in s.replies))
        → ServedAlone how store.start.state s.script entries (attempt_of closed.events) (text_in s.replies)
    all_told told writes =
        let g = one_end_is_alone store how r.mid r.last r.done r.had r.next one none are r.answered ends in
        record {
          done = r.done;
          more = r.rest;
          next = r.next;
          first = r.first;
          whole = λ well. r.whole (is ∙ well);
          next_is = subst (λ (n : ℕ). IfSome r.next (λ line. slice_get s.script n ≡ Some line)) r.answered.all r.next_is;
          entries_are = ap (map timeless) entries_same ∙ g.0.entries;
          state = ap (replay store.start.state) entries_same ∙ g.0.state;
          tried = subst (λ (xs : List Event). TriesAlone how (answers store.start.state r.done) r.next (attempt_of xs)) (sym last_is) g.1;
          writes = writes (ap text_in told ∙ ap concat g.0.texts);
        }

  -- memory ran out, and the reply to the last line that counts was lost
  reply_lost : IsAtRest r.mid r.last r.next → LosesReplies r.had s.replies → ServedAlone end.Memory store.start.state s.script entries (attempt_of closed.events) (text_in s.replies)
  reply_lost at_rest lost =
      let n : ℕ = lost.count + 1 in
      let start = store.start.state in
      let same : r.last.pass.seen ≡ r.mid.pass.seen = rest_seen store r.mid r.last r.done r.had one are r.answered r.next at_rest in
      let g = agrees_first store r.mid r.done r.had one none (subst (λ (xs : List Event). AreEvents store.start xs) same are) r.answered n lost.quiet in
      let here : entries ≡ seen_by r.mid.pass = entries_same ∙ ap entries_among same in
      let many : length (take n r.done) - 1 ≡ lost.count = (let within = lost.within in let all = r.answered.all in omega (arith, length-take n r.done)) in
      let fewer : texts_of (answers start (take (length (take n r.done) - 1) (take n r.done))) ≡ map (λ (a : LineReply). a.text) (take lost.count r.had) =
      texts_of-take start (begun_session 0) (length (take n r.done) - 1) (take n r.done) ∙ ap (λ k. take k (texts_of (answers start (take n r.done)))) many
      ∙ ap (take lost.count) (sym g.texts) ∙ take-map (λ (a : LineReply). a.text) lost.count (take n r.had) ∙ ap (map (λ (a : LineReply). a.text)) (take-take lost.count n r.had (omega arith)) in
      record {
        done = take n r.done;
        more = drop n r.done ++ r.rest;
        next = None;
        first = r.first ∙ ap (λ (ls : List (List ℕ)). ls ++ r.rest) (sym (take-append-drop n r.done)) ∙ append_assoc (take n r.done) (drop n r.done) r.rest;
        whole = λ well. absurd (let never : end.Memory ≡ end.Done = well in cc);
        next_is = tt;
        entries_are = ap (map timeless) here ∙ g.entries;
        state = ap (replay start) here ∙ g.state;
        tried = ap attempt_of (last_is ∙ same) ∙ attempt_of-none r.mid.pass.seen r.answered.unmarked;
        writes = inr (ap text_in lost.told_are ∙ sym (ap concat fewer));
      }

  -- only one that ran out of memory lost replies
  told_if : (how : End) → s.how ≡ how → (how ≡ end.Memory → ⊥) → s.replies ≡ r.had
  told_if how is enough = elim r.told as (λ o. s.replies ≡ r.had) [ inl same ↦ same | inr lost ↦ absurd (enough (sym is ∙ lost.0)) ]

  by : (how : End) → s.how ≡ how → (how ≡ end.WriteFault → ⊥) → ServedAlone how store.start.state s.script entries (attempt_of closed.events) (text_in s.replies)
  by end.Done is silent = all_told end.Done is (told_if end.Done is (λ e. let no : end.Done ≡ end.Memory = e in cc)) (λ t. t)
  by end.ReadFault is silent = all_told end.ReadFault is (told_if end.ReadFault is (λ e. let no : end.ReadFault ≡ end.Memory = e in cc)) (λ t. t)
  by end.WriteFault is silent = absurd (silent refl)
  by end.DiskFault is silent = all_told end.DiskFault is (told_if end.DiskFault is (λ e. let no : end.DiskFault ≡ end.Memory = e in cc)) (λ t. t)
  by end.Broken is silent = absurd (one_end_is_alone store end.Broken r.mid r.last r.done r.had r.next one none are r.answered (ends end.Broken is)).1
  by end.Memory is silent = elim r.told [ inl same ↦ all_told end.Memory is same (λ t. inl t) | inr lost ↦ reply_lost (ends end.Memory is) lost.2 ]

pub one_served_is_alone : OneServedIsAlone
one_served_is_alone store s out_of_memory entries engine one none number silent closed r = by store s out_of_memory entries engine one none number closed r s.how refl silent
