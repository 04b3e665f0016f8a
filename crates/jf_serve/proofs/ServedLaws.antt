-- The results of sessions over a store once it was closed.
use Rattle.std.proofs.Common.{◌≡◌, inl, inr, ℕ, zero, suc, ◌+◌, ◌<◌, ◌≤◌, true, false, Option, Some, IfSome, List, [], ◌∷◌, ◌++◌, map, length, refl, sym, ap, ◌∙◌, subst, arith, append_assoc, append-nil, length-append}
use mathlib.Core.Option as maybe
use Rattle.std.specs.Prelude.{slice_get}
use Rattle.std.specs.List.{AllByRecursion}
use Rattle.std.proofs.lemmas.List.{length-map}
use Rattle.jf_disk.specs.Disk.{History}
use Rattle.jf_model.specs.Entries.{replay, IsLegal}
use Rattle.jf_model.specs.declared.entries.Entry.{Entry}
use Rattle.jf_engine.specs.Engines.{Engine}
use Rattle.jf_turn.specs.Lists.{HasElement}
use Rattle.jf_turn.proofs.Lists.{has_cons}
use Rattle.jf_store.specs.Events.{attempt_of, is_marked}
use Rattle.jf_store.specs.Ledgers.{state_after_events}
use Rattle.jf_store.specs.Passes.{Store, Pass, IsPassOf, new_pass}
use Rattle.jf_store.specs.Closing.{IsClosed, AreAllPasses, ArePassesOf}
use Rattle.jf_store.proofs.EventLaws.{attempt_of-front, attempt_of-legal, for_attempt}
use Rattle.jf_answers.specs.Own.{begun_session}
use Rattle.jf_answers.specs.OwnLines.{is_own_line}
use Rattle.jf_answers.specs.Explains.{Timeline, LineReply, IsAttempt, next_line, own_after_replies, text_in, timeline_of}
use Rattle.jf_history.specs.Runs.{EndsBy}
use Rattle.jf_history.specs.Sparing.{SparesPinsSince}
use Rattle.jf_history.specs.Serving.{SessionOutcome, IsServed, AreServed, FailedIn, scripts_of, replies_of, passes_of}
use Rattle.jf_history.specs.Alone.{ServedAlone}
use Rattle.jf_history.specs.Laws.{ClosedExplains, ClosedTries, ClosedBlames, ClosedSparesPins, OneServedIsAlone}
use Rattle.jf_history.specs.declared.end.End.{End}
use Rattle.jf_history.specs.declared.end.End.TheVariants as end
use Rattle.jf_history.proofs.Closed.{pass_there}
use Rattle.jf_session.proofs.SamePass.{IsSamePass, same_of, same_further, same_by, own_after}
use Rattle.jf_serve.specs.Served.{max_output, ran_out_of_memory, out_of_memory_in, IsEndOf, AreEnded, ArePinsSpared, IsAloneIn, HasServed}
use Rattle.jf_serve.specs.Ran.{IsSessionEnd, SessionResults, HaveRunSessions}
use Rattle.jf_serve.proofs.AllServed.{ends_of, IsRunOf, run_of}

-- ---- passes

module _ (store : Store) (out_of_memory : List ℕ) where
  -- its pass is the one that it began with, and has seen more
  same_pass : (n : ℕ) (s : SessionOutcome) → IsServed store out_of_memory n s → IsSamePass (new_pass store n) s.pass
  same_pass n s served =
      subst (IsSamePass (new_pass store n)) (sym served.pass_is)
      (same_further (new_pass store n) served.mid.pass served.last.pass (same_of (new_pass store n) served.mid.pass served.answered.same) (same_by s.how store.start served.mid served.last served.next served.ends))

  -- so they are passes of the store
  pub all_own : (n : ℕ) (ss : List SessionOutcome) → AreServed store out_of_memory n ss → ArePassesOf store (passes_of ss)
  all_own n [] served p has = absurd (maybe.some-ne-none p (sym has.1))
  all_own n (s ∷ ss) served p has = elim (has_cons s.pass (passes_of ss) p has) as (λ o. IsPassOf p store) [
    | inl same ↦ subst (λ (q : Pass). IsPassOf q store) same (own_after store (new_pass store n) s.pass (refl, refl) (same_pass n s served.0))
    | inr later ↦ all_own (n + 1) ss served.1 p later
  ]

  -- and one of them has each number
  pub all_there : (n : ℕ) (ss : List SessionOutcome) → AreServed store out_of_memory n ss → (k : ℕ) → k < length ss → (p : Pass) × HasElement (passes_of ss) p × (p.number ≡ n + k)
  all_there n [] served k lt = absurd (omega arith)
  all_there n (s ∷ ss) served zero lt = (s.pass, (0, refl), (same_pass n s served.0).2 ∙ omega arith)
  all_there n (s ∷ ss) served (suc k) lt = let r = all_there (n + 1) ss served.1 k (omega arith) in (r.0, (suc r.1.0, r.1.1), r.2 ∙ omega arith)

-- ---- one session

module _ (store : Store) (out_of_memory : List ℕ) (n : ℕ) (s : SessionOutcome) (served : IsServed store out_of_memory n s) where
  -- unless it ran out of memory, all replies that it had were written
  told_all : ran_out_of_memory s.how ≡ false → s.replies ≡ served.had
  told_all enough = elim served.told as (λ o. s.replies ≡ served.had) [
    | inl same ↦ same
    | inr lost ↦ absurd (let memory : ran_out_of_memory s.how ≡ true = ap ran_out_of_memory lost.0 in cc)
  ]

  -- one that ended well answered all lines
  all_answered : s.how ≡ end.Done → length s.replies ≡ length s.script
  all_answered well =
      ap (λ (rs : List LineReply). length rs) (told_all (ap ran_out_of_memory well))
      ∙ served.answered.all
      ∙ sym (ap (λ (ls : List (List ℕ)). length ls) (served.first ∙ ap (λ (ls : List (List ℕ)). served.done ++ ls) (served.whole well) ∙ append-nil served.done))

  broken_by : s.how ≡ end.Broken → EndsBy end.Broken store.start served.mid served.last served.next
  broken_by broken = subst (λ (e : End). EndsBy e store.start served.mid served.last served.next) broken served.ends

  -- one that met the mark of an earlier call has seen it
  broken_marked : s.how ≡ end.Broken → is_marked s.pass.seen ≡ true
  broken_marked broken = ap (λ (p : Pass). is_marked p.seen) served.pass_is ∙ (broken_by broken).2.marked

  -- at a line that asks the store
  broken_asks : s.how ≡ end.Broken → (line : List ℕ) × (next_line s.script s.replies ≡ Some line) × (is_own_line line ≡ false)
  broken_asks broken =
      let b = broken_by broken in
      let there : next_line s.script served.had ≡ Some b.0 = subst (λ (o : Option (List ℕ)). IfSome o (λ line. next_line s.script served.had ≡ Some line)) b.1 served.next_is in
      (b.0, ap (next_line s.script) (told_all (ap ran_out_of_memory broken)) ∙ there, b.2.asks)

-- ---- one session alone
-- it is that of a session by itself
alone_served : (store : Store) → OneServedIsAlone → (all : List SessionOutcome) (entries : List Entry) (engine : Engine) → store.start.passes ≡ length all → (closed : IsClosed store.start (passes_of all) entries engine)
    → AreServed store (out_of_memory_in (ends_of all)) 0 all → AllByRecursion (λ s. IsSessionEnd s.how) all → store.start.state.count ≡ 0 → IsAloneIn store.start.state (scripts_of all) (map text_in (replies_of all)) (ends_of all) entries (attempt_of closed.events)
alone_served store lone [] entries engine passes closed served fine none = λ script is. absurd (let no : [] ≡ script ∷ [] = is in cc)
alone_served store lone (s ∷ []) entries engine passes closed served fine none = λ script is.
    let same : s.script ≡ script = (let both : s.script ∷ [] ≡ script ∷ [] = is in cc) in (
      s.how,
      refl,
      text_in s.replies,
      refl,
      subst (λ (ls : List (List ℕ)). ServedAlone s.how store.start.state ls entries (attempt_of closed.events) (text_in s.replies)) same
          (lone store s (out_of_memory_in (s.how ∷ [])) entries engine passes none (same_pass store (out_of_memory_in (s.how ∷ [])) 0 s served.0).2 (λ cut. subst IsSessionEnd cut fine.0) closed served.0),
    )
alone_served store lone (s ∷ t ∷ ss) entries engine passes closed served fine none = λ script is.
    absurd (let no : s.script ∷ t.script ∷ scripts_of ss ≡ script ∷ [] = is in cc)

-- ---- all sessions of a store that was closed

module _ (store : Store) (all : List SessionOutcome) (entries : List Entry) (engine : Engine) (passes : store.start.passes ≡ length all) (closed : IsClosed store.start (passes_of all) entries engine) (served : AreServed store (out_of_memory_in (ends_of all)) 0 all) where
  abbrev out_of_memory : List ℕ
  out_of_memory = out_of_memory_in (ends_of all)

  abbrev h : Timeline
  h = timeline_of store.start.state entries (scripts_of all)

  abbrev attempt : Option Entry
  attempt = attempt_of closed.events

  -- the mark that a session met is in the history
  marked_attempt : (s : SessionOutcome) → HasElement (passes_of all) s.pass → is_marked s.pass.seen ≡ true → (e : Entry) × (attempt ≡ Some e)
  marked_attempt s there marked =
      let begins = closed.seen s.pass there in
      let a = attempt_of-front s.pass.seen begins.0 marked in
      (a.0, ap attempt_of begins.1 ∙ a.1)

  there_in : (before after : List SessionOutcome) (s : SessionOutcome) → all ≡ before ++ s ∷ after → HasElement (passes_of all) s.pass
  there_in before after s split = subst (λ (xs : List SessionOutcome). HasElement (passes_of xs) s.pass) (sym split) (pass_there before s after)

  -- ---- how they ended
  fault_tried : ClosedTries → (before after : List SessionOutcome) (s : SessionOutcome) → all ≡ before ++ s ∷ after → s.how ≡ end.DiskFault → (e : Entry) × (attempt ≡ Some e) × IsAttempt h (length before) s.script s.replies e
  fault_tried tries before after s split fault =
      subst
      (λ (xs : List SessionOutcome). store.start.passes ≡ length xs → (c : IsClosed store.start (passes_of xs) entries engine) → AreServed store out_of_memory 0 xs
      → (e : Entry) × (attempt_of c.events ≡ Some e) × IsAttempt (timeline_of store.start.state entries (scripts_of xs)) (length before) s.script s.replies e)
      (sym split) (λ many c are. tries store before after s out_of_memory entries engine many c are fault) passes closed served

  end_is : ClosedTries → (before after : List SessionOutcome) (s : SessionOutcome) → all ≡ before ++ s ∷ after → IsServed store out_of_memory (length before) s → (how : End) → s.how ≡ how → IsSessionEnd how → IsEndOf h attempt (length before) s.script s.replies how
  end_is tries before after s split one end.Done is fine = all_answered store out_of_memory (length before) s one is
  end_is tries before after s split one end.ReadFault is fine = absurd fine
  end_is tries before after s split one end.WriteFault is fine = absurd fine
  end_is tries before after s split one end.DiskFault is fine = fault_tried tries before after s split is
  end_is tries before after s split one end.Broken is fine =
      let a = marked_attempt s (there_in before after s split) (broken_marked store out_of_memory (length before) s one is) in
      (a.0, a.1, broken_asks store out_of_memory (length before) s one is)
  end_is tries before after s split one end.Memory is fine = tt

  one_further : (before after : List SessionOutcome) (s : SessionOutcome) → all ≡ before ++ s ∷ after → all ≡ (before ++ s ∷ []) ++ after
  one_further before after s split = split ∙ sym (append_assoc before (s ∷ []) after)

  one_longer : (before : List SessionOutcome) (s : SessionOutcome) (n : ℕ) → n ≡ length before → n + 1 ≡ length (before ++ s ∷ [])
  one_longer before s n at = omega (arith, length-append before (s ∷ []))

  ended_from : ClosedTries → (n : ℕ) (before after : List SessionOutcome) → n ≡ length before → all ≡ before ++ after → AreServed store out_of_memory n after → AllByRecursion (λ s. IsSessionEnd s.how) after → AreEnded h attempt n (scripts_of after) (replies_of after) (ends_of after)
  ended_from tries n before [] at split are fine = tt
  ended_from tries n before (s ∷ after) at split are fine = (
    subst (λ (k : ℕ). IsEndOf h attempt k s.script s.replies s.how) (sym at) (end_is tries before after s split (subst (λ (k : ℕ). IsServed store out_of_memory k s) at are.0) s.how refl fine.0),
    ended_from tries (n + 1) (before ++ s ∷ []) after (one_longer before s n at) (one_further before after s split) are.1 fine.1,
  )

  -- ---- what they have pinned
  pins_spared : ClosedSparesPins → (before after : List SessionOutcome) (s : SessionOutcome) → all ≡ before ++ s ∷ after → IsServed store out_of_memory (length before) s → (g : History) → engine.history ≡ Some g → ran_out_of_memory s.how ≡ false
      → SparesPinsSince store.start.moment g (own_after_replies (begun_session (length before)) s.replies)
  pins_spared spares before after s split one g told enough =
      subst (λ (rs : List LineReply). SparesPinsSince store.start.moment g (own_after_replies (begun_session (length before)) rs)) (sym (told_all store out_of_memory (length before) s one enough))
      (spares store before after s out_of_memory entries engine (subst (λ (xs : List SessionOutcome). IsClosed store.start (passes_of xs) entries engine) split closed) one g told)

  spared_from : ClosedSparesPins → (g : History) → engine.history ≡ Some g → (n : ℕ) (before after : List SessionOutcome) → n ≡ length before → all ≡ before ++ after → AreServed store out_of_memory n after → ArePinsSpared store.start.moment g n (replies_of after) (ends_of after)
  spared_from spares g told n before [] at split are = tt
  spared_from spares g told n before (s ∷ after) at split are = (
    subst (λ (k : ℕ). ran_out_of_memory s.how ≡ false → SparesPinsSince store.start.moment g (own_after_replies (begun_session k) s.replies)) (sym at)
        (λ enough. pins_spared spares before after s split (subst (λ (k : ℕ). IsServed store out_of_memory k s) at are.0) g told enough),
    spared_from spares g told (n + 1) (before ++ s ∷ []) after (one_longer before s n at) (one_further before after s split) are.1,
  )

  -- ---- where the disk failed
  end_at : (before after : List SessionOutcome) (s : SessionOutcome) (how : End) → s.how ≡ how → slice_get (ends_of (before ++ s ∷ after)) (length before) ≡ Some how
  end_at [] after s how is = ap (λ e. Some e) is
  end_at (x ∷ before) after s how is = end_at before after s how is

  fault_there : (e : Entry) → FailedIn store.start.state entries all e → (n : ℕ) × (slice_get (ends_of all) n ≡ Some end.DiskFault)
  fault_there e f = (length f.before, ap (λ (xs : List SessionOutcome). slice_get (ends_of xs) (length f.before)) f.split ∙ end_at f.before f.after f.failed end.DiskFault f.fault)

  -- ---- the whole
  served_closed : ClosedExplains → ClosedTries → ClosedBlames → ClosedSparesPins → OneServedIsAlone → AllByRecursion (λ s. IsSessionEnd s.how) all → AllByRecursion (λ t. length t ≤ max_output) (map text_in (replies_of all))
      → HasServed store.start (scripts_of all) (map text_in (replies_of all)) (ends_of all) entries engine
  served_closed explains tries blames spares lone fine short = record {
    attempt = attempt;
    replies = replies_of all;
    outputs_are = refl;
    short = short;
    explained = explains store all out_of_memory entries engine passes closed served;
    ended = ended_from tries 0 [] all refl refl served fine;
    tried = for_attempt attempt (λ e. (n : ℕ) × (slice_get (ends_of all) n ≡ Some end.DiskFault)) (λ e is. fault_there e (blames store all out_of_memory entries engine e passes closed served is));
    legal = subst (λ (es : List Entry). IfSome attempt (IsLegal (replay store.start.state es))) (sym closed.entries_are) (attempt_of-legal (state_after_events store.start closed.events) closed.events closed.history.marked);
    kept = closed.kept;
    spared = λ g told. spared_from spares g told 0 [] all refl refl served;
    grows = closed.grows;
    unknown = closed.unknown;
    alone = λ none. alone_served store lone all entries engine passes closed served fine none;
  }

-- ---- what was gathered

module _ (store : Store) (scripts : List (List (List ℕ))) (g : SessionResults) (ran : HaveRunSessions store 0 scripts g) where
  abbrev run : IsRunOf store (out_of_memory_in g.ends) 0 scripts g.ends g.texts g.passes
  run = run_of store (out_of_memory_in g.ends) 0 scripts g.ends g.texts g.passes (λ k h. h) ran

  pub passes_own : ArePassesOf store g.passes
  passes_own = subst (ArePassesOf store) run.passes_are (all_own store (out_of_memory_in g.ends) 0 run.ss run.served)

  as_many : length scripts ≡ length run.ss
  as_many = sym (ap (λ (xs : List (List (List ℕ))). length xs) run.scripts_are) ∙ length-map run.ss (λ (s : SessionOutcome). s.script)

  pub passes_all : store.start.passes ≡ length scripts → AreAllPasses store g.passes
  passes_all many n below =
      let r = all_there store (out_of_memory_in g.ends) 0 run.ss run.served n (let m = as_many in omega arith) in
      (r.0, subst (λ (ps : List Pass). HasElement ps r.0) run.passes_are r.1, r.2 ∙ omega arith)

  pub has_served : (entries : List Entry) (engine : Engine) → store.start.passes ≡ length scripts → IsClosed store.start g.passes entries engine → ClosedExplains → ClosedTries → ClosedBlames → ClosedSparesPins → OneServedIsAlone
      → HasServed store.start scripts g.texts g.ends entries engine
  has_served entries engine many closed explains tries blames spares lone =
      let closed' = subst (λ (ps : List Pass). IsClosed store.start ps entries engine) (sym run.passes_are) closed in
      let served' = subst (λ (es : List End). AreServed store (out_of_memory_in es) 0 run.ss) (sym run.ends_are) run.served in
      let whole = served_closed store run.ss entries engine (many ∙ as_many) closed' served' explains tries blames spares lone run.fine (subst (AllByRecursion (λ t. length t ≤ max_output)) (sym run.texts_are) run.short) in
      subst (λ (es : List End). HasServed store.start scripts g.texts es entries engine) run.ends_are
      (subst (λ (ts : List (List ℕ)). HasServed store.start scripts ts (ends_of run.ss) entries engine) run.texts_are
      (subst (λ (xs : List (List (List ℕ))). HasServed store.start xs (map text_in (replies_of run.ss)) (ends_of run.ss) entries engine) run.scripts_are whole))
