-- The lines of a script that were done so far, and how a run ends after them.
use Rattle.std.proofs.Common.{◌≡◌, ◌⊎◌, inl, inr, ℕ, ◌+◌, ◌<◌, ◌≤◌, ◌^◌, Bool, true, false, Option, Some, None, option_map, List, [], ◌∷◌, ◌++◌, length, refl, sym, ap, ◌∙◌, subst, append_assoc, append-nil, length-append, arith}
use Rattle.std.proofs.lemmas.List.{map-append, length-map}
use Rattle.std.proofs.lemmas.List.Sums.{count_by-le-length}
use Rattle.jf_io.specs.Sink.{IsCutShort}
use Rattle.jf_store.specs.Events.{is_marked}
use Rattle.jf_store.specs.Starts.{Start}
use Rattle.jf_store.specs.Passes.{Store, Pass, IsPassOf}
use Rattle.jf_answers.specs.Explains.{LineReply}
use Rattle.jf_history.specs.Sessions.{Session, HoldsPins, new_session, HasReplied, IsTry, IsBroken, HasDoneNothing}
use Rattle.jf_history.specs.Runs.{HasAnswered, EndsBy}
use Rattle.jf_history.specs.declared.end.End.{End}
use Rattle.jf_history.specs.declared.end.End.TheVariants as end
use Rattle.jf_history.proofs.Steps.{none_answered, one_more_answered}
use Rattle.jf_generate.specs.Scripts.{max_lines}
use Rattle.jf_generate.specs.Places.{GivesNext}
use Rattle.jf_generate.specs.Reports.{Tally, tally_of, is_refused, tally_text}
use Rattle.jf_session.specs.Taking.{end_of_stop}
use Rattle.jf_session.specs.declared.stop.Stop.{Stop}
use Rattle.jf_session.specs.declared.stop.Stop.TheVariants as stop
use Rattle.jf_workload.specs.ScriptRuns.{WritesReport, HasRunScript, HasTallied, HasReported, reply_texts}

-- ---- the call for the next line

-- if there was one, it is the first of those to come
pub next_there : (ls after : List (List ℕ)) (line given : List ℕ) (there : Bool) → GivesNext ls after [] line there → there ≡ true → given ≡ line → ls ≡ given ∷ after
next_there [] after line given there g test is = let none : there ≡ false = g.0 in absurd (cc)
next_there (l ∷ ls) after line given there g test is = let same : after ≡ ls = g.1 in let first : line ≡ l = g.2 in cc

-- and if not, none is to come
pub next_none : (ls after : List (List ℕ)) (line : List ℕ) (there : Bool) → GivesNext ls after [] line there → there ≡ false → ls ≡ []
next_none [] after line there g test = refl
next_none (l ∷ ls) after line there g test = let some : there ≡ true = g.0 in absurd (cc)

-- ---- the lines done

-- a session over a pass of a store has answered the first lines of a script, and may go on with those that are left
pub record SoFar (store : Store) (old : Pass) (script left : List (List ℕ)) (now : Session) (kept : Tally) : Type 0 where
  pub done : List (List ℕ)
  pub split : script ≡ done ++ left
  pub tallied : HasTallied store.start old now done kept
  pub begun : now.over ≡ false
  pub own : IsPassOf now.pass store

-- before the first line
pub so_far_none : (store : Store) (script : List (List ℕ)) (now : Session) (kept : Tally) → IsPassOf now.pass store → now ≡ new_session now.pass → is_marked now.pass.seen ≡ false → HoldsPins now → kept ≡ tally_of [] → SoFar store now.pass script script now kept
so_far_none store script now kept own new unmarked pins none = record {
  done = [];
  split = refl;
  tallied = record {
    replies = [];
    answered = subst (λ (s : Session). HasAnswered store.start now.pass s [] []) (sym new) (none_answered store.start now.pass unmarked (subst HoldsPins new pins));
    kept_is = none;
  };
  begun = ap (λ (s : Session). s.over) new;
  own = own;
}

module _ {store : Store} {old : Pass} {script left : List (List ℕ)} {now : Session} {kept : Tally} (f : SoFar store old script left now kept) where
  -- so few lines were done that one refusal more can be counted
  pub few_refused : length script ≤ max_lines → kept.refused + 1 < 2 ^ 64
  few_refused few =
      let rs = f.tallied.replies in
      let refused : kept.refused ≡ (tally_of (reply_texts rs)).refused = ap (λ (k : Tally). k.refused) f.tallied.kept_is in
      let most = count_by-le-length is_refused (reply_texts rs) in
      let texts = length-map rs (λ (a : LineReply). a.text) in
      let all = f.tallied.answered.all in
      omega (arith, ap (λ (ls : List (List ℕ)). length ls) f.split, length-append f.done left)

  -- with none left, all were answered
  pub all_tallied : left ≡ [] → HasTallied store.start old now script kept
  all_tallied none = subst (λ (ls : List (List ℕ)). HasTallied store.start old now ls kept) (sym (f.split ∙ ap (λ (ls : List (List ℕ)). f.done ++ ls) none ∙ append-nil f.done)) f.tallied

  -- memory ran out, and no line was started after those done
  pub ended_between : (text : Option (List ℕ)) → HasRunScript end.Memory store.start script old now.pass text text
  ended_between text = record {
    done = f.done;
    replies = f.tallied.replies;
    next = None;
    more = left;
    mid = now;
    last = now;
    answered = f.tallied.answered;
    ends = refl;
    pass_is = refl;
    first = f.split;
    writes = refl;
  }

  -- ---- the next line
  module _ (line : List ℕ) (left' : List (List ℕ)) (next : left ≡ line ∷ left') where
    split_next : script ≡ f.done ++ line ∷ left'
    split_next = f.split ∙ ap (λ (ls : List (List ℕ)). f.done ++ ls) next

    split_more : script ≡ (f.done ++ line ∷ []) ++ left'
    split_more = split_next ∙ sym (append_assoc f.done (line ∷ []) left')

    answered_more : (new : Session) (r : LineReply) → HasReplied store.start now new line r → HasAnswered store.start old new (f.done ++ line ∷ []) (f.tallied.replies ++ r ∷ [])
    answered_more new r replied = one_more_answered store.start old now new f.done f.tallied.replies line r f.tallied.answered replied

    -- it was answered, and its reply counted
    pub so_far_more : (new : Session) (kept' : Tally) (r : LineReply) (text : List ℕ) → HasReplied store.start now new line r → text ≡ r.text → ((texts : List (List ℕ)) → kept ≡ tally_of texts → kept' ≡ tally_of (texts ++ text ∷ []))
        → new.over ≡ false → IsPassOf new.pass store → SoFar store old script left' new kept'
    so_far_more new kept' r text replied is counted over own =
        let rs = f.tallied.replies in
        let more : reply_texts rs ++ text ∷ [] ≡ reply_texts (rs ++ r ∷ []) = ap (λ (x : List ℕ). reply_texts rs ++ x ∷ []) is ∙ sym (map-append (λ (a : LineReply). a.text) rs (r ∷ [])) in
        record {
          done = f.done ++ line ∷ [];
          split = split_more;
          tallied = record { replies = rs ++ r ∷ []; answered = answered_more new r replied; kept_is = counted (reply_texts rs) f.tallied.kept_is ∙ ap tally_of more };
          begun = over;
          own = own;
        }

    -- it was answered, and memory ran out before its reply was counted
    pub ended_uncounted : (new : Session) (r : LineReply) → HasReplied store.start now new line r → (text : Option (List ℕ)) → HasRunScript end.Memory store.start script old new.pass text text
    ended_uncounted new r replied text = record {
      done = f.done ++ line ∷ [];
      replies = f.tallied.replies ++ r ∷ [];
      next = None;
      more = left';
      mid = new;
      last = new;
      answered = answered_more new r replied;
      ends = refl;
      pass_is = refl;
      first = split_more;
      writes = refl;
    }

    -- the session ended at it
    ended_in : (e : End) (new : Session) (text : Option (List ℕ)) → EndsBy e store.start now new (Some line) → WritesReport e script f.done (reply_texts f.tallied.replies) text text → HasRunScript e store.start script old new.pass text text
    ended_in e new text ends writes = record {
      done = f.done;
      replies = f.tallied.replies;
      next = Some line;
      more = left';
      mid = now;
      last = new;
      answered = f.tallied.answered;
      ends = ends;
      pass_is = refl;
      first = split_next;
      writes = writes;
    }

    pub ended_at : (why : Stop) (new : Session) → (why ≡ stop.DiskFault → IsTry store.start now new line) → (why ≡ stop.Broken → IsBroken now new line) → (why ≡ stop.Memory → HasDoneNothing now new line ⊎ ((r : LineReply) × HasReplied store.start now new line r))
        → (text : Option (List ℕ)) → HasRunScript (end_of_stop why) store.start script old new.pass text text
    ended_at stop.DiskFault new fault broken memory text = ended_in end.DiskFault new text (line, refl, fault refl) refl
    ended_at stop.Broken new fault broken memory text = ended_in end.Broken new text (line, refl, broken refl) refl
    ended_at stop.Memory new fault broken memory text = elim (memory refl) [ inl idle ↦ ended_in end.Memory new text idle refl | inr r ↦ ended_uncounted new r.0 r.1 text ]

-- ---- all lines

-- the report was written as far as the end says
module _ (start : Start) (script : List (List ℕ)) (old : Pass) (now : Session) (kept : Tally) (text text' : Option (List ℕ)) (t : HasTallied start old now script kept) where
  ended_whole : (e : End) → EndsBy e start now now None → WritesReport e script script (reply_texts t.replies) text text' → HasRunScript e start script old now.pass text text'
  ended_whole e ends writes = record {
    done = script;
    replies = t.replies;
    next = None;
    more = [];
    mid = now;
    last = now;
    answered = t.answered;
    ends = ends;
    pass_is = refl;
    first = sym (append-nil script);
    writes = writes;
  }

  pub ended_reported : (e : End) → HasReported e (tally_text kept) text text' → HasRunScript e start script old now.pass text text'
  ended_reported end.Done w = ended_whole end.Done (refl, refl) (refl, subst (λ (k : Tally). text' ≡ option_map (λ x. x ++ tally_text k) text) t.kept_is w)
  ended_reported end.ReadFault w = absurd w
  ended_reported end.WriteFault w = ended_whole end.WriteFault refl (refl, subst (λ (k : Tally). IsCutShort text text' (tally_text k)) t.kept_is w)
  ended_reported end.DiskFault w = absurd w
  ended_reported end.Broken w = absurd w
  ended_reported end.Memory w = ended_whole end.Memory refl w
