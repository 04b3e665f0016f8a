-- The lines of a script that a session has answered so far, and its result if it ends after them.
use Rattle.std.proofs.Common.{◌≡◌, ◌⊎◌, inl, inr, ◌≤◌, ℕ, false, Some, None, List, [], ◌∷◌, ◌++◌, length, refl, sym, ap, ◌∙◌, subst, arith, append_assoc, length-append}
use Rattle.std.proofs.Math.Seq.{drop-append-add, take-append_seam}
use Rattle.std.specs.Prelude.{slice_get}
use Rattle.std.specs.List.{AllByRecursion}
use Rattle.jf_store.specs.Passes.{Store, Pass, IsPassOf, new_pass}
use Rattle.jf_answers.specs.Explains.{LineReply, next_line, text_in}
use Rattle.jf_history.specs.Sessions.{Session, HoldsPins, new_session, HasReplied, IsTry, IsBroken, HasDoneNothing}
use Rattle.jf_history.specs.Runs.{HasAnswered, EndsBy}
use Rattle.jf_history.specs.Serving.{LosesReplies}
use Rattle.jf_history.specs.declared.end.End.{End}
use Rattle.jf_history.specs.declared.end.End.TheVariants as end
use Rattle.jf_history.proofs.Steps.{none_answered, one_more_answered}
use Rattle.jf_session.specs.Taking.{end_of_stop}
use Rattle.jf_session.specs.declared.stop.Stop.{Stop}
use Rattle.jf_session.specs.declared.stop.Stop.TheVariants as stop
use Rattle.jf_session.proofs.Replied.{text_in-push}
use Rattle.jf_serve.specs.Served.{max_output}
use Rattle.jf_serve.specs.Ran.{IsSessionEnd, HasRunSession}

-- the element after a front
slice_get-seam : {A : Type 0} (xs : List A) (x : A) (ys : List A) → slice_get (xs ++ x ∷ ys) (length xs) ≡ Some x
slice_get-seam [] x ys = refl
slice_get-seam (y ∷ xs) x ys = slice_get-seam xs x ys

-- of one reply more than these, it alone is lost
loses_last : (rs : List LineReply) (r : LineReply) → LosesReplies (rs ++ r ∷ []) rs
loses_last rs r = record {
  count = length rs;
  within = omega (arith, length-append rs (r ∷ []));
  told_are = sym (take-append_seam rs (r ∷ []));
  quiet = subst (AllByRecursion (λ (x : LineReply). x.entry ≡ None)) (sym (drop-append-add rs (r ∷ []) 1)) tt;
}

-- ---- the lines done

-- a session over new pass n of a store has answered the first lines of a script with this text, and may go on with those that are left
pub record GoesThrough (store : Store) (n : ℕ) (script left : List (List ℕ)) (now : Session) (text : List ℕ) : Type 0 where
  pub done : List (List ℕ)
  pub split : script ≡ done ++ left
  pub replies : List LineReply
  pub answered : HasAnswered store.start (new_pass store n) now done replies
  pub text_is : text ≡ text_in replies
  pub short : length text ≤ max_output
  pub begun : now.over ≡ false
  pub own : IsPassOf now.pass store

-- before the first line
pub through_none : (store : Store) (n : ℕ) (script : List (List ℕ)) (now : Session) (text : List ℕ) → now ≡ new_session (new_pass store n) → HoldsPins now → text ≡ [] → GoesThrough store n script script now text
through_none store n script now text new pins none = record {
  done = [];
  split = refl;
  replies = [];
  answered = subst (λ (s : Session). HasAnswered store.start (new_pass store n) s [] []) (sym new) (none_answered store.start (new_pass store n) refl (subst HoldsPins new pins));
  text_is = none;
  short = omega (arith, ap (λ (t : List ℕ). length t) none);
  begun = ap (λ (s : Session). s.over) new;
  own = subst (λ (s : Session). IsPassOf s.pass store) (sym new) (refl, refl);
}

module _ {store : Store} {n : ℕ} {script left : List (List ℕ)} {now : Session} {text : List ℕ} (f : GoesThrough store n script left now text) where
  -- with none left, all were answered
  pub ran_whole : left ≡ [] → HasRunSession store n script end.Done text now.pass
  ran_whole none = record {
    replies = f.replies;
    text_is = f.text_is;
    short = f.short;
    end_is = tt;
    served = λ out_of_memory among. record {
      done = f.done;
      rest = [];
      first = f.split ∙ ap (λ (ls : List (List ℕ)). f.done ++ ls) none;
      whole = λ is. refl;
      had = f.replies;
      told = inl refl;
      mid = now;
      answered = f.answered;
      next = None;
      next_is = tt;
      last = now;
      ends = (refl, refl);
      pass_is = refl;
    };
  }

  -- ---- the next line
  module _ (line : List ℕ) (left' : List (List ℕ)) (next : left ≡ line ∷ left') where
    split_next : script ≡ f.done ++ line ∷ left'
    split_next = f.split ∙ ap (λ (ls : List (List ℕ)). f.done ++ ls) next

    split_more : script ≡ (f.done ++ line ∷ []) ++ left'
    split_more = split_next ∙ sym (append_assoc f.done (line ∷ []) left')

    next_there : next_line script f.replies ≡ Some line
    next_there =
        ap (λ (ls : List (List ℕ)). slice_get ls (length f.replies)) split_next
        ∙ ap (λ (k : ℕ). slice_get (f.done ++ line ∷ left') k) f.answered.all
        ∙ slice_get-seam f.done line left'

    answered_more : (new : Session) (r : LineReply) → HasReplied store.start now new line r → HasAnswered store.start (new_pass store n) new (f.done ++ line ∷ []) (f.replies ++ r ∷ [])
    answered_more new r replied = one_more_answered store.start (new_pass store n) now new f.done f.replies line r f.answered replied

    -- it was answered
    pub through_more : (new : Session) (r : LineReply) (text' : List ℕ) → HasReplied store.start now new line r → text' ≡ text ++ r.text → new.over ≡ false → IsPassOf new.pass store → length text' ≤ max_output → GoesThrough store n script left' new text'
    through_more new r text' replied is over own short = record {
      done = f.done ++ line ∷ [];
      split = split_more;
      replies = f.replies ++ r ∷ [];
      answered = answered_more new r replied;
      text_is = is ∙ ap (λ (t : List ℕ). t ++ r.text) f.text_is ∙ sym (text_in-push f.replies r);
      short = short;
      begun = over;
      own = own;
    }

    -- it was answered, and memory ran out before its reply was written
    ran_untold : (new : Session) (r : LineReply) → HasReplied store.start now new line r → HasRunSession store n script end.Memory text new.pass
    ran_untold new r replied = record {
      replies = f.replies;
      text_is = f.text_is;
      short = f.short;
      end_is = tt;
      served = λ out_of_memory among. record {
        done = f.done ++ line ∷ [];
        rest = left';
        first = split_more;
        whole = λ is. absurd (let never : end.Memory ≡ end.Done = is in cc);
        had = f.replies ++ r ∷ [];
        told = inr (refl, among refl, loses_last f.replies r);
        mid = new;
        answered = answered_more new r replied;
        next = None;
        next_is = tt;
        last = new;
        ends = refl;
        pass_is = refl;
      };
    }

    -- the session ended at it
    ran_to : (how : End) (new : Session) → IsSessionEnd how → (how ≡ end.Done → ⊥) → EndsBy how store.start now new (Some line) → HasRunSession store n script how text new.pass
    ran_to how new is early ends = record {
      replies = f.replies;
      text_is = f.text_is;
      short = f.short;
      end_is = is;
      served = λ out_of_memory among. record {
        done = f.done;
        rest = line ∷ left';
        first = split_next;
        whole = λ done. absurd (early done);
        had = f.replies;
        told = inl refl;
        mid = now;
        answered = f.answered;
        next = Some line;
        next_is = next_there;
        last = new;
        ends = ends;
        pass_is = refl;
      };
    }

    pub ran_stopped : (why : Stop) (new : Session) → (why ≡ stop.DiskFault → IsTry store.start now new line) → (why ≡ stop.Broken → IsBroken now new line) → (why ≡ stop.Memory → HasDoneNothing now new line ⊎ ((r : LineReply) × HasReplied store.start now new line r))
        → HasRunSession store n script (end_of_stop why) text new.pass
    ran_stopped stop.DiskFault new fault broken memory = ran_to end.DiskFault new tt (λ is. let never : end.DiskFault ≡ end.Done = is in cc) (line, refl, fault refl)
    ran_stopped stop.Broken new fault broken memory = ran_to end.Broken new tt (λ is. let never : end.Broken ≡ end.Done = is in cc) (line, refl, broken refl)
    ran_stopped stop.Memory new fault broken memory = elim (memory refl) [
      | inl idle ↦ ran_to end.Memory new tt (λ is. let never : end.Memory ≡ end.Done = is in cc) idle
      | inr r ↦ ran_untold new r.0 r.1
    ]

-- ---- the session around its lines

-- a session that begins over a new pass
pub begun_new : (store : Store) (pass : Pass) (now : Session) → pass ≡ new_pass store pass.number → now ≡ new_session pass → now ≡ new_session (new_pass store now.pass.number)
begun_new store pass now new begun = begun ∙ ap new_session (new ∙ ap (λ (p : Pass). new_pass store p.number) (sym (ap (λ (s : Session). s.pass) begun)))

-- its result when its pass was handed back
pub ran_over : (store : Store) (pass after : Pass) (now last : Session) (script : List (List ℕ)) (how : End) (text : List ℕ) → now ≡ new_session pass → after ≡ last.pass → HasRunSession store now.pass.number script how text last.pass → HasRunSession store pass.number script how text after
ran_over store pass after now last script how text begun same ran =
    subst (λ (p : Pass). HasRunSession store pass.number script how text p) (sym same) (subst (λ (s : Session). HasRunSession store s.pass.number script how text last.pass) begun ran)
