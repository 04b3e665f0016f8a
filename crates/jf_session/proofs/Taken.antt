-- Lines that a session took, one after another.
use Rattle.std.proofs.Common.{◌≡◌, inl, inr, ℕ, true, Option, Some, None, IfSome, List, [], ◌∷◌, ◌++◌, take, length, refl, sym, ap, ap₂, ◌∙◌, subst, arith, append_assoc, append-nil, length-append}
use Rattle.std.specs.Prelude.{Result, Ok, Err, slice_get, option_to_list}
use Rattle.std.specs.List.{AllByRecursion}
use Rattle.jf_path.proofs.OptionLaws.{some_same}
use Rattle.jf_io.specs.LinesRead.{lines_read, AreFirst}
use Rattle.jf_input.specs.Feeds.{GoesOnQuietly, TakesLines, HasRead, ReadsLinesOf}
use Rattle.jf_store.specs.Starts.{Start}
use Rattle.jf_store.specs.Passes.{Pass}
use Rattle.jf_answers.specs.Explains.{LineReply, text_in}
use Rattle.jf_history.specs.Sessions.{Session, HasReplied, HasDoneNothing}
use Rattle.jf_history.specs.Runs.{HasAnswered, IsAtRest}
use Rattle.jf_history.proofs.Steps.{one_more_answered}
use Rattle.jf_session.specs.declared.stop.Stop.{Stop}
use Rattle.jf_session.specs.declared.stop.Stop.TheVariants as stop
use Rattle.jf_session.specs.Taking.{Makes, AnswersLine, StaysQuiet}
use Rattle.jf_session.proofs.OwnEvents.{try_is_own, quiet_none}

-- with what the store of a pass began is known once
pub makes_at : (start : Start) (s new : Session) (line : List ℕ) (r : Result (List ℕ) Stop) → s.pass.start ≡ Some start → AnswersLine s line new r → Makes start s line new r
makes_at start s new line r is a = subst (λ (t : Start). Makes t s line new r) (some_same a.start start (sym a.start_is ∙ is)) a.makes

-- after it has stopped, a session takes no line
stopped : (m new : Session) (ls : List (List ℕ)) → m.over ≡ true → GoesOnQuietly AnswersLine StaysQuiet m ls new → (ls ≡ []) × (new ≡ m)
stopped m new [] over w = (refl, w)
stopped m new (line ∷ ls) over w = let begun = w.2.begun in absurd (cc)

module _ (start : Start) (old : Pass) where
  -- ---- lines with their replies
  -- lines were taken after others, and these are their replies, with their text
  pub record HasTaken (new : Session) (ds ls : List (List ℕ)) (rs : List LineReply) (said : List ℕ) : Type 0 where
    pub replies : List LineReply
    pub answered : HasAnswered start old new (ds ++ ls) (rs ++ replies)
    pub text_is : said ≡ text_in replies

  -- lines were taken after others, and gave no entry; at the next, if one was started, nothing was done
  pub record WentOn (new : Session) (ds : List (List ℕ)) (rs : List LineReply) (later : List (List ℕ)) : Type 0 where
    pub more : List (List ℕ)
    pub replies : List LineReply
    pub mid : Session
    pub next : Option (List ℕ)
    pub answered : HasAnswered start old mid (ds ++ more) (rs ++ replies)
    pub rest : IsAtRest mid new next
    pub none : AllByRecursion (λ r. r.entry ≡ None) replies
    pub lines_are : later ≡ more ++ option_to_list next

  none_more : (m : Session) (ds : List (List ℕ)) (rs : List LineReply) → HasAnswered start old m ds rs → HasAnswered start old m (ds ++ []) (rs ++ [])
  none_more m ds rs a =
      subst (λ (ls : List (List ℕ)). HasAnswered start old m ls (rs ++ [])) (sym (append-nil ds)) (subst (λ (qs : List LineReply). HasAnswered start old m ds qs) (sym (append-nil rs)) a)

  one_before : (m : Session) (ds ls : List (List ℕ)) (line : List ℕ) (rs qs : List LineReply) (r : LineReply) → HasAnswered start old m ((ds ++ line ∷ []) ++ ls) ((rs ++ r ∷ []) ++ qs) → HasAnswered start old m (ds ++ line ∷ ls) (rs ++ r ∷ qs)
  one_before m ds ls line rs qs r a =
      subst (λ (x : List (List ℕ)). HasAnswered start old m x (rs ++ r ∷ qs)) (append_assoc ds (line ∷ []) ls) (subst (λ (x : List LineReply). HasAnswered start old m ((ds ++ line ∷ []) ++ ls) x) (append_assoc rs (r ∷ []) qs) a)

  -- ---- after a line that was left
  at_rest : (m new : Session) (ds : List (List ℕ)) (rs : List LineReply) (line : List ℕ) → HasAnswered start old m ds rs → HasDoneNothing m new line → WentOn new ds rs (line ∷ [])
  at_rest m new ds rs line a idle = record { more = []; replies = []; mid = m; next = Some line; answered = none_more m ds rs a; rest = idle; none = tt; lines_are = refl }

  at_reply : (m new : Session) (ds : List (List ℕ)) (rs : List LineReply) (line : List ℕ) (r : LineReply) → HasAnswered start old m ds rs → HasReplied start m new line r → r.entry ≡ None → WentOn new ds rs (line ∷ [])
  at_reply m new ds rs line r a t none = record {
    more = line ∷ [];
    replies = r ∷ [];
    mid = new;
    next = None;
    answered = one_more_answered start old m new ds rs line r a t;
    rest = refl;
    none = (none, tt);
    lines_are = refl;
  }

  reply_first : (m mid new : Session) (ds : List (List ℕ)) (rs : List LineReply) (line : List ℕ) (ls : List (List ℕ)) (r : LineReply) → r.entry ≡ None → WentOn new (ds ++ line ∷ []) (rs ++ r ∷ []) ls → WentOn new ds rs (line ∷ ls)
  reply_first m mid new ds rs line ls r none w = record {
    more = line ∷ w.more;
    replies = r ∷ w.replies;
    mid = w.mid;
    next = w.next;
    answered = one_before w.mid ds w.more line rs w.replies r w.answered;
    rest = w.rest;
    none = (none, w.none);
    lines_are = ap (λ x. line ∷ x) w.lines_are;
  }

  -- the last of the lines, at which the session stopped
  stopped_at : (why : Stop) (m mid : Session) (ds : List (List ℕ)) (rs : List LineReply) (line : List ℕ) → HasAnswered start old m ds rs → StaysQuiet m mid → Makes start m line mid (Err why) → WentOn mid ds rs (line ∷ [])
  stopped_at stop.DiskFault m mid ds rs line a quiet makes = absurd (try_is_own start m mid line makes quiet)
  stopped_at stop.Broken m mid ds rs line a quiet makes = at_rest m mid ds rs line a makes.idle
  stopped_at stop.Memory m mid ds rs line a quiet makes = elim makes [
    | inl idle ↦ at_rest m mid ds rs line a idle
    | inr r ↦ at_reply m mid ds rs line r.1.0 a r.1.1 (quiet_none start m mid line r.1.0 r.1.1 quiet)
  ]

  module _ (begun : old.start ≡ Some start) where
    known : (m : Session) (ds : List (List ℕ)) (rs : List LineReply) → HasAnswered start old m ds rs → m.pass.start ≡ Some start
    known m ds rs a = ap (λ (p : Pass). p.start) a.same ∙ begun

    pub took_more : (m new : Session) (ds ls : List (List ℕ)) (rs : List LineReply) (said : List ℕ) → HasAnswered start old m ds rs → TakesLines AnswersLine m ls new said → HasTaken new ds ls rs said
    took_more m new ds [] rs said a w = record { replies = []; answered = subst (λ (s : Session). HasAnswered start old s (ds ++ []) (rs ++ [])) (sym w.0) (none_more m ds rs a); text_is = w.1 }
    took_more m new ds (line ∷ ls) rs said a w =
        let t = makes_at start m w.0 line (Ok w.1) (known m ds rs a) w.3 in
        let q = took_more w.0 new (ds ++ line ∷ []) ls (rs ++ t.0 ∷ []) w.2 (one_more_answered start old m w.0 ds rs line t.0 a t.1) w.4 in
        record { replies = t.0 ∷ q.replies; answered = one_before new ds ls line rs q.replies t.0 q.answered; text_is = w.5 ∙ ap₂ (λ x y. x ++ y) t.2 q.text_is }

    went_line : (r : Result (List ℕ) Stop) (m mid new : Session) (ds : List (List ℕ)) (rs : List LineReply) (line : List ℕ) (ls : List (List ℕ)) → HasAnswered start old m ds rs → AnswersLine m line mid r → StaysQuiet m mid → GoesOnQuietly AnswersLine StaysQuiet mid ls new
        → ((es : List (List ℕ)) (qs : List LineReply) → HasAnswered start old mid es qs → WentOn new es qs ls) → WentOn new ds rs (line ∷ ls)
    went_line (Ok text) m mid new ds rs line ls a takes quiet w rec =
        let t = makes_at start m mid line (Ok text) (known m ds rs a) takes in
        reply_first m mid new ds rs line ls t.0 (quiet_none start m mid line t.0 t.1 quiet) (rec (ds ++ line ∷ []) (rs ++ t.0 ∷ []) (one_more_answered start old m mid ds rs line t.0 a t.1))
    went_line (Err why) m mid new ds rs line ls a takes quiet w rec =
        let e = stopped mid new ls takes.over w in
        subst (λ (x : List (List ℕ)). WentOn new ds rs (line ∷ x)) (sym e.0)
        (subst (λ (s : Session). WentOn s ds rs (line ∷ [])) (sym e.1) (stopped_at why m mid ds rs line a quiet (makes_at start m mid line (Err why) (known m ds rs a) takes)))

    -- of lines that were quiet, only the last can have been left undone
    pub went_on : (m new : Session) (ds : List (List ℕ)) (rs : List LineReply) (ls : List (List ℕ)) → HasAnswered start old m ds rs → GoesOnQuietly AnswersLine StaysQuiet m ls new → WentOn new ds rs ls
    went_on m new ds rs [] a w = record { more = []; replies = []; mid = m; next = None; answered = none_more m ds rs a; rest = w; none = tt; lines_are = refl }
    went_on m new ds rs (line ∷ ls) a w = went_line w.1 m w.0 new ds rs line ls a w.2 w.3 w.4 (λ es qs b. went_on w.0 new es qs ls b w.4)

-- ---- the lines read, and the next
-- the lines are the first of those read, and the next, if one was started, was read too
pub record HasReadTo (all left : List ℕ) (ls : List (List ℕ)) (next : Option (List ℕ)) : Type 0 where
  pub taken : List ℕ
  pub split : all ≡ taken ++ left
  pub first : AreFirst taken left ls
  pub begun : IfSome next (λ line. slice_get (lines_read taken left) (length ls) ≡ Some line)

but_last : (ms ls : List (List ℕ)) (l : List ℕ) → take (length (ls ++ l ∷ [])) ms ≡ ls ++ l ∷ [] → take (length ls) ms ≡ ls
but_last [] [] l e = refl
but_last [] (k ∷ ls) l e = absurd (cc)
but_last (m ∷ ms) [] l e = refl
but_last (m ∷ ms) (k ∷ ls) l e = ap₂ (λ x y. x ∷ y) (let same : m ≡ k = cc in same) (but_last ms ls l (let same : take (length (ls ++ l ∷ [])) ms ≡ ls ++ l ∷ [] = cc in same))

get_next : (ms ls : List (List ℕ)) (l : List ℕ) → take (length (ls ++ l ∷ [])) ms ≡ ls ++ l ∷ [] → slice_get ms (length ls) ≡ Some l
get_next [] [] l e = absurd (cc)
get_next [] (k ∷ ls) l e = absurd (cc)
get_next (m ∷ ms) [] l e = ap (λ x. Some x) (let same : m ≡ l = cc in same)
get_next (m ∷ ms) (k ∷ ls) l e = get_next ms ls l (let same : take (length (ls ++ l ∷ [])) ms ≡ ls ++ l ∷ [] = cc in same)

first_but_last : (taken left : List ℕ) (ls : List (List ℕ)) (l : List ℕ) → AreFirst taken left (ls ++ l ∷ []) → AreFirst taken left ls
first_but_last taken left ls l f = record { enough = omega (arith, f.enough, length-append ls (l ∷ [])); are = but_last (lines_read taken left) ls l f.are }

read_to : (all left : List ℕ) (ls : List (List ℕ)) (next : Option (List ℕ)) → HasRead all left (ls ++ option_to_list next) → HasReadTo all left ls next
read_to all left ls None r = record { taken = r.taken; split = r.split; first = subst (AreFirst r.taken left) (append-nil ls) r.first; begun = tt }
read_to all left ls (Some l) r = record { taken = r.taken; split = r.split; first = first_but_last r.taken left ls l r.first; begun = get_next (lines_read r.taken left) ls l r.first.are }

pub reads_to : (rest rest' : Option (List ℕ)) (ls : List (List ℕ)) (next : Option (List ℕ)) → ReadsLinesOf rest rest' (ls ++ option_to_list next) → (all : List ℕ) → rest ≡ Some all → (left : List ℕ) × (rest' ≡ Some left) × HasReadTo all left ls next
reads_to rest rest' ls next reads all is = let r = reads all is in (r.0, r.1, read_to all r.0 ls next r.2)
