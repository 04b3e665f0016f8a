-- What was answered stays so where entries follow.
use Rattle.std.proofs.Common.{◌≡◌, inl, inr, ℕ, zero, suc, ◌-◌, ◌≤◌, Some, None, List, [], ◌∷◌, ◌++◌, length, sym, ap, subst, arith, length-append}
use Rattle.std.specs.Prelude.{slice_get}
use Rattle.std.proofs.lemmas.List.{take-append-le}
use Rattle.jf_model.specs.States.{State}
use Rattle.jf_model.specs.Entries.{replay}
use Rattle.jf_model.specs.declared.entries.Entry.{Entry}
use Rattle.jf_model.specs.declared.entries.Entry.TheVariants as entry
use Rattle.jf_answers.specs.Own.{Own}
use Rattle.jf_answers.specs.Answers.{answer}
use Rattle.jf_answers.specs.Runs.{answer_text}
use Rattle.jf_answers.specs.Explains.{Timeline, LineReply, IsAnswered, AreAnswered, IsQuietReply, HasAnsweredChange, GivesEntry, HasFloor, answer_with, floor_in, state_after}
use Rattle.jf_history.specs.Laws.{AnswersStay}

get_front : (xs ys : List Entry) (i : ℕ) (x : Entry) → slice_get xs i ≡ Some x → slice_get (xs ++ ys) i ≡ Some x
get_front [] ys i x e = absurd (cc)
get_front (y ∷ xs) ys zero x e = e
get_front (y ∷ xs) ys (suc i) x e = get_front xs ys i x e

module _ (s : State) (pins : List ℕ) (es more : List Entry) where
  abbrev short : Timeline
  short = record { start = s; entries = es; pins = pins }

  abbrev long : Timeline
  long = record { start = s; entries = es ++ more; pins = pins }

  same_state : (n : ℕ) → n ≤ length es → state_after short n ≡ state_after long n
  same_state n le = ap (replay s) (sym (take-append-le n es more le))

  floor_later : (t : State) (own : Own) (e : Entry) → HasFloor short t own e → HasFloor long t own e
  floor_later t own (entry.Retired owner bound floor) h = h
  floor_later t own (entry.Made owner fork parent batch r) h = h
  floor_later t own (entry.Landed owner version how r moment) h = h
  floor_later t own (entry.Dropped owner fork) h = h
  floor_later t own (entry.Compacted owner generation) h = h

  gives_later : (t : State) (own : Own) (line : List ℕ) (e : Entry) → GivesEntry short t own line e → GivesEntry long t own line e
  gives_later t own line e g = record { same = g.same; floor = floor_later t own e g.floor }

  looks_later : (own : Own) (seen : ℕ) (line : List ℕ) (r : LineReply) → r.number ≤ length es → IsQuietReply short own seen line r → IsQuietReply long own seen line r
  looks_later own seen line r within l =
      let e = same_state r.number within in
      record {
        quiet = subst (λ (t : State). (answer t own line).entry ≡ None) e l.quiet;
        text = subst (λ (t : State). r.text ≡ answer_text r.number (answer t own line)) e l.text;
        none = l.none;
        own_after = subst (λ (t : State). r.own ≡ (answer t own line).own) e l.own_after;
        by_itself = l.by_itself;
      }

  pub changes_later : (own : Own) (seen : ℕ) (line : List ℕ) (r : LineReply) → r.number ≤ length es → HasAnsweredChange short own seen line r → HasAnsweredChange long own seen line r
  changes_later own seen line r within c =
      let e = same_state (r.number - 1) (omega arith) in
      record {
        event = c.event;
        later = c.later;
        stands = get_front es more (r.number - 1) c.event c.stands;
        owned = c.owned;
        gives = subst (λ (t : State). GivesEntry long t own line c.event) e (gives_later (state_after short (r.number - 1)) own line c.event c.gives);
        text = subst (λ (t : State). r.text ≡ answer_text r.number (answer_with (floor_in c.event) t own line)) e c.text;
        kept = c.kept;
        own_after = subst (λ (t : State). r.own ≡ (answer_with (floor_in c.event) t own line).own) e c.own_after;
      }

  answered_later : (own : Own) (seen : ℕ) (line : List ℕ) (r : LineReply) → IsAnswered short own seen line r → IsAnswered long own seen line r
  answered_later own seen line r a = record {
    rises = a.rises;
    within = (let w = a.within in let l = length-append es more in omega arith);
    answered = elim a.answered [ inl l ↦ inl (looks_later own seen line r a.within l) | inr c ↦ inr (changes_later own seen line r a.within c) ];
  }

  pub stay : (own : Own) (seen : ℕ) (ls : List (List ℕ)) (rs : List LineReply) → AreAnswered short own seen ls rs → AreAnswered long own seen ls rs
  stay own seen ls [] h = tt
  stay own seen [] (r ∷ rs) h = absurd h
  stay own seen (line ∷ ls) (r ∷ rs) h = (answered_later own seen line r h.0, stay r.own r.number ls rs h.1)

pub answers_stay : AnswersStay
answers_stay s pins es more own seen ls rs h = stay s pins es more own seen ls rs h
