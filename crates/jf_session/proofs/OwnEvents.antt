-- Events of a session's own, and what is quiet.
use lib.ListN.{get_elem?}
use mathlib.Core.Option.{some}
use Rattle.std.proofs.Common.{◌≡◌, ℕ, zero, suc, ◌+◌, true, false, cond, Some, None, List, [], ◌∷◌, ◌++◌, drop, length, refl, sym, ap, ◌∙◌, subst, arith, append_assoc, length-append}
use Rattle.std.specs.Prelude.{◌==◌, is_some}
use Rattle.std.proofs.lemmas.Bool.{eq-eqb}
use Rattle.std.proofs.Math.Seq.{drop-append_seam}
use Rattle.jf_model.specs.Entries.{owner_of}
use Rattle.jf_turn.specs.Lists.{HasElement, StartsWith}
use Rattle.jf_store.specs.declared.event.Event.{Event}
use Rattle.jf_store.specs.declared.event.Event.TheVariants.{Done, Mark}
use Rattle.jf_store.specs.Events.{pass_named_by, entries_among, is_marked}
use Rattle.jf_store.specs.Starts.{Start}
use Rattle.jf_store.specs.Passes.{Pass, OthersAlone, SeesOwn}
use Rattle.jf_store.proofs.EventLaws.{entries_of-append}
use Rattle.jf_answers.specs.Explains.{LineReply, places_owned}
use Rattle.jf_history.specs.Sessions.{Session, HasReplied, IsTry, entry_place, seen_by}
use Rattle.jf_history.proofs.Places.{places_append, places_on}

-- ---- an event of its own
at_seam : (xs ys : List Event) (x : Event) → get_elem? (xs ++ x ∷ ys) (length xs) ≡ some x
at_seam [] ys x = refl
at_seam (z ∷ xs) ys x = at_seam xs ys x

-- an event of the pass's own is none of others
pub own_is_seen : (old new : Pass) (before : List Event) (x : Event) → SeesOwn old new before x → pass_named_by x ≡ old.number → OthersAlone old new.seen → ⊥
own_is_seen old new before x s named others =
    let b = s.begins.0 in
    let seen : new.seen ≡ old.seen ++ (b ++ x ∷ []) = ap (λ (p : Pass). p.seen) s.last ∙ ap (λ xs. xs ++ x ∷ []) s.begins.1 ∙ append_assoc old.seen b (x ∷ []) in
    let after : drop (length old.seen) new.seen ≡ b ++ x ∷ [] = ap (drop (length old.seen)) seen ∙ drop-append_seam old.seen (b ++ x ∷ []) in
    others x (length b, ap (λ (xs : List Event). get_elem? xs (length b)) after ∙ at_seam b [] x) named

-- so a try isn't quiet
pub try_is_own : (start : Start) (s new : Session) (line : List ℕ) → IsTry start s new line → OthersAlone s.pass new.pass.seen → ⊥
try_is_own start s new line t others = own_is_seen s.pass new.pass t.before (Mark s.pass.number t.attempt) t.sees refl others

-- and a line that gave an entry isn't either
pub quiet_none : (start : Start) (s new : Session) (line : List ℕ) (r : LineReply) → HasReplied start s new line r → OthersAlone s.pass new.pass.seen → r.entry ≡ None
quiet_none start s new line r t others =
    let xs = places_owned s.pass.number 0 (seen_by s.pass) in
    let same : xs ++ entry_place r ≡ xs = sym t.places ∙ places_on s.pass new.pass.seen t.follows.begins others in
    let none : length (entry_place r) ≡ 0 = omega (arith, ap (λ (ns : List ℕ). length ns) same, length-append xs (entry_place r)) in
    elim r.entry as (λ o. length (cond (is_some o) (r.number ∷ []) []) ≡ 0 → o ≡ None) [
      | None ↦ λ e. refl
      | Some x ↦ λ e. absurd (omega (arith, e))
    ] none

-- ---- no event of its own
none_named : (n k : ℕ) (ys : List Event) → is_marked ys ≡ false → places_owned n k (entries_among ys) ≡ [] → (x : Event) → HasElement ys x → pass_named_by x ≡ n → ⊥
none_named n k [] unmarked none x has named = let there = has.1 in absurd (cc)
none_named n k (Mark pass e ∷ ys) unmarked none x has named = absurd (cc)
none_named n k (Done e ∷ ys) unmarked none x (zero, at) named =
    let same : Done e ≡ x = cc in
    let owned : owner_of e ≡ n = ap pass_named_by same ∙ named in
    let first : (k + 1) ∷ places_owned n (k + 1) (entries_among ys) ≡ [] = sym (ap (λ b. cond b ((k + 1) ∷ places_owned n (k + 1) (entries_among ys)) (places_owned n (k + 1) (entries_among ys))) (eq-eqb (owner_of e) n owned)) ∙ none in
    absurd (cc)
none_named n k (Done e ∷ ys) unmarked none x (suc i, at) named =
    let rest : places_owned n (k + 1) (entries_among ys) ≡ [] = elim (owner_of e == n) as (λ b. cond b ((k + 1) ∷ places_owned n (k + 1) (entries_among ys)) (places_owned n (k + 1) (entries_among ys)) ≡ [] → places_owned n (k + 1) (entries_among ys) ≡ []) [
      | true ↦ λ e. absurd (cc)
      | false ↦ λ e. e
    ] none in
    none_named n (k + 1) ys unmarked rest x (i, at) named

unmarked_back : (xs ys : List Event) → is_marked (xs ++ ys) ≡ false → is_marked ys ≡ false
unmarked_back [] ys e = e
unmarked_back (Done x ∷ xs) ys e = unmarked_back xs ys e
unmarked_back (Mark pass x ∷ xs) ys e = absurd (cc)

none_more : (xs ys : List ℕ) → xs ++ ys ≡ xs → ys ≡ []
none_more xs [] e = refl
none_more xs (y ∷ ys) e = absurd (omega (arith, ap (λ (ns : List ℕ). length ns) e, length-append xs (y ∷ ys)))

-- the pass's own entries are as many as before, and there is no mark: so no event is its own
pub others_alone : (p : Pass) (events : List Event) → StartsWith events p.seen → is_marked events ≡ false
    → places_owned p.number 0 (entries_among events) ≡ places_owned p.number 0 (entries_among p.seen) → OthersAlone p events
others_alone p events begins unmarked same x has named =
    let b = begins.0 in
    let far = 0 + length (entries_among p.seen) in
    let after : drop (length p.seen) events ≡ b = ap (drop (length p.seen)) begins.1 ∙ drop-append_seam p.seen b in
    let split : places_owned p.number 0 (entries_among events) ≡ places_owned p.number 0 (entries_among p.seen) ++ places_owned p.number far (entries_among b) =
    ap (λ (xs : List Event). places_owned p.number 0 (entries_among xs)) begins.1 ∙ ap (places_owned p.number 0) (entries_of-append p.seen b) ∙ places_append p.number 0 (entries_among p.seen) (entries_among b) in
    let none = none_more (places_owned p.number 0 (entries_among p.seen)) (places_owned p.number far (entries_among b)) (sym split ∙ same) in
    let marked = unmarked_back p.seen b (sym (ap is_marked begins.1) ∙ unmarked) in
    none_named p.number far b marked none x (subst (λ (xs : List Event). HasElement xs x) after has) named
