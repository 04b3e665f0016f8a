-- Fronts of events, and of lines with their replies.
use Rattle.std.proofs.Common.{◌≡◌, ℕ, zero, suc, ◌+◌, ◌-◌, ◌≤◌, ◌<◌, Bool, true, false, cond, Option, Some, None, IfSome, List, [], ◌∷◌, ◌++◌, take, drop, length, refl, sym, ap, ◌∙◌, subst, arith, append_assoc}
use Rattle.std.specs.Prelude.{is_some, slice_get, ◌==◌}
use Rattle.std.specs.List.{AllByRecursion}
use Rattle.std.proofs.lemmas.List.{take-append-le}
use Rattle.jf_model.specs.States.{State}
use Rattle.jf_model.specs.Entries.{after, replay, owner_of}
use Rattle.jf_model.specs.declared.entries.Entry.{Entry}
use Rattle.jf_turn.specs.Lists.{StartsWith}
use Rattle.jf_store.specs.declared.event.Event.{Event}
use Rattle.jf_store.specs.declared.event.Event.TheVariants.{Done, Mark}
use Rattle.jf_store.specs.Starts.{Start}
use Rattle.jf_store.specs.Floors.{AreMet}
use Rattle.jf_answers.specs.Own.{Own}
use Rattle.jf_answers.specs.Explains.{Timeline, LineReply, IsAnswered, AreAnswered, own_after_replies, seen_after_replies, places_in_reply, places_owned}
use Rattle.jf_history.specs.Sessions.{HeldFloor, entry_place}
use Rattle.jf_history.specs.Runs.{AreHeld}

-- ---- events
pub AreMet-front : (P : ℕ × ℕ → Type 0) (s : State) (xs ys : List Event) → AreMet P s (xs ++ ys) → AreMet P s xs
AreMet-front P s [] ys h = tt
AreMet-front P s (Done e ∷ xs) ys h = (h.0, AreMet-front P (after e s) xs ys h.1)
AreMet-front P s (Mark pass e ∷ xs) ys h = (h.0, AreMet-front P s xs ys h.1)

-- ---- places
abbrev within : ℕ → List ℕ → Type 0
within bound ns = AllByRecursion (λ n. n ≤ bound) ns

pub places_owned-within : (n k bound : ℕ) (es : List Entry) → k + length es ≤ bound → within bound (places_owned n k es)
places_owned-within n k bound [] le = tt
places_owned-within n k bound (e ∷ es) le =
    let more = places_owned-within n (k + 1) bound es (omega arith) in
    elim (owner_of e == n) as (λ b. within bound (cond b ((k + 1) ∷ places_owned n (k + 1) es) (places_owned n (k + 1) es))) [
      | true ↦ (omega arith, more)
      | false ↦ more
    ]

-- ---- one line more
pub AreAnswered-push : (h : Timeline) (own : Own) (seen : ℕ) (ls : List (List ℕ)) (rs : List LineReply) (line : List ℕ) (r : LineReply) → length rs ≡ length ls → AreAnswered h own seen ls rs
    → IsAnswered h (own_after_replies own rs) (seen_after_replies seen rs) line r → AreAnswered h own seen (ls ++ line ∷ []) (rs ++ r ∷ [])
AreAnswered-push h own seen [] [] line r same a one = (one, tt)
AreAnswered-push h own seen (l ∷ ls) [] line r same a one = absurd (omega arith)
AreAnswered-push h own seen [] (x ∷ rs) line r same a one = absurd a
AreAnswered-push h own seen (l ∷ ls) (x ∷ rs) line r same a one = (a.0, AreAnswered-push h x.own x.number ls rs line r (omega arith) a.1 one)

pub places_told-push : (rs : List LineReply) (r : LineReply) → places_in_reply (rs ++ r ∷ []) ≡ places_in_reply rs ++ entry_place r
places_told-push [] r = refl
places_told-push (x ∷ rs) r = elim (is_some x.entry) as (λ b. cond b (x.number ∷ places_in_reply (rs ++ r ∷ [])) (places_in_reply (rs ++ r ∷ [])) ≡ cond b (x.number ∷ places_in_reply rs) (places_in_reply rs) ++ entry_place r) [
  | true ↦ ap (λ t. x.number ∷ t) (places_told-push rs r)
  | false ↦ places_told-push rs r
]

pub own_after-push : (own : Own) (rs : List LineReply) (r : LineReply) → own_after_replies own (rs ++ r ∷ []) ≡ r.own
own_after-push own [] r = refl
own_after-push own (x ∷ rs) r = own_after-push x.own rs r

pub seen_after-push : (seen : ℕ) (rs : List LineReply) (r : LineReply) → seen_after_replies seen (rs ++ r ∷ []) ≡ r.number
seen_after-push seen [] r = refl
seen_after-push seen (x ∷ rs) r = seen_after-push x.number rs r

pub AreHeld-push : (start : Start) (es : List Entry) (own : Own) (rs : List LineReply) (r : LineReply) → AreHeld start es own rs
    → IfSome r.entry (HeldFloor start (own_after_replies own rs) (replay start.state (take (r.number - 1) es))) → AreHeld start es own (rs ++ r ∷ [])
AreHeld-push start es own [] r h one = (one, tt)
AreHeld-push start es own (x ∷ rs) r h one = (h.0, AreHeld-push start es x.own rs r h.1 one)

held_later : (start : Start) (es more : List Entry) (own : Own) (n : ℕ) (o : Option Entry) → n ≤ length es → IfSome o (HeldFloor start own (replay start.state (take n es))) → IfSome o (HeldFloor start own (replay start.state (take n (es ++ more))))
held_later start es more own n o le h = subst (λ (xs : List Entry). IfSome o (HeldFloor start own (replay start.state xs))) (sym (take-append-le n es more le)) h

-- they stay held where entries follow
pub AreHeld-later : (start : Start) (es more : List Entry) (own : Own) (rs : List LineReply) → within (length es) (places_in_reply rs) → AreHeld start es own rs → AreHeld start (es ++ more) own rs
AreHeld-later start es more own [] w h = tt
AreHeld-later start es more own (r ∷ rs) w h = elim r.entry as (λ (o : Option Entry). within (length es) (cond (is_some o) (r.number ∷ places_in_reply rs) (places_in_reply rs)) → IfSome o (HeldFloor start own (replay start.state (take (r.number - 1) es)))
    → IfSome o (HeldFloor start own (replay start.state (take (r.number - 1) (es ++ more)))) × AreHeld start (es ++ more) r.own rs) [
      | None ↦ λ w' f. (tt, AreHeld-later start es more r.own rs w' h.1)
      | Some e ↦ λ w' f. let low = w'.0 in (held_later start es more own (r.number - 1) (Some e) (omega arith) f, AreHeld-later start es more r.own rs w'.1 h.1)
    ] w h.0

-- ---- the first lines
pub AreAnswered-take : (h : Timeline) (own : Own) (seen n : ℕ) (ls : List (List ℕ)) (rs : List LineReply) → AreAnswered h own seen ls rs → AreAnswered h own seen (take n ls) (take n rs)
AreAnswered-take h own seen zero ls rs a = tt
AreAnswered-take h own seen (suc n) ls [] a = tt
AreAnswered-take h own seen (suc n) [] (r ∷ rs) a = absurd a
AreAnswered-take h own seen (suc n) (line ∷ ls) (r ∷ rs) a = (a.0, AreAnswered-take h r.own r.number n ls rs a.1)

pub AreHeld-take : (start : Start) (es : List Entry) (own : Own) (n : ℕ) (rs : List LineReply) → AreHeld start es own rs → AreHeld start es own (take n rs)
AreHeld-take start es own zero rs h = tt
AreHeld-take start es own (suc n) [] h = tt
AreHeld-take start es own (suc n) (r ∷ rs) h = (h.0, AreHeld-take start es r.own n rs h.1)

told_none : (rs : List LineReply) → AllByRecursion (λ r. r.entry ≡ None) rs → places_in_reply rs ≡ []
told_none [] h = refl
told_none (r ∷ rs) h = ap (λ (o : Option Entry). cond (is_some o) (r.number ∷ places_in_reply rs) (places_in_reply rs)) h.0 ∙ told_none rs h.1

told_more : (b : Bool) (n : ℕ) (ns ms ks : List ℕ) → ns ≡ ms ++ ks → cond b (n ∷ ns) ns ≡ cond b (n ∷ ms) ms ++ ks
told_more true n ns ms ks e = ap (λ t. n ∷ t) e
told_more false n ns ms ks e = e

-- lines that give no entry tell no place
pub places_told-take : (n : ℕ) (rs : List LineReply) → AllByRecursion (λ r. r.entry ≡ None) (drop n rs) → places_in_reply (take n rs) ≡ places_in_reply rs
places_told-take zero rs h = sym (told_none rs h)
places_told-take (suc n) [] h = refl
places_told-take (suc n) (r ∷ rs) h = ap (λ ns. cond (is_some r.entry) (r.number ∷ ns) ns) (places_told-take n rs h)

-- the first replies to the same lines
pub AreAnswered-front : (h : Timeline) (own : Own) (seen n : ℕ) (ls : List (List ℕ)) (rs : List LineReply) → AreAnswered h own seen ls rs → AreAnswered h own seen ls (take n rs)
AreAnswered-front h own seen zero ls rs a = tt
AreAnswered-front h own seen (suc n) ls [] a = tt
AreAnswered-front h own seen (suc n) [] (r ∷ rs) a = absurd a
AreAnswered-front h own seen (suc n) (line ∷ ls) (r ∷ rs) a = (a.0, AreAnswered-front h r.own r.number n ls rs a.1)

-- ---- the line at a place
-- a reply with its line, over what the replies before it left
pub record AnswersAt (h : Timeline) (own : Own) (seen n : ℕ) (ls : List (List ℕ)) (rs : List LineReply) : Type 0 where
  pub line : List ℕ
  pub reply : LineReply
  pub line_at : slice_get ls n ≡ Some line
  pub answers : IsAnswered h (own_after_replies own (take n rs)) (seen_after_replies seen (take n rs)) line reply
  pub places : AllByRecursion (λ r. r.entry ≡ None) (drop (n + 1) rs) → places_in_reply rs ≡ places_in_reply (take n rs) ++ entry_place reply

pub answers-at : (h : Timeline) (own : Own) (seen n : ℕ) (ls : List (List ℕ)) (rs : List LineReply) → AreAnswered h own seen ls rs → n < length rs → AnswersAt h own seen n ls rs
answers-at h own seen n ls [] a lt = absurd (omega arith)
answers-at h own seen n [] (r ∷ rs) a lt = absurd a
answers-at h own seen zero (line ∷ ls) (r ∷ rs) a lt = record {
  line = line;
  reply = r;
  line_at = refl;
  answers = a.0;
  places = λ quiet. ap (λ ns. cond (is_some r.entry) (r.number ∷ ns) ns) (told_none rs quiet);
}
answers-at h own seen (suc n) (line ∷ ls) (r ∷ rs) a lt =
    let m = answers-at h r.own r.number n ls rs a.1 (omega arith) in
    let next : suc n + 1 ≡ suc (n + 1) = omega arith in
    record {
      line = m.line;
      reply = m.reply;
      line_at = m.line_at;
      answers = m.answers;
      places = λ quiet. told_more (is_some r.entry) r.number (places_in_reply rs) (places_in_reply (take n rs)) (entry_place m.reply) (m.places (subst (λ k. AllByRecursion (λ x. x.entry ≡ None) (drop k (r ∷ rs))) next quiet));
    }
