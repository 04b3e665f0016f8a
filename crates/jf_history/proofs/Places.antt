-- The places of a session's entries, where events of others follow.
use Rattle.std.proofs.Common.{◌≡◌, ℕ, suc, ◌+◌, true, false, cond, List, [], ◌∷◌, ◌++◌, drop, length, refl, sym, ap, ◌∙◌, subst, arith, append-nil}
use Rattle.std.specs.Prelude.{◌==◌}
use Rattle.std.proofs.lemmas.Bool.{eqb-true}
use Rattle.std.proofs.Math.Seq.{drop-append_seam}
use Rattle.std.specs.List.{AllByRecursion}
use Rattle.jf_model.specs.Entries.{owner_of}
use Rattle.jf_model.specs.declared.entries.Entry.{Entry}
use Rattle.jf_turn.specs.Lists.{HasElement, StartsWith}
use Rattle.jf_store.specs.declared.event.Event.{Event}
use Rattle.jf_store.specs.declared.event.Event.TheVariants.{Done, Mark}
use Rattle.jf_store.specs.Events.{pass_named_by, entries_among}
use Rattle.jf_store.specs.Passes.{Pass, OthersAlone}
use Rattle.jf_store.proofs.EventLaws.{entries_of-append}
use Rattle.jf_answers.specs.Explains.{places_owned}

pub places_append : (n k : ℕ) (es fs : List Entry) → places_owned n k (es ++ fs) ≡ places_owned n k es ++ places_owned n (k + length es) fs
places_append n k [] fs = let e : k ≡ k + 0 = omega arith in ap (λ j. places_owned n j fs) e
places_append n k (e ∷ es) fs =
    let far : k + 1 + length es ≡ k + length (e ∷ es) = omega arith in
    let rec = places_append n (k + 1) es fs ∙ ap (λ j. places_owned n (k + 1) es ++ places_owned n j fs) far in
    elim (owner_of e == n) as (λ b. cond b ((k + 1) ∷ places_owned n (k + 1) (es ++ fs)) (places_owned n (k + 1) (es ++ fs)) ≡ cond b ((k + 1) ∷ places_owned n (k + 1) es) (places_owned n (k + 1) es) ++ places_owned n (k + length (e ∷ es)) fs) [
      | true ↦ ap (λ t. (k + 1) ∷ t) rec
      | false ↦ rec
    ]

none_owned : (n k : ℕ) (es : List Entry) → AllByRecursion (λ e. owner_of e ≡ n → ⊥) es → places_owned n k es ≡ []
none_owned n k [] h = refl
none_owned n k (e ∷ es) h = elim (owner_of e == n) as (λ b. (owner_of e == n) ≡ b → cond b ((k + 1) ∷ places_owned n (k + 1) es) (places_owned n (k + 1) es) ≡ []) [
  | true ↦ λ same. absurd (h.0 (eqb-true (owner_of e) n same))
  | false ↦ λ not. none_owned n (k + 1) es h.1
] refl

others_none : (n : ℕ) (ys : List Event) → ((x : Event) → HasElement ys x → pass_named_by x ≡ n → ⊥) → AllByRecursion (λ e. owner_of e ≡ n → ⊥) (entries_among ys)
others_none n [] h = tt
others_none n (Done e ∷ ys) h = (h (Done e) (0, refl), others_none n ys (λ x has. h x (suc has.0, has.1)))
others_none n (Mark pass e ∷ ys) h = others_none n ys (λ x has. h x (suc has.0, has.1))

-- events of others change nothing
pub places_on : (p : Pass) (events : List Event) → StartsWith events p.seen → OthersAlone p events → places_owned p.number 0 (entries_among events) ≡ places_owned p.number 0 (entries_among p.seen)
places_on p events begins others =
    let after : drop (length p.seen) events ≡ begins.0 = ap (drop (length p.seen)) begins.1 ∙ drop-append_seam p.seen begins.0 in
    let none = none_owned p.number (0 + length (entries_among p.seen)) (entries_among begins.0) (others_none p.number begins.0 (λ x has. others x (subst (λ (xs : List Event). HasElement xs x) (sym after) has))) in
    ap (λ (xs : List Event). places_owned p.number 0 (entries_among xs)) begins.1 ∙ ap (places_owned p.number 0) (entries_of-append p.seen begins.0)
    ∙ places_append p.number 0 (entries_among p.seen) (entries_among begins.0) ∙ ap (λ t. places_owned p.number 0 (entries_among p.seen) ++ t) none ∙ append-nil (places_owned p.number 0 (entries_among p.seen))
