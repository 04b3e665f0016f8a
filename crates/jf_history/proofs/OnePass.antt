-- A pass that is alone on its store.
use Rattle.std.proofs.Common.{◌≡◌, ◌<◌, List, [], ◌∷◌, ◌++◌, drop, length, refl, ap, ◌∙◌, subst, arith, append-nil}
use Rattle.std.proofs.Math.Seq.{drop-append_seam}
use Rattle.std.specs.List.{AllByRecursion}
use lib.ListN.{get_elem?}
use Rattle.jf_turn.specs.Lists.{StartsWith}
use Rattle.jf_store.specs.declared.event.Event.{Event}
use Rattle.jf_store.specs.Events.{pass_named_by}
use Rattle.jf_store.specs.Starts.{Start}
use Rattle.jf_store.specs.Passes.{Pass, OthersAlone}
use Rattle.jf_history.specs.Laws.{OnePassSees, OnePassAdds, OnePassCloses}

-- what holds of each event of two lists holds of each of the first, and of the second
pub all_front : {X : Type 0} (P : X → Type 0) (xs ys : List X) → AllByRecursion P (xs ++ ys) → AllByRecursion P xs
all_front P [] ys h = tt
all_front P (x ∷ xs) ys h = (h.0, all_front P xs ys h.1)

pub all_back : {X : Type 0} (P : X → Type 0) (xs ys : List X) → AllByRecursion P (xs ++ ys) → AllByRecursion P ys
all_back P [] ys h = h
all_back P (x ∷ xs) ys h = all_back P xs ys h.1

none_after : (start : Start) (p : Pass) (events rest : List Event) → start.passes ≡ 1 → p.number < start.passes → AllByRecursion (λ x. pass_named_by x < start.passes) events → events ≡ p.seen ++ rest → OthersAlone p events → events ≡ p.seen
none_after start p events [] one below named e others = e ∙ append-nil p.seen
none_after start p events (x ∷ rest) one below named e others =
    let there : drop (length p.seen) events ≡ x ∷ rest = ap (drop (length p.seen)) e ∙ drop-append_seam p.seen (x ∷ rest) in
    let low = (all_back (λ x. pass_named_by x < start.passes) p.seen (x ∷ rest) (subst (AllByRecursion (λ x. pass_named_by x < start.passes)) e named)).0 in
    absurd (others x (0, ap (λ (xs : List Event). get_elem? xs 0) there) (omega arith))

-- the only pass has seen all events, if those that it hasn't seen don't name it
pub alone : (start : Start) (p : Pass) (events : List Event) → start.passes ≡ 1 → p.number < start.passes → AllByRecursion (λ x. pass_named_by x < start.passes) events → StartsWith events p.seen → OthersAlone p events → events ≡ p.seen
alone start p events one below named begins others = none_after start p events begins.0 one below named begins.1 others

pub one_pass_sees : OnePassSees
one_pass_sees start old new one below events s = s.same ∙ ap (λ (es : List Event). record old { seen = es }) (alone start old new.seen one below events.named s.begins s.others)

pub one_pass_adds : OnePassAdds
one_pass_adds start old new before x one below events a =
    let seen : new.seen ≡ before ++ x ∷ [] = ap (λ (p : Pass). p.seen) a.last in
    alone start old before one below (all_front (λ x. pass_named_by x < start.passes) before (x ∷ []) (subst (AllByRecursion (λ x. pass_named_by x < start.passes)) seen events.named)) a.begins a.others

pub one_pass_closes : OnePassCloses
one_pass_closes start p entries engine one below closed = alone start p closed.events one below closed.history.named (closed.seen p (0, refl)) (closed.others p (0, refl))
