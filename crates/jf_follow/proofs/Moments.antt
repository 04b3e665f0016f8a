-- What is handed back of blocks that were followed is a history.
use Rattle.std.proofs.Common.{◌≡◌, ℕ, ◌+◌, ◌≤◌, ◌^◌, List, [], ◌∷◌, length, map, refl, ap, sym, ◌∙◌, subst, arith}
use Rattle.std.proofs.lemmas.List.{length-map}
use Rattle.jf_model.specs.States.{State}
use Rattle.jf_model.specs.Entries.{after, replay, AreLegal, IsLegal, RiseFrom, moments_of, timeless}
use Rattle.jf_model.specs.declared.entries.Entry.{Entry}
use Rattle.jf_model.specs.declared.entries.Entry.TheVariants as entry
use Rattle.jf_engine.specs.Engines.{Engine}
use Rattle.jf_follow.specs.Following.{dated_entry, follow}
use Rattle.jf_follow.specs.Streams.{LandInTurn}
use Rattle.jf_follow.specs.Laws.{FollowedIsHistory}
use Rattle.jf_follow.proofs.Histories.{following-replays, following-legal}

-- each landing is later than the one before it
in_turn-rises : (es : List Entry) (old new : Engine) (low : ℕ) → low ≤ old.moment + 4 → LandInTurn old es new → RiseFrom low (moments_of es)
in_turn-rises [] old new low h turn = tt
in_turn-rises (e ∷ es) old new low h turn =
    let mid : Engine = turn.0 in
    let least = turn.3.1.least in
    let later = in_turn-rises es mid new (mid.moment + 1) (omega arith) turn.4 in
    let all : RiseFrom low (moments_of (dated_entry turn.1 mid.moment ∷ es)) = (omega (arith, h, least), later) in
    subst (λ x. RiseFrom low (moments_of (x ∷ es))) (sym turn.2) all

-- ---- without moments
-- an entry makes the same state without its moment
after-timeless : (e : Entry) (s : State) → after (timeless e) s ≡ after e s
unfolding after
after-timeless (entry.Landed owner version how r moment) s = refl
after-timeless (entry.Made owner fork parent batch r) s = refl
after-timeless (entry.Dropped owner fork) s = refl
after-timeless (entry.Retired owner bound floor) s = refl
after-timeless (entry.Compacted owner generation) s = refl

-- and is legal
legal-timeless : (e : Entry) (s : State) → IsLegal s (timeless e) → IsLegal s e
legal-timeless (entry.Landed owner version how r moment) s h = h
legal-timeless (entry.Made owner fork parent batch r) s h = h
legal-timeless (entry.Dropped owner fork) s h = h
legal-timeless (entry.Retired owner bound floor) s h = h
legal-timeless (entry.Compacted owner generation) s h = h

replay-timeless : (es : List Entry) (s : State) → replay s (map timeless es) ≡ replay s es
unfolding replay
replay-timeless [] s = refl
replay-timeless (e ∷ es) s = replay-timeless es (after (timeless e) s) ∙ ap (λ t. replay t es) (after-timeless e s)

all_legal-timeless : (es : List Entry) (s : State) → AreLegal s (map timeless es) → AreLegal s es
all_legal-timeless [] s h = tt
all_legal-timeless (e ∷ es) s h = (legal-timeless e s h.0, all_legal-timeless es (after e s) (subst (λ t. AreLegal t (map timeless es)) (after-timeless e s) h.1))

-- ---- blocks
pub followed-history : FollowedIsHistory
followed-history s old new bs es f same all room =
    let made : map timeless es ≡ (follow s.all bs).entries = f.entries ∙ ap (λ v. (follow v bs).entries) (sym same) in
    let few : s.count + length (follow s.all bs).entries ≤ 2 ^ 62 = subst (λ n. s.count + n ≤ 2 ^ 62) (sym (length-map es timeless) ∙ ap (λ (xs : List Entry). length xs) made) room in
    let legal : AreLegal s (map timeless es) = subst (λ xs. AreLegal s xs) (sym made) (following-legal s bs all few) in (
      record { each = all_legal-timeless es s legal; moments = in_turn-rises es old new 0 (omega arith) f.landed },
      ap (λ (t : State). t.all) (sym (replay-timeless es s) ∙ ap (λ xs. replay s xs) made) ∙ following-replays s bs ∙ ap (λ v. (follow v bs).versions) same ∙ sym f.versions,
    )
