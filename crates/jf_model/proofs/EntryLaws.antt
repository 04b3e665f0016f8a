-- Laws on entries: when each is legal, and the state that it makes.
use Rattle.std.specs.Prelude.{◌≡◌, ◌+◌, ◌-◌, List, [], ◌∷◌, ◌++◌, ℕ, ◌≤◌, Bool, true, false, ◌||◌, cond, ◌==◌, IsTrue, length, ◌<◌}
use Rattle.std.proofs.Common.{refl, arith, ap, ◌∙◌, sym, subst}
use Rattle.std.proofs.lemmas.Bool.{eqb-true}
use Rattle.std.specs.List.{AllByRecursion}
use Rattle.jf_path.proofs.BoolLaws.{or_true, or_true_left, or_false_right}
use Rattle.jf_hash.specs.Maps.{IsBatch, Batch}
use Rattle.jf_model.specs.States.{State, IsState}
use Rattle.jf_model.specs.declared.entries.Entry.{Entry}
use Rattle.jf_model.specs.Entries.{after, replay, AreLegal, IsLegal, at_moment, RiseFrom, moments_of, IsHistory}
use Rattle.jf_model.specs.Forks.{Fork, AreForks, of_parent, is_among, chain, descends, on_head, forks_after_landing, without, is_parent, batches}
use Rattle.jf_model.specs.declared.entries.Parent.{Parent}
use Rattle.jf_model.specs.Versions.{land_all}
use Rattle.jf_model.specs.declared.entries.Parent.TheVariants as parent
use Rattle.jf_model.specs.declared.entries.Landing.TheVariants as landing
use Rattle.jf_model.specs.declared.entries.Entry.TheVariants as entry
use Rattle.jf_model.proofs.ForkLists.{any_last}
use Rattle.jf_model.proofs.VersionLaws.{land_all-IsVersions, land_all-head, land_all-floor}

-- ---- laws
pub replay-append : (s : State) (es fs : List Entry) → replay s (es ++ fs) ≡ replay (replay s es) fs
unfolding replay
replay-append s [] fs = refl
replay-append s (e ∷ es) fs = replay-append (after e s) es fs

pub AreLegal-append : (s : State) (es fs : List Entry) → AreLegal s es → AreLegal (replay s es) fs → AreLegal s (es ++ fs)
unfolding replay
AreLegal-append s [] fs h k = k
AreLegal-append s (e ∷ es) fs h k = (h.0, AreLegal-append (after e s) es fs h.1 k)

pub AreLegal-front : (s : State) (es fs : List Entry) → AreLegal s (es ++ fs) → AreLegal s es
AreLegal-front s [] fs h = tt
AreLegal-front s (e ∷ es) fs h = (h.0, AreLegal-front (after e s) es fs h.1)

-- ---- forks that stay are forks
AreForks-higher : (low high : ℕ) (fs : List Fork) → AreForks low fs → low ≤ high → AreForks high fs
AreForks-higher low high [] h le = tt
AreForks-higher low high (f ∷ fs) h le = let below = h.0 in (omega arith, h.1, h.2)

both_false : (a b : Bool) → (a || b) ≡ false → (b || a) ≡ false
both_false true true h = h
both_false true false h = h
both_false false true h = h
both_false false false h = h

-- whether id is on the chain of a fork, by the fork's parent and its own id
on_chain : (id : ℕ) (f : Fork) (fs : List Fork) (q : ℕ) → (f.id == q) ≡ true → is_among id (chain (f ∷ fs) q) ≡ (descends id fs f || (f.id == id))
on_chain id f fs q e =
    ap (λ b. is_among id (cond b (of_parent [] (chain fs) f.parent ++ f ∷ []) (chain fs q))) e ∙ any_last (λ g. g.id == id) (of_parent [] (chain fs) f.parent) f

off_chain : (id : ℕ) (f : Fork) (fs : List Fork) (q : ℕ) → (f.id == q) ≡ false → is_among id (chain (f ∷ fs) q) ≡ is_among id (chain fs q)
off_chain id f fs q e = ap (λ b. is_among id (cond b (of_parent [] (chain fs) f.parent ++ f ∷ []) (chain fs q))) e

first_among : (b : Bool) (q : ℕ) (g : Fork) (gs hs : List Fork) → (g.id == q) ≡ true → b ≡ true → is_among q (cond b (g ∷ gs) hs) ≡ true
first_among true q g gs hs here stays = ap (λ t. t || is_among q gs) here
first_among false q g gs hs here stays = absurd (cc)

kept_first : (b : Bool) (q : ℕ) (g : Fork) (gs hs : List Fork) → (g.id == q) ≡ true → b ≡ false → is_among q (cond b hs (g ∷ gs)) ≡ true
kept_first true q g gs hs here stays = absurd (cc)
kept_first false q g gs hs here stays = ap (λ t. t || is_among q gs) here

later_among : (b : Bool) (q : ℕ) (g : Fork) (gs : List Fork) → is_among q gs ≡ true → is_among q (cond b (g ∷ gs) gs) ≡ true
later_among true q g gs h = ap (λ t. (g.id == q) || t) h ∙ or_true (g.id == q)
later_among false q g gs h = h

kept_later : (b : Bool) (q : ℕ) (g : Fork) (gs : List Fork) → is_among q gs ≡ true → is_among q (cond b gs (g ∷ gs)) ≡ true
kept_later true q g gs h = h
kept_later false q g gs h = ap (λ t. (g.id == q) || t) h ∙ or_true (g.id == q)

-- a fork that stands on id stays when id lands
among-settled : (id q : ℕ) (fs : List Fork) → is_among id (chain fs q) ≡ true → (q == id) ≡ false → is_among q (forks_after_landing id fs) ≡ true
among-settled id q [] h apart = h
among-settled id q (f ∷ fs) h apart = elim (f.id == q) as (λ b. (f.id == q) ≡ b → is_among q (forks_after_landing id (f ∷ fs)) ≡ true) [
  | true ↦ λ here.
      let own : (f.id == id) ≡ false = ap (λ n. n == id) (eqb-true f.id q here) ∙ apart in
      let stays : descends id fs f ≡ true = or_true_left (descends id fs f) (f.id == id) own (sym (on_chain id f fs q here) ∙ h) in
      first_among (descends id fs f) q (on_head id f) (forks_after_landing id fs) (forks_after_landing id fs) here stays
  | false ↦ λ off. later_among (descends id fs f) q (on_head id f) (forks_after_landing id fs) (among-settled id q fs (sym (off_chain id f fs q off) ∙ h) apart)
] refl

-- a fork that doesn't stand on id stays when id is dropped
among-without : (id q : ℕ) (fs : List Fork) → is_among q fs ≡ true → is_among id (chain fs q) ≡ false → is_among q (without id fs) ≡ true
among-without id q [] among h = among
among-without id q (f ∷ fs) among h = elim (f.id == q) as (λ b. (f.id == q) ≡ b → is_among q (without id (f ∷ fs)) ≡ true) [
  | true ↦ λ here. kept_first ((f.id == id) || descends id fs f) q f (without id fs) (without id fs) here (both_false (descends id fs f) (f.id == id) (sym (on_chain id f fs q here) ∙ h))
  | false ↦ λ off. kept_later ((f.id == id) || descends id fs f) q f (without id fs)
      (among-without id q fs (ap (λ b. b || is_among q fs) (sym off) ∙ among) (sym (off_chain id f fs q off) ∙ h))
] refl

truth : (b : Bool) → IsTrue b → b ≡ true
truth b h = h

-- a parent that stays is a parent after the landing, with the head in place of the fork that landed
parent-settled : (id : ℕ) (fs : List Fork) (p : Parent) → is_among id (of_parent [] (chain fs) p) ≡ true → IsTrue (is_parent (of_parent parent.Head (λ q. cond (q == id) parent.Head (parent.Fork q)) p) (forks_after_landing id fs))
parent-settled id fs parent.Head h = refl
parent-settled id fs (parent.Fork q) h = elim (q == id) as (λ b. (q == id) ≡ b → IsTrue (is_parent (cond b parent.Head (parent.Fork q)) (forks_after_landing id fs))) [
  | true ↦ λ same. refl
  | false ↦ λ apart. among-settled id q fs h apart
] refl

parent-without : (id : ℕ) (fs : List Fork) (p : Parent) → IsTrue (is_parent p fs) → is_among id (of_parent [] (chain fs) p) ≡ false → IsTrue (is_parent p (without id fs))
parent-without id fs parent.Head live h = refl
parent-without id fs (parent.Fork q) live h = among-without id q fs live h

pub AreForks-settled : (bound id : ℕ) (fs : List Fork) → AreForks bound fs → AreForks bound (forks_after_landing id fs)
AreForks-settled bound id [] h = tt
AreForks-settled bound id (f ∷ fs) h =
    let older : AreForks f.id (forks_after_landing id fs) = AreForks-settled f.id id fs h.2 in
    elim (descends id fs f) as (λ b. descends id fs f ≡ b → AreForks bound (cond b (on_head id f ∷ forks_after_landing id fs) (forks_after_landing id fs))) [
      | true ↦ λ stays. (h.0, parent-settled id fs f.parent stays, older)
      | false ↦ λ gone. let below = h.0 in AreForks-higher f.id bound (forks_after_landing id fs) older (omega arith)
    ] refl

pub AreForks-without : (bound id : ℕ) (fs : List Fork) → AreForks bound fs → AreForks bound (without id fs)
AreForks-without bound id [] h = tt
AreForks-without bound id (f ∷ fs) h =
    let older : AreForks f.id (without id fs) = AreForks-without f.id id fs h.2 in
    elim ((f.id == id) || descends id fs f) as (λ b. ((f.id == id) || descends id fs f) ≡ b → AreForks bound (cond b (without id fs) (f ∷ without id fs))) [
      | true ↦ λ gone. let below = h.0 in AreForks-higher f.id bound (without id fs) older (omega arith)
      | false ↦ λ stays. (h.0, parent-without id fs f.parent h.1 (or_false_right (f.id == id) (descends id fs f) stays), older)
    ] refl

-- ---- their batches stay batches
abbrev HoldBatches : List Fork → Type 0
HoldBatches fs = AllByRecursion (λ f. IsBatch f.batch) fs

batches-settled : (id : ℕ) (fs : List Fork) → HoldBatches fs → HoldBatches (forks_after_landing id fs)
batches-settled id [] h = tt
batches-settled id (f ∷ fs) h = elim (descends id fs f) as (λ b. HoldBatches (cond b (on_head id f ∷ forks_after_landing id fs) (forks_after_landing id fs))) [
  | true ↦ (h.0, batches-settled id fs h.1)
  | false ↦ batches-settled id fs h.1
]

batches-without : (id : ℕ) (fs : List Fork) → HoldBatches fs → HoldBatches (without id fs)
batches-without id [] h = tt
batches-without id (f ∷ fs) h = elim ((f.id == id) || descends id fs f) as (λ b. HoldBatches (cond b (without id fs) (f ∷ without id fs))) [
  | true ↦ batches-without id fs h.1
  | false ↦ (h.0, batches-without id fs h.1)
]

all_batches : (fs : List Fork) (f : Fork) → AllByRecursion IsBatch (batches fs) → IsBatch f.batch → AllByRecursion IsBatch (batches (fs ++ f ∷ []))
all_batches [] f h b = (b, tt)
all_batches (g ∷ fs) f h b = (h.0, all_batches fs f h.1 b)

parent_batches : (fs : List Fork) (p : Parent) → ((q : ℕ) → AllByRecursion IsBatch (batches (chain fs q))) → AllByRecursion IsBatch (batches (of_parent [] (chain fs) p))
parent_batches fs parent.Head older = tt
parent_batches fs (parent.Fork q) older = older q

-- the batches of a chain are batches
pub chain-batches : (fs : List Fork) (id : ℕ) → AllByRecursion (λ f. IsBatch f.batch) fs → AllByRecursion IsBatch (batches (chain fs id))
chain-batches [] id h = tt
chain-batches (f ∷ fs) id h = elim (f.id == id) as (λ b. AllByRecursion IsBatch (batches (cond b (of_parent [] (chain fs) f.parent ++ f ∷ []) (chain fs id)))) [
  | true ↦ all_batches (of_parent [] (chain fs) f.parent) f (parent_batches fs f.parent (λ q. chain-batches fs q h.1)) h.0
  | false ↦ chain-batches fs id h.1
]

-- ---- legal entries keep a state sound
landed-IsState : (s : State) (bs : List Batch) (fs : List Fork) (count : ℕ) → IsState s → AllByRecursion IsBatch bs → AreForks s.made fs → HoldBatches fs
    → IsState (record s { all = land_all bs s.all; count = count; forks = fs })
landed-IsState s bs fs count h sound live held = record {
  sound = land_all-IsVersions bs s.all h.sound sound;
  first = let low = h.first in omega (arith, land_all-floor bs s.all);
  floor_low = h.floor_low;
  retired_low = let high = h.retired_low in omega (arith, land_all-head bs s.all);
  live = live;
  batches = held;
}

pub after-IsState : (s : State) (e : Entry) → IsState s → IsLegal s e → IsState (after e s)
unfolding after
after-IsState s (entry.Made owner fork p batch r) h legal = record {
  sound = h.sound;
  first = h.first;
  floor_low = h.floor_low;
  retired_low = h.retired_low;
  live = (let next = legal.1.next in omega arith, legal.1.stands, subst (λ n. AreForks n s.forks) (sym legal.1.next) h.live);
  batches = (legal.1.sound, h.batches);
}
after-IsState s (entry.Landed owner version (landing.Direct batch) r moment) h legal = landed-IsState s (batch ∷ []) [] (s.count + 1) h (legal.1.may, tt) tt tt
after-IsState s (entry.Landed owner version (landing.Fork id) r moment) h legal =
    landed-IsState s (batches (chain s.forks id)) (forks_after_landing id s.forks) (s.count + 1) h (chain-batches s.forks id h.batches) (AreForks-settled s.made id s.forks h.live) (batches-settled id s.forks h.batches)
after-IsState s (entry.Dropped owner fork) h legal = record {
  sound = h.sound;
  first = h.first;
  floor_low = h.floor_low;
  retired_low = h.retired_low;
  live = AreForks-without s.made fork s.forks h.live;
  batches = batches-without fork s.forks h.batches;
}
after-IsState s (entry.Retired owner bound floor) h legal = record {
  sound = h.sound;
  first = let low = h.first in let rises = legal.1.floor_rises in omega arith;
  floor_low = legal.1.below;
  retired_low = legal.1.within;
  live = h.live;
  batches = h.batches;
}
after-IsState s (entry.Compacted owner generation) h legal = record { sound = h.sound; first = h.first; floor_low = h.floor_low; retired_low = h.retired_low; live = h.live; batches = h.batches }

pub replay-IsState : (s : State) (es : List Entry) → IsState s → AreLegal s es → IsState (replay s es)
unfolding replay
replay-IsState s [] h legal = h
replay-IsState s (e ∷ es) h legal = replay-IsState (after e s) es (after-IsState s e h legal.0) legal.1

-- ---- a list of entries, and one more
pub AreLegal-back : (s : State) (es fs : List Entry) → AreLegal s (es ++ fs) → AreLegal (replay s es) fs
unfolding replay
AreLegal-back s [] fs h = h
AreLegal-back s (e ∷ es) fs h = AreLegal-back (after e s) es fs h.1

pub AreLegal-push : (s : State) (es : List Entry) (e : Entry) → AreLegal s es → IsLegal (replay s es) e → AreLegal s (es ++ e ∷ [])
AreLegal-push s es e h legal = AreLegal-append s es (e ∷ []) h (legal, tt)

pub replay-push : (s : State) (es : List Entry) (e : Entry) → replay s (es ++ e ∷ []) ≡ after e (replay s es)
unfolding replay
replay-push s es e = replay-append s es (e ∷ [])

-- an entry adds 1 to the number of entries
pub after-count : (e : Entry) (s : State) → (after e s).count ≡ s.count + 1
unfolding after
after-count (entry.Made owner fork p batch r) s = refl
after-count (entry.Landed owner version how r moment) s = refl
after-count (entry.Dropped owner fork) s = refl
after-count (entry.Retired owner bound floor) s = refl
after-count (entry.Compacted owner generation) s = refl

pub replay-count : (s : State) (es : List Entry) → (replay s es).count ≡ s.count + length es
unfolding replay
replay-count s [] = omega arith
replay-count s (e ∷ es) = let one = after-count e s in let more = replay-count (after e s) es in omega arith

-- ---- moments
-- the state after an entry doesn't depend on the entry's moment
pub after-at_moment : (t : ℕ) (e : Entry) (s : State) → after (at_moment t e) s ≡ after e s
unfolding after
after-at_moment t (entry.Made owner fork p batch r) s = refl
after-at_moment t (entry.Landed owner version how r moment) s = refl
after-at_moment t (entry.Dropped owner fork) s = refl
after-at_moment t (entry.Retired owner bound floor) s = refl
after-at_moment t (entry.Compacted owner generation) s = refl

pub legal-at_moment : (t : ℕ) (e : Entry) (s : State) → IsLegal s e → IsLegal s (at_moment t e)
legal-at_moment t (entry.Made owner fork p batch r) s h = h
legal-at_moment t (entry.Landed owner version how r moment) s h = (h.0, record { may = h.1.may; small = h.1.small; next = h.1.next; bounded = h.1.bounded; rooted = h.1.rooted })
legal-at_moment t (entry.Dropped owner fork) s h = h
legal-at_moment t (entry.Retired owner bound floor) s h = h
legal-at_moment t (entry.Compacted owner generation) s h = h

-- the least moment that may follow moments
abbrev pub above : ℕ → List ℕ → ℕ
above low [] = low
above low (m ∷ ms) = above (m + 1) ms

pub RiseFrom-append : (low : ℕ) (ms ns : List ℕ) → RiseFrom low ms → RiseFrom (above low ms) ns → RiseFrom low (ms ++ ns)
RiseFrom-append low [] ns h k = k
RiseFrom-append low (m ∷ ms) ns h k = (h.0, RiseFrom-append (m + 1) ms ns h.1 k)

pub RiseFrom-front : (low : ℕ) (ms ns : List ℕ) → RiseFrom low (ms ++ ns) → RiseFrom low ms
RiseFrom-front low [] ns h = tt
RiseFrom-front low (m ∷ ms) ns h = (h.0, RiseFrom-front (m + 1) ms ns h.1)

pub RiseFrom-back : (low : ℕ) (ms ns : List ℕ) → RiseFrom low (ms ++ ns) → RiseFrom (above low ms) ns
RiseFrom-back low [] ns h = h
RiseFrom-back low (m ∷ ms) ns h = RiseFrom-back (m + 1) ms ns h.1

pub RiseFrom-lower : (low high : ℕ) (ms : List ℕ) → low ≤ high → RiseFrom high ms → RiseFrom low ms
RiseFrom-lower low high [] le h = tt
RiseFrom-lower low high (m ∷ ms) le h = let first = h.0 in (omega arith, h.1)

-- if all moments of a rising list are below t, the least that may follow is at most t
pub above-all : (low t : ℕ) (ms : List ℕ) → RiseFrom low ms → low ≤ t → AllByRecursion (λ m. m < t) ms → above low ms ≤ t
above-all low t [] h le all = le
above-all low t (m ∷ ms) h le all = let below = all.0 in above-all (m + 1) t ms h.1 (omega arith) all.1

pub moments_of-append : (es fs : List Entry) → moments_of (es ++ fs) ≡ moments_of es ++ moments_of fs
moments_of-append [] fs = refl
moments_of-append (entry.Made owner fork p batch r ∷ es) fs = moments_of-append es fs
moments_of-append (entry.Landed owner version how r moment ∷ es) fs = ap (λ ms. moment ∷ ms) (moments_of-append es fs)
moments_of-append (entry.Dropped owner fork ∷ es) fs = moments_of-append es fs
moments_of-append (entry.Retired owner bound floor ∷ es) fs = moments_of-append es fs
moments_of-append (entry.Compacted owner generation ∷ es) fs = moments_of-append es fs

-- ---- histories
pub IsHistory-none : (s : State) → IsHistory s []
IsHistory-none s = record { each = tt; moments = tt }

pub IsHistory-append : (s : State) (es fs : List Entry) → IsHistory s es → AreLegal (replay s es) fs → RiseFrom (above 0 (moments_of es)) (moments_of fs) → IsHistory s (es ++ fs)
IsHistory-append s es fs h legal later = record {
  each = AreLegal-append s es fs h.each legal;
  moments = subst (RiseFrom 0) (sym (moments_of-append es fs)) (RiseFrom-append 0 (moments_of es) (moments_of fs) h.moments later);
}

-- a history goes on with a legal entry whose moment is above those before it
pub IsHistory-push : (s : State) (es : List Entry) (e : Entry) → IsHistory s es → IsLegal (replay s es) e → RiseFrom (above 0 (moments_of es)) (moments_of (e ∷ [])) → IsHistory s (es ++ e ∷ [])
IsHistory-push s es e h legal later = IsHistory-append s es (e ∷ []) h (legal, tt) later

pub IsHistory-front : (s : State) (es fs : List Entry) → IsHistory s (es ++ fs) → IsHistory s es
IsHistory-front s es fs h = record { each = AreLegal-front s es fs h.each; moments = RiseFrom-front 0 (moments_of es) (moments_of fs) (subst (RiseFrom 0) (moments_of-append es fs) h.moments) }

pub IsHistory-IsState : (s : State) (es : List Entry) → IsState s → IsHistory s es → IsState (replay s es)
IsHistory-IsState s es h history = replay-IsState s es h history.each
