-- The result of a follower for blocks is a history.
use Rattle.std.proofs.Common.{◌≡◌, ℕ, ◌+◌, ◌≤◌, ◌<◌, ◌^◌, List, [], ◌∷◌, ◌++◌, length, Some, None, refl, ap, sym, ◌∙◌, arith}
use Rattle.std.specs.List.{AllByRecursion}
use Rattle.jf_hash.specs.Maps.{IsBatch}
use Rattle.jf_model.specs.Versions.{Versions, root_of, versions_after_landing}
use Rattle.jf_model.specs.States.{State}
use Rattle.jf_model.specs.Entries.{after, replay, AreLegal, IsLegal}
use Rattle.jf_model.proofs.VersionLaws.{root_of-land_all}
use Rattle.jf_lead.specs.declared.block.LandingBlock.{LandingBlock}
use Rattle.jf_lead.proofs.LandingLaws.{root_of-landed_block}
use Rattle.jf_follow.specs.declared.judging.Judgement.{Judgement}
use Rattle.jf_follow.specs.declared.judging.Judgement.TheVariants as judged
use Rattle.jf_follow.specs.Following.{judgement, FollowedBlocks, dated_entry, and_entry_before, follow}
use Rattle.jf_follow.specs.Laws.{FollowingGoesOn, FollowingReplays, FollowingIsLegal, BlocksComeAgain}
use Rattle.jf_follow.proofs.Judgements.{IsNext, IsKnown, judged_next, judged_known, row_known, not_at_limit}

-- what blocks make after one that is judged so
abbrev pub after_judgement : Versions → LandingBlock → List LandingBlock → Judgement → FollowedBlocks
after_judgement v b bs j =
    elim j as (λ x. FollowedBlocks) [
      | judged.Known ↦ follow v bs
      | judged.Next ↦ and_entry_before (dated_entry b 0) (follow (versions_after_landing b.batch v) bs)
      | judged.Refused why ↦ record { versions = v; entries = []; refused = Some why }
    ]

-- blocks that follow those that made this
abbrev and_on : FollowedBlocks → List LandingBlock → FollowedBlocks
and_on f cs = record { versions = (follow f.versions cs).versions; entries = f.entries ++ (follow f.versions cs).entries; refused = (follow f.versions cs).refused }

module _ (b : LandingBlock) (bs cs : List LandingBlock) (others : (v : Versions) → (follow v bs).refused ≡ None → follow v (bs ++ cs) ≡ and_on (follow v bs) cs) where
  on_by : (v : Versions) (j : Judgement) → (after_judgement v b bs j).refused ≡ None → after_judgement v b (bs ++ cs) j ≡ and_on (after_judgement v b bs j) cs
  on_by v judged.Known none = others v none
  on_by v judged.Next none = ap (and_entry_before (dated_entry b 0)) (others (versions_after_landing b.batch v) none)
  on_by v (judged.Refused why) none = absurd (cc)

goes_on : (bs cs : List LandingBlock) (v : Versions) → (follow v bs).refused ≡ None → follow v (bs ++ cs) ≡ and_on (follow v bs) cs
unfolding follow
goes_on [] cs v none = refl
goes_on (b ∷ bs) cs v none = on_by b bs cs (λ w. goes_on bs cs w) v (judgement v b) none

pub following-on : FollowingGoesOn
following-on v bs cs none = goes_on bs cs v none

-- ---- entries
module _ (b : LandingBlock) (bs : List LandingBlock) (others : (s : State) → (replay s (follow s.all bs).entries).all ≡ (follow s.all bs).versions) where
  replays_by : (s : State) (j : Judgement) → (replay s (after_judgement s.all b bs j).entries).all ≡ (after_judgement s.all b bs j).versions
  unfolding replay after
  replays_by s judged.Known = others s
  replays_by s judged.Next = others (after (dated_entry b 0) s)
  replays_by s (judged.Refused why) = refl

replays : (bs : List LandingBlock) (s : State) → (replay s (follow s.all bs).entries).all ≡ (follow s.all bs).versions
unfolding follow replay
replays [] s = refl
replays (b ∷ bs) s = replays_by b bs (λ t. replays bs t) s (judgement s.all b)

pub following-replays : FollowingReplays
following-replays s bs = replays bs s

legal_entry : (s : State) (b : LandingBlock) → IsBatch b.batch → s.count < 2 ^ 62 → judgement s.all b ≡ judged.Next → IsLegal s (dated_entry b 0)
legal_entry s b batch room lands =
    let next = judged_next s.all b lands in
    let small = not_at_limit s.all next.more in (
      room,
      record { may = batch; small = small.1; next = next.follows; bounded = let is = next.follows in let few = small.0 in omega arith; rooted = sym next.rooted },
    )

module _ (b : LandingBlock) (bs : List LandingBlock) (others : (s : State) → s.count + length (follow s.all bs).entries ≤ 2 ^ 62 → AreLegal s (follow s.all bs).entries) where
  legal_by : (s : State) (j : Judgement) → IsBatch b.batch → judgement s.all b ≡ j → s.count + length (after_judgement s.all b bs j).entries ≤ 2 ^ 62 → AreLegal s (after_judgement s.all b bs j).entries
  unfolding after
  legal_by s judged.Known batch is room = others s room
  legal_by s judged.Next batch is room = (legal_entry s b batch (omega arith) is, others (after (dated_entry b 0) s) (omega arith))
  legal_by s (judged.Refused why) batch is room = tt

legal : (bs : List LandingBlock) → AllByRecursion (λ (b : LandingBlock). IsBatch b.batch) bs → (s : State) → s.count + length (follow s.all bs).entries ≤ 2 ^ 62 → AreLegal s (follow s.all bs).entries
unfolding follow
legal [] all s room = tt
legal (b ∷ bs) all s room = legal_by b bs (λ t. legal bs all.1 t) s (judgement s.all b) all.0 refl room

pub following-legal : FollowingIsLegal
following-legal s bs all room = legal bs all s room

-- ---- blocks that come again
-- a version that is there stays
known-landed : (v : Versions) (version : ℕ) (r : List ℕ) (b : LandingBlock) → IsKnown v version r → IsKnown (versions_after_landing b.batch v) version r
known-landed v version r b is = record {
  low = is.low;
  high = let high = is.high in omega arith;
  same = root_of-land_all (b.batch ∷ []) v version is.high ∙ is.same;
}

known-stays_by : (bs : List LandingBlock) (b : LandingBlock) (version : ℕ) (r : List ℕ) → ((v : Versions) → IsKnown v version r → IsKnown (follow v bs).versions version r)
    → (v : Versions) (j : Judgement) → IsKnown v version r → IsKnown (after_judgement v b bs j).versions version r
known-stays_by bs b version r others v judged.Known is = others v is
known-stays_by bs b version r others v judged.Next is = others (versions_after_landing b.batch v) (known-landed v version r b is)
known-stays_by bs b version r others v (judged.Refused why) is = is

known-stays : (bs : List LandingBlock) (version : ℕ) (r : List ℕ) (v : Versions) → IsKnown v version r → IsKnown (follow v bs).versions version r
unfolding follow
known-stays [] version r v is = is
known-stays (b ∷ bs) version r v is = known-stays_by bs b version r (λ w h. known-stays bs version r w h) v (judgement v b) is

-- what landed is there
known-now : (v : Versions) (b : LandingBlock) → IsNext v b → IsKnown (versions_after_landing b.batch v) b.version b.root
known-now v b next = record {
  low = next.low;
  high = let is = next.follows in omega arith;
  same = ap (root_of (versions_after_landing b.batch v)) next.follows ∙ root_of-landed_block b.batch v ∙ next.rooted;
}

abbrev AreKnown : Versions → List LandingBlock → Type 0
AreKnown v bs = AllByRecursion (λ (b : LandingBlock). IsKnown v b.version b.root) bs

known_by : (b : LandingBlock) (bs : List LandingBlock) (v : Versions) (j : Judgement) → judgement v b ≡ j → (after_judgement v b bs j).refused ≡ None → IsKnown (after_judgement v b bs j).versions b.version b.root
known_by b bs v judged.Known is none = known-stays bs b.version b.root v (judged_known v b is)
known_by b bs v judged.Next is none = known-stays bs b.version b.root (versions_after_landing b.batch v) (known-now v b (judged_next v b is))
known_by b bs v (judged.Refused why) is none = absurd (cc)

rest_by : (b : LandingBlock) (bs : List LandingBlock) → ((v : Versions) → (follow v bs).refused ≡ None → AreKnown (follow v bs).versions bs)
    → (v : Versions) (j : Judgement) → (after_judgement v b bs j).refused ≡ None → AreKnown (after_judgement v b bs j).versions bs
rest_by b bs others v judged.Known none = others v none
rest_by b bs others v judged.Next none = others (versions_after_landing b.batch v) none
rest_by b bs others v (judged.Refused why) none = absurd (cc)

all_known : (bs : List LandingBlock) (v : Versions) → (follow v bs).refused ≡ None → AreKnown (follow v bs).versions bs
unfolding follow
all_known [] v none = tt
all_known (b ∷ bs) v none =
    (known_by b bs v (judgement v b) refl none, rest_by b bs (λ w h. all_known bs w h) v (judgement v b) none)

again : (v : Versions) (bs : List LandingBlock) → AreKnown v bs → follow v bs ≡ record { versions = v; entries = []; refused = None }
unfolding follow
again v [] known = refl
again v (b ∷ bs) known =
    let is = known.0 in
    ap (after_judgement v b bs) (row_known v b is.low is.high is.same) ∙ again v bs known.1

pub come-again : BlocksComeAgain
come-again v bs none = again (follow v bs).versions bs (all_known bs v none)
