-- What holds of all followers, as statements for calls that do nothing and ensure them.
use Rattle.std.specs.Prelude.{◌≡◌, ◌≢◌, ◌⊎◌, ℕ, ◌+◌, ◌^◌, ◌≤◌, List, [], ◌∷◌, ◌++◌, length, Option, option_map, Some, None}
use Rattle.std.specs.List.{AllByRecursion}
use Rattle.jf_hash.specs.Maps.{IsBatch}
use Rattle.jf_model.specs.Versions.{Versions, IsVersions, map_of, root_of, versions_after_landing}
use Rattle.jf_model.specs.States.{State}
use Rattle.jf_model.specs.Entries.{replay, AreLegal, IsHistory}
use Rattle.jf_model.specs.declared.entries.Entry.{Entry}
use Rattle.jf_io.specs.Lines.{lines}
use Rattle.jf_evidence.specs.Inputs.{Collides}
use Rattle.jf_evidence.specs.MapClashes.{maps_clash}
use Rattle.jf_engine.specs.Engines.{Engine}
use Rattle.jf_lead.specs.declared.block.LandingBlock.{LandingBlock}
use Rattle.jf_lead.specs.Landings.{landings, landings_text}
use Rattle.jf_lead.specs.Reading.{landing_blocks}
use Rattle.jf_lead.specs.Laws.{IsLandingBlock}
use Rattle.jf_follow.specs.declared.fault.FollowFault.TheVariants as fault
use Rattle.jf_follow.specs.declared.judging.Judgement.TheVariants as judged
use Rattle.jf_follow.specs.declared.followed.FollowRefused.{FollowRefused}
use Rattle.jf_follow.specs.declared.followed.FollowRefused.TheVariants as refused
use Rattle.jf_follow.specs.declared.followed.Followed.{Followed}
use Rattle.jf_follow.specs.declared.followed.Followed.TheVariants as followed
use Rattle.jf_follow.specs.Following.{follow, judgement, whole_blocks}
use Rattle.jf_follow.specs.Streams.{FollowsBlocks, HasFollowed}

-- ---- a leader and its followers
-- a follower that begins with a leader's versions and takes all landings of its history has the leader's versions
abbrev pub FollowersAgree : Type 0
FollowersAgree = (s : State) (es : List Entry) → s.all.base ≤ s.all.head → (follow s.all (landings s es)).refused ≡ None
    → (follow s.all (landings s es)).versions ≡ (replay s es).all

-- the landings of a leader's history are refused only if a map grows past 2^62 entries, or the versions end
abbrev pub FollowersRefuseOnlyLast : Type 0
FollowersRefuseOnlyLast = (s : State) (es : List Entry) → s.all.base ≤ s.all.head
    → ((follow s.all (landings s es)).refused ≡ None) ⊎ ((follow s.all (landings s es)).refused ≡ Some fault.Last)

-- a follower that begins with a leader's versions and takes the whole text of its landings has the leader's versions: no line
-- of the text is bad, and if no block is refused, each version has the leader's root and the leader's map
abbrev pub FollowersOfTextAgree : Type 0
FollowersOfTextAgree = (s : State) (es : List Entry) → s.all.base ≤ s.all.head → AllByRecursion IsLandingBlock (landings s es)
    → ((landing_blocks (lines (landings_text (landings s es)))).bad ≡ None)
    × ((follow s.all (whole_blocks (lines (landings_text (landings s es))))).refused ≡ None
    → (follow s.all (whole_blocks (lines (landings_text (landings s es))))).versions ≡ (replay s es).all)

-- the same of an input that was followed to its end: the store then has the leader's versions
abbrev pub InputsAgree : Type 0
InputsAgree = (s : State) (es fs : List Entry) (old new : Engine) (rest' text text' : Option (List ℕ)) → s.all ≡ old.versions → s.all.base ≤ s.all.head → AllByRecursion IsLandingBlock (landings s es)
    → HasFollowed followed.Done old new fs (Some (landings_text (landings s es))) rest' text text' → new.versions ≡ (replay s es).all

-- two stores of one version and root whose maps differ give a collision
abbrev pub FollowersCollide : Type 0
FollowersCollide = (v v' : Versions) (w : ℕ) → IsVersions v → IsVersions v' → v.floor ≤ w → w ≤ v.head → v'.floor ≤ w → w ≤ v'.head
    → root_of v w ≡ root_of v' w → map_of v w ≢ map_of v' w → Collides (maps_clash (map_of v w) (map_of v' w))

-- ---- what follows is a history
-- the blocks after others, if none of those is refused, are followed from where those led
abbrev pub FollowingGoesOn : Type 0
FollowingGoesOn = (v : Versions) (bs cs : List LandingBlock) → (follow v bs).refused ≡ None
    → follow v (bs ++ cs)
    ≡ record { versions = (follow (follow v bs).versions cs).versions; entries = (follow v bs).entries ++ (follow (follow v bs).versions cs).entries; refused = (follow (follow v bs).versions cs).refused }

-- the entries of a follower lead to its versions
abbrev pub FollowingReplays : Type 0
FollowingReplays = (s : State) (bs : List LandingBlock) → (replay s (follow s.all bs).entries).all ≡ (follow s.all bs).versions

-- and each of them is legal, if the batches are sound and the ledger has room
abbrev pub FollowingIsLegal : Type 0
FollowingIsLegal = (s : State) (bs : List LandingBlock) → AllByRecursion (λ (b : LandingBlock). IsBatch b.batch) bs → s.count + length (follow s.all bs).entries ≤ 2 ^ 62
    → AreLegal s (follow s.all bs).entries

-- what is handed back of blocks that were followed is a history, with the moments of the disk: each landing is legal, if the
-- batches are sound and the ledger has room, and later than the one before it; and it leads to the versions of the store
abbrev pub FollowedIsHistory : Type 0
FollowedIsHistory = (s : State) (old new : Engine) (bs : List LandingBlock) (es : List Entry) → FollowsBlocks old new bs es → s.all ≡ old.versions
    → AllByRecursion (λ (b : LandingBlock). IsBatch b.batch) bs → s.count + length es ≤ 2 ^ 62 → IsHistory s es × ((replay s es).all ≡ new.versions)

-- blocks that were taken and come again change nothing
abbrev pub BlocksComeAgain : Type 0
BlocksComeAgain = (v : Versions) (bs : List LandingBlock) → (follow v bs).refused ≡ None
    → follow (follow v bs).versions bs ≡ record { versions = (follow v bs).versions; entries = []; refused = None }

-- ---- what an input asks for
-- the first refusal of numbered blocks over versions; or, if none is refused, that of the bad line after them, if there is one
unfoldable pub refusal_over : Versions → List (ℕ × LandingBlock) → Option ℕ → Option FollowRefused
refusal_over v [] bad = option_map (λ at. refused.Line at) bad
refusal_over v (b ∷ bs) bad =
    elim (judgement v b.1) [
      | judged.Known ↦ refusal_over v bs bad
      | judged.Next ↦ refusal_over (versions_after_landing b.1.batch v) bs bad
      | judged.Refused why ↦ Some (refused.Block b.0 why)
    ]

-- the refusal of all lines
abbrev pub refusal_of_lines : Versions → List (List ℕ) → Option FollowRefused
refusal_of_lines v ls = refusal_over v (landing_blocks ls).whole (landing_blocks ls).bad

-- an input to its end is refused in just this way, or not at all; the other ends say nothing of it
abbrev pub IsDecidedBy : Followed → Option FollowRefused → Type 0
IsDecidedBy followed.Done refusal = refusal ≡ None
IsDecidedBy followed.WriteFault refusal = refusal ≡ None
IsDecidedBy (followed.Refused why) refusal = refusal ≡ Some why
IsDecidedBy followed.ReadFault refusal = Unit {0}
IsDecidedBy followed.DiskFault refusal = Unit {0}
IsDecidedBy followed.Memory refusal = Unit {0}

-- how an input was followed is decided by the input, if its bytes are known: a refusal is its first one, and no other end
-- but one of a device or of memory comes in place of it
abbrev pub InputsDecide : Type 0
InputsDecide = (how : Followed) (old new : Engine) (es : List Entry) (input : List ℕ) (rest' text text' : Option (List ℕ)) → HasFollowed how old new es (Some input) rest' text text' → IsDecidedBy how (refusal_of_lines old.versions (lines input))
