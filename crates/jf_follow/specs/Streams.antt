-- The effect of the landing blocks of an input on a follower, by how it ended.
use Rattle.std.specs.Prelude.{◌≡◌, ◌⊎◌, ℕ, ◌+◌, List, [], ◌∷◌, ◌++◌, length, map, slice_get, Option, Some, None, codes, decimal}
use Rattle.hex.specs.Hex.{encode_lower}
use Rattle.jf_text.specs.Words.{line_text}
use Rattle.jf_io.specs.declared.piece.TheConstants.{USUAL_PIECE}
use Rattle.jf_io.specs.Sink.{IsCutShort}
use Rattle.jf_input.specs.Feeds.{Appends, ReadsAll, ReadsWhole, ReadsLinesOf, ReadsFew}
use Rattle.jf_model.specs.Versions.{Versions, root_of}
use Rattle.jf_model.specs.Entries.{timeless}
use Rattle.jf_model.specs.declared.entries.Entry.{Entry}
use Rattle.jf_engine.specs.Engines.{Engine}
use Rattle.jf_lead.specs.declared.block.LandingBlock.{LandingBlock}
use Rattle.jf_lead.specs.declared.fault.LandingFault.TheVariants as landing_fault
use Rattle.jf_lead.specs.Reading.{landing_blocks}
use Rattle.jf_lead.specs.Steps.{LandingReading, refusal_at_end, decided_refusal}
use Rattle.jf_follow.specs.Following.{dated_entry, follow, judgement, whole_blocks}
use Rattle.jf_follow.specs.Takes.{LandsOn, BreaksAt}
use Rattle.jf_follow.specs.declared.fault.FollowFault.{FollowFault}
use Rattle.jf_follow.specs.declared.judging.Judgement.TheVariants as judged
use Rattle.jf_follow.specs.declared.followed.FollowRefused.TheVariants as refused
use Rattle.jf_follow.specs.declared.followed.Followed.{Followed}
use Rattle.jf_follow.specs.declared.followed.Followed.TheVariants as followed

-- the line that reports what a follower has reached: the head and its root
abbrev pub followed_text : Versions → List ℕ
followed_text v = line_text (codes "followed" ∷ decimal v.head ∷ encode_lower (root_of v v.head) ∷ [])

-- ---- landings
-- the landings of these entries were made one after another, and nothing else
abbrev pub LandInTurn : Engine → List Entry → Engine → Type 0
LandInTurn old [] new = new ≡ old
LandInTurn old (e ∷ es) new = (mid : Engine) × (b : LandingBlock) × (e ≡ dated_entry b mid.moment) × LandsOn b old mid × LandInTurn mid es new

-- blocks were followed, none of which was refused, and these are the entries of the landings made
pub record FollowsBlocks (old new : Engine) (bs : List LandingBlock) (es : List Entry) : Type 0 where
  pub accepted : (follow old.versions bs).refused ≡ None
  pub entries : map timeless es ≡ (follow old.versions bs).entries
  pub versions : new.versions ≡ (follow old.versions bs).versions
  pub landed : LandInTurn old es new

-- ---- how it ended
-- the whole blocks of lines were followed
abbrev pub FollowsLines : Engine → Engine → List Entry → List (List ℕ) → Type 0
FollowsLines old new es ls = FollowsBlocks old new (whole_blocks ls) es

-- none of these lines is bad. Of a block that has started in them, further lines may still come
abbrev pub HasNoBadLine : List (List ℕ) → Type 0
HasNoBadLine ls = decided_refusal (length ls) (landing_blocks ls).bad ≡ None

-- all lines of the input were read, none of them is bad, and the blocks were followed
pub record FollowsInput (old new : Engine) (es : List Entry) (rest rest' : Option (List ℕ)) : Type 0 where
  pub ls : List (List ℕ)
  pub read : ReadsAll rest rest' ls
  pub good : (landing_blocks ls).bad ≡ None
  pub follows : FollowsLines old new es ls

-- line at is bad, and these lines were read: up to it, and fewer bytes than a piece after it; or it is the line that is missing
-- after all lines of the input
abbrev pub ReadsToBadLine : ℕ → List (List ℕ) → Option (List ℕ) → Option (List ℕ) → Type 0
ReadsToBadLine at ls rest rest' = ((length ls ≡ at) × ReadsFew USUAL_PIECE rest rest' ls) ⊎ ((at ≡ length ls + 1) × ReadsAll rest rest' ls)

-- it stopped at a line, which is the first bad one, and at no later one. The blocks before it were followed
pub record EndsAtBadLine (old new : Engine) (es : List Entry) (rest rest' : Option (List ℕ)) (at : ℕ) : Type 0 where
  pub ls : List (List ℕ)
  pub bad : (landing_blocks ls).bad ≡ Some at
  pub follows : FollowsLines old new es ls
  pub soon : ReadsToBadLine at ls rest rest'

-- a block ends with the last of these lines, and its first line has this number. Before it these blocks are whole; and fewer
-- bytes than a piece after the last line were taken
pub record ReadsToBlock (ls : List (List ℕ)) (before : List LandingBlock) (at : ℕ) (block : LandingBlock) (rest rest' : Option (List ℕ)) : Type 0 where
  pub whole : whole_blocks ls ≡ before ++ block ∷ []
  pub numbered : slice_get (landing_blocks ls).whole (length before) ≡ Some (at, block)
  pub last : length ls ≡ at + length block.batch
  pub soon : ReadsFew USUAL_PIECE rest rest' ls

-- it stopped at the block whose first line has this number: the table refuses it. Those before it were followed, and nothing else
-- was changed
pub record EndsAtRefusedBlock (old new : Engine) (es : List Entry) (rest rest' : Option (List ℕ)) (at : ℕ) (why : FollowFault) : Type 0 where
  pub ls : List (List ℕ)
  pub before : List LandingBlock
  pub block : LandingBlock
  pub read : ReadsToBlock ls before at block rest rest'
  pub follows : FollowsBlocks old new before es
  pub refused : judgement new.versions block ≡ judged.Refused why

-- it stopped in a landing, as the disk failed. The blocks before that one were followed
pub record EndsInLanding (old new : Engine) (es : List Entry) (rest rest' : Option (List ℕ)) : Type 0 where
  pub ls : List (List ℕ)
  pub before : List LandingBlock
  pub at : ℕ
  pub block : LandingBlock
  pub mid : Engine
  pub read : ReadsToBlock ls before at block rest rest'
  pub follows : FollowsBlocks old mid before es
  pub breaks : BreaksAt block mid new

-- the effect of an input on a follower, by how it ended. If the source failed, each block whose last line was taken is
-- followed: so it was before the source was asked for more, which may always fail
abbrev pub HasFollowed : Followed → Engine → Engine → List Entry → Option (List ℕ) → Option (List ℕ) → Option (List ℕ) → Option (List ℕ) → Type 0
HasFollowed followed.Done old new es rest rest' text text' = FollowsInput old new es rest rest' × Appends text text' (followed_text new.versions)
HasFollowed followed.WriteFault old new es rest rest' text text' = FollowsInput old new es rest rest' × IsCutShort text text' (followed_text new.versions)
HasFollowed followed.ReadFault old new es rest rest' text text' = (ls : List (List ℕ)) × ReadsWhole rest rest' ls × HasNoBadLine ls × FollowsLines old new es ls × (text' ≡ text)
HasFollowed followed.Memory old new es rest rest' text text' = (ls : List (List ℕ)) × ReadsLinesOf rest rest' ls × HasNoBadLine ls × FollowsLines old new es ls × (text' ≡ text)
HasFollowed followed.DiskFault old new es rest rest' text text' = EndsInLanding old new es rest rest' × (text' ≡ text)
HasFollowed (followed.Refused (refused.Line at)) old new es rest rest' text text' = EndsAtBadLine old new es rest rest' at × (text' ≡ text)
HasFollowed (followed.Refused (refused.Block at why)) old new es rest rest' text text' = EndsAtRefusedBlock old new es rest rest' at why × (text' ≡ text)

-- ---- the end of the input
-- the effect of the end of the lines on a text, by how it ended
abbrev pub EndsFollowing : Followed → LandingReading → Versions → Option (List ℕ) → Option (List ℕ) → Type 0
EndsFollowing followed.Done r v text text' = (refusal_at_end r.at r.stage ≡ None) × Appends text text' (followed_text v)
EndsFollowing followed.WriteFault r v text text' = (refusal_at_end r.at r.stage ≡ None) × IsCutShort text text' (followed_text v)
EndsFollowing followed.Memory r v text text' = text' ≡ text
EndsFollowing followed.ReadFault r v text text' = ⊥
EndsFollowing followed.DiskFault r v text text' = ⊥
EndsFollowing (followed.Refused (refused.Line at)) r v text text' = (refusal_at_end r.at r.stage ≡ Some (landing_fault.Line at)) × (text' ≡ text)
EndsFollowing (followed.Refused (refused.Block at why)) r v text text' = ⊥
