-- What follows landing blocks line by line, and adds nothing to a text before the end of the input.
use Rattle.std.specs.Prelude.{◌≡◌, ◌⊎◌, ℕ, List, [], ◌∷◌, ◌++◌, Option, Some, None, Result, Ok, Err, false}
use denote.Ref.{Bor, MutBor}
use Rattle.jf_model.specs.Versions.{Versions}
use Rattle.jf_model.specs.declared.entries.Entry.{Entry}
use Rattle.jf_engine.specs.Engines.{Engine}
use Rattle.jf_input.specs.declared.feeding.Feeding.{Feeding}
use Rattle.jf_input.specs.declared.feeding.Feeding.TheVariants as feeding
use Rattle.jf_lead.specs.declared.block.LandingBlock.{LandingBlock}
use Rattle.jf_lead.specs.declared.fault.LandingFault.TheVariants as landing_fault
use Rattle.jf_lead.specs.Steps.{LandingReading, reading_after, ended_block, stage_refusal}
use Rattle.jf_follow.specs.Following.{dated_entry, judgement}
use Rattle.jf_follow.specs.Takes.{LandsOn, BreaksAt}
use Rattle.jf_follow.specs.Streams.{EndsFollowing}
use Rattle.jf_follow.specs.declared.judging.Judgement.TheVariants as judged
use Rattle.jf_follow.specs.declared.followed.FollowRefused.TheVariants as refused
use Rattle.jf_follow.specs.declared.followed.Followed.{Followed}
use Rattle.jf_follow.specs.declared.followed.Followed.TheVariants as followed
use Rattle.jf_follow.specs.declared.following.FollowStop.{FollowStop}
use Rattle.jf_follow.specs.declared.following.FollowStop.TheVariants as stop

-- how far the blocks are read, the store, and the entries of the landings so far
pub record FollowState : Type 0 where
  pub reading : LandingReading
  pub store : Engine
  pub entries : List Entry

-- a reader, a store and entries
abbrev pub follow_state : LandingReading → Engine → List Entry → FollowState
follow_state reading store entries = record { reading = reading; store = store; entries = entries }

-- store and entries are unchanged
abbrev pub IsUnmoved : FollowState → FollowState → Type 0
IsUnmoved s next = (next.store ≡ s.store) × (next.entries ≡ s.entries)

-- ---- a block
-- a block is in the store: it was there before, or it has landed, and its entry is written down
abbrev pub KeepsBlock : LandingBlock → Engine → Engine → List Entry → List Entry → Type 0
KeepsBlock b old new es es' =
    ((judgement old.versions b ≡ judged.Known) × (new ≡ old) × (es' ≡ es)) ⊎ (LandsOn b old new × (es' ≡ es ++ dated_entry b new.moment ∷ []))

-- the effect of a block, beside its first line's number, on a store and entries: it is in the store, or refused; or the disk
-- failed, or memory ran out
abbrev pub DoesBlock : ℕ × LandingBlock → Engine → Engine → List Entry → List Entry → Result (Unit {0}) FollowStop → Type 0
DoesBlock b old new es es' (Ok u) = KeepsBlock b.1 old new es es'
DoesBlock b old new es es' (Err (stop.Refused (refused.Block at why))) = (at ≡ b.0) × (judgement old.versions b.1 ≡ judged.Refused why) × (new ≡ old) × (es' ≡ es)
DoesBlock b old new es es' (Err (stop.Refused (refused.Line at))) = ⊥
DoesBlock b old new es es' (Err stop.DiskFault) = BreaksAt b.1 old new × (es' ≡ es)
DoesBlock b old new es es' (Err stop.Memory) = (new ≡ old) × (es' ≡ es)

-- ---- a line
-- the block that ended with a line, if one did, is in the store
abbrev pub KeepsEndedBlock : Option (ℕ × LandingBlock) → FollowState → FollowState → Type 0
KeepsEndedBlock None s next = IsUnmoved s next
KeepsEndedBlock (Some b) s next = KeepsBlock b.1 s.store next.store s.entries next.entries

-- a line was read, and not refused
abbrev pub ReadsLine : FollowState → List ℕ → FollowState → Type 0
ReadsLine s line next = (next.reading ≡ reading_after s.reading line) × (stage_refusal next.reading.stage ≡ None)

-- the effect of a line on a state: after the last line of a block, the block is in the store
abbrev pub TakesLandingLine : FollowState → List ℕ → FollowState → Result (List ℕ) FollowStop → Type 0
TakesLandingLine s line next (Ok text) = (text ≡ []) × ReadsLine s line next × KeepsEndedBlock (ended_block s.reading line) s next
TakesLandingLine s line next (Err (stop.Refused (refused.Line at))) =
    (next.reading ≡ reading_after s.reading line) × (stage_refusal next.reading.stage ≡ Some (landing_fault.Line at)) × IsUnmoved s next
TakesLandingLine s line next (Err (stop.Refused (refused.Block at why))) =
    (b : LandingBlock) × ReadsLine s line next × (ended_block s.reading line ≡ Some (at, b)) × (judgement s.store.versions b ≡ judged.Refused why) × IsUnmoved s next
TakesLandingLine s line next (Err stop.DiskFault) =
    (first : ℕ) × (b : LandingBlock) × ReadsLine s line next × (ended_block s.reading line ≡ Some (first, b)) × BreaksAt b s.store next.store × (next.entries ≡ s.entries)
TakesLandingLine s line next (Err stop.Memory) = IsUnmoved s next

-- the end of the input changes nothing
abbrev pub EndsLandingLines : FollowState → FollowState → Result (List ℕ) FollowStop → Type 0
EndsLandingLines s next (Ok text) = (next ≡ s) × (text ≡ [])
EndsLandingLines s next (Err why) = ⊥

-- ---- the call that does a line
-- the result of a line that adds nothing to a text
abbrev pub without_text : Result (Unit {0}) FollowStop → Result (List ℕ) FollowStop
without_text (Ok u) = Ok []
without_text (Err why) = Err why

-- a line was done, and if it didn't stop, the store is whole
abbrev pub DoesLandingLine : FollowState → List ℕ → Result (Unit {0}) FollowStop → FollowState → Type 0
DoesLandingLine s line r next = TakesLandingLine s line next (without_text r) × (r ≡ Ok tt → next.store.broken ≡ false)

-- calls may be made on it while the store is whole, and do lines
abbrev pub AreLandingSteps : {T : Type 0} → (T → FollowState) → (MutBor T → Bor (List ℕ) → Type 0) → (MutBor T → Bor (List ℕ) → Result (Unit {0}) FollowStop → MutBor T → Type 0) → Type 0
AreLandingSteps {T} shown pre post =
    ((s : MutBor T) (line : Bor (List ℕ)) → (shown s.now).store.broken ≡ false → pre s line)
    × ((s : MutBor T) (line : Bor (List ℕ)) (r : Result (Unit {0}) FollowStop) (s' : MutBor T) → post s line r s' → DoesLandingLine (shown s.now) line.now r (shown s'.now))

-- it takes what comes next: its store is whole
pub record MayFollow {T : Type 0} (shown : T → FollowState) (s : T) (pre : MutBor T → Bor (List ℕ) → Type 0) (post : MutBor T → Bor (List ℕ) → Result (Unit {0}) FollowStop → MutBor T → Type 0) : Type 0 where
  pub whole : (shown s).store.broken ≡ false
  pub steps : AreLandingSteps shown pre post

-- ---- the end
-- how the following ends that stops so
abbrev pub followed_by_stop : FollowStop → Followed
followed_by_stop (stop.Refused why) = followed.Refused why
followed_by_stop stop.DiskFault = followed.DiskFault
followed_by_stop stop.Memory = followed.Memory

-- how the following of an input ended, by how it was fed, and what was written then; nothing was written before
abbrev pub EndsFed : Feeding FollowStop → Followed → LandingReading → Versions → Option (List ℕ) → Option (List ℕ) → Type 0
EndsFed feeding.Done how r v text text' = EndsFollowing how r v text text'
EndsFed feeding.ReadFault how r v text text' = (how ≡ followed.ReadFault) × (text' ≡ text)
EndsFed feeding.WriteFault how r v text text' = ⊥
EndsFed feeding.Memory how r v text text' = (how ≡ followed.Memory) × (text' ≡ text)
EndsFed (feeding.Stopped why) how r v text text' = (how ≡ followed_by_stop why) × (text' ≡ text)
