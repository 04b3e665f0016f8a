-- What is written for a landing and for a line, in place of a reply.
use Rattle.std.specs.Prelude.{◌≡◌, ◌⊎◌, ℕ, ◌+◌, ◌-◌, Bool, true, false, List, [], ◌∷◌, ◌++◌, length, Some, Result, Ok, Err}
use Rattle.jf_hash.specs.Maps.{Batch}
use Rattle.jf_lead.specs.declared.block.LandingBlock.{LandingBlock}
use Rattle.jf_lead.specs.Landings.{landings_text}
use Rattle.jf_model.specs.declared.entries.Landing.TheVariants as landing
use Rattle.jf_engine.specs.declared.landed.Landed.{Landed}
use Rattle.jf_store.specs.declared.landed_chain.LandedChain.{LandedChain}
use Rattle.jf_store.specs.Starts.{Start}
use Rattle.jf_store.specs.Passes.{Pass, HasLanded}
use Rattle.jf_script.specs.declared.command.Command.{Command}
use Rattle.jf_script.specs.declared.command.Command.TheVariants as command
use Rattle.jf_script.specs.declared.command.Change.TheVariants as change
use Rattle.jf_script.specs.declared.reply.Reply.{Reply}
use Rattle.jf_script.specs.declared.reply.Reply.TheVariants as reply
use Rattle.jf_history.specs.Sessions.{Session, seen_by}
use Rattle.jf_session.specs.declared.stop.Stop.{Stop}
use Rattle.jf_session.specs.declared.stop.Stop.TheVariants as stop
use Rattle.jf_session.specs.Steps.{IsDoneAs, TriedFor, NotDone, StopsFor, IsObeyed}
use Rattle.jf_session.specs.Taking.{AnswersLine}
use Rattle.jf_session.specs.Leading.{HasLandedMore, AreOfLast}

-- ---- blocks
-- the blocks of batches whose maps have these roots, from the version after this one on
abbrev pub rooted_blocks : ℕ → List Batch → List (List ℕ) → List LandingBlock
rooted_blocks version [] rs = []
rooted_blocks version (b ∷ bs) [] = []
rooted_blocks version (b ∷ bs) (r ∷ rs) = record { version = version + 1; root = r; batch = b } ∷ rooted_blocks (version + 1) bs rs

-- the blocks of a fork that was landed with its ancestors
abbrev pub chain_blocks : LandedChain → List LandingBlock
chain_blocks c = rooted_blocks (c.landed.version - length c.batches) c.batches c.roots

-- the pass has landed more, and the text of these blocks was appended
pub record TellsLandings (start : Start) (old new : Pass) (told told' : List ℕ) : Type 0 where
  pub blocks : List LandingBlock
  pub landed : HasLandedMore start old new blocks
  pub appended : told' ≡ told ++ landings_text blocks

-- ---- a call that may land
-- `commit` was done, and this landing of this batch, which was pending, is what it landed
pub record HasLandedPending (start : Start) (old new : Session) (l : Landed) (batch : Batch) : Type 0 where
  pub done : IsObeyed start old new (command.Change change.Commit) (Ok (reply.Commit l.version l.root))
  pub pending : batch ≡ old.own.pending
  pub landed : HasLanded start (landing.Direct batch) old.pass new.pass l

-- a command was answered by this, and landed nothing
pub record LandsNothing (start : Start) (old new : Session) (c : Command) (r : Result Reply Stop) : Type 0 where
  pub obeyed : IsObeyed start old new c r
  pub landed : HasLandedMore start old.pass new.pass []

-- ---- a command
-- the commands that land
abbrev pub is_landing : Command → Bool
is_landing (command.Change change.Commit) = true
is_landing (command.Change (change.Fork on)) = false
is_landing (command.Change (change.Land id)) = true
is_landing (command.Change (change.Drop id)) = false
is_landing (command.Change (change.Prune upto)) = false
is_landing (command.Change change.Compact) = false
is_landing (command.Own c) = false
is_landing (command.Read on q) = false
is_landing (command.ReadFork id q) = false
is_landing command.Look = false
is_landing (command.Pin version) = false

-- what is left of a reply that is dropped
abbrev pub without_reply : Result Reply Stop → Result (Unit {0}) Stop
without_reply (Ok r) = Ok tt
without_reply (Err why) = Err why

-- a command was done, and what it landed, by an entry that is the last so far, is not told
pub record DoesWithoutBlocks (start : Start) (old new : Session) (c : Command) : Type 0 where
  pub reply : Reply
  pub lines : List ℕ
  pub done : IsDoneAs start old new c reply lines
  pub blocks : List LandingBlock
  pub landed : HasLandedMore start old.pass new.pass blocks
  pub last : AreOfLast start.state (seen_by new.pass) blocks

-- a command was done, its reply is dropped, and what it landed is written; or why not, and nothing is written. If memory ran out, the command was done or nothing was
abbrev pub IsLedAs : Start → Session → Session → Command → List ℕ → List ℕ → Result (Unit {0}) Stop → Type 0
IsLedAs start old new c told told' (Ok done) = (r : Reply) × (lines : List ℕ) × IsDoneAs start old new c r lines × (new.over ≡ false) × TellsLandings start old.pass new.pass told told'
IsLedAs start old new c told told' (Err stop.DiskFault) = TriedFor start old new c × (told' ≡ told)
IsLedAs start old new c told told' (Err stop.Broken) = StopsFor start old new c stop.Broken × (told' ≡ told)
IsLedAs start old new c told told' (Err stop.Memory) = (NotDone old new c ⊎ DoesWithoutBlocks start old new c) × (told' ≡ told)

-- ---- a line
-- the pass of a session has landed these blocks more
abbrev pub LandsMore : Session → Session → List LandingBlock → Type 0
LandsMore s new blocks = (start : Start) × (s.pass.start ≡ Some start) × HasLandedMore start s.pass new.pass blocks

-- so it has by the last entry that it has seen
abbrev pub LandsLast : Session → Session → List LandingBlock → Type 0
LandsLast s new blocks = (start : Start) × (s.pass.start ≡ Some start) × HasLandedMore start s.pass new.pass blocks × AreOfLast start.state (seen_by new.pass) blocks

-- the result of a line for a session that leads, and the text of what it landed, or why the session stops. Only if memory ran out something may have landed then
abbrev pub LeadsLine : Session → List ℕ → Session → Result (List ℕ) Stop → Type 0
LeadsLine s line new (Ok told) = (text : List ℕ) × (blocks : List LandingBlock) × AnswersLine s line new (Ok text) × LandsMore s new blocks × (told ≡ landings_text blocks)
LeadsLine s line new (Err stop.DiskFault) = AnswersLine s line new (Err stop.DiskFault) × LandsMore s new []
LeadsLine s line new (Err stop.Broken) = AnswersLine s line new (Err stop.Broken) × LandsMore s new []
LeadsLine s line new (Err stop.Memory) = (blocks : List LandingBlock) × AnswersLine s line new (Err stop.Memory) × LandsLast s new blocks

-- the text of what a line landed is appended, or the text is unchanged
abbrev pub DoesLeading : Session → List ℕ → List ℕ → Result (Unit {0}) Stop → Session → List ℕ → Type 0
DoesLeading s line out (Ok done) new out' = (told : List ℕ) × (out' ≡ out ++ told) × LeadsLine s line new (Ok told)
DoesLeading s line out (Err why) new out' = (out' ≡ out) × LeadsLine s line new (Err why)
