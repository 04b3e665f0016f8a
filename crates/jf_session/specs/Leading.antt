-- What a session lands of a script, told as landing blocks in place of replies (docs/FORMATS.md, Landing blocks).
use Rattle.std.specs.Prelude.{◌≡◌, ◌⊎◌, ℕ, ◌==◌, if◌then◌else◌, Bool, List, [], ◌∷◌, ◌++◌, Option, None}
use Rattle.std.specs.List.{AllByRecursion}
use Rattle.jf_input.specs.FeedsThrough.{IsPutThrough}
use Rattle.jf_model.specs.States.{State}
use Rattle.jf_model.specs.Entries.{after, replay, owner_of}
use Rattle.jf_model.specs.declared.entries.Entry.{Entry}
use Rattle.jf_lead.specs.declared.block.LandingBlock.{LandingBlock}
use Rattle.jf_lead.specs.Landings.{entry_blocks, landings_text}
use Rattle.jf_lead.specs.Laws.{IsLandingBlock}
use Rattle.jf_store.specs.Starts.{Start}
use Rattle.jf_store.specs.Passes.{Pass}
use Rattle.jf_history.specs.Sessions.{seen_by}
use Rattle.jf_history.specs.Runs.{HasRunOver}
use Rattle.jf_history.specs.declared.end.End.{End}
use Rattle.jf_history.specs.declared.end.End.TheVariants as end

-- ---- what a session lands
-- the blocks of the landings that the session of this number made among entries, from a state on
unfoldable pub own_landings : ℕ → State → List Entry → List LandingBlock
own_landings n s [] = []
own_landings n s (e ∷ es) = (if owner_of e == n then entry_blocks s e else []) ++ own_landings n (after e s) es

-- the blocks of the landings of its own that a pass has seen more; each of them can be written
pub record HasLandedMore (start : Start) (old new : Pass) (blocks : List LandingBlock) : Type 0 where
  pub all : own_landings new.number start.state (seen_by new) ≡ own_landings old.number start.state (seen_by old) ++ blocks
  pub sound : AllByRecursion IsLandingBlock blocks

-- ---- a whole script
-- these are the blocks of the last of the entries, from a state on, or there are none
abbrev pub AreOfLast : State → List Entry → List LandingBlock → Type 0
AreOfLast s es blocks = (blocks ≡ []) ⊎ ((before : List Entry) × (e : Entry) × (es ≡ before ++ e ∷ []) × (blocks ≡ entry_blocks (replay s before) e))

-- of these blocks, whole ones were put through: all of them, or all but those of the last of the entries
pub record WritesMost (s : State) (es : List Entry) (is_cut : Bool) (blocks : List LandingBlock) (text text' : Option (List ℕ)) : Type 0 where
  pub told : List LandingBlock
  pub more : List LandingBlock
  pub whole : blocks ≡ told ++ more
  pub last : AreOfLast s es more
  pub written : IsPutThrough is_cut text text' (landings_text told)

-- what was written of the blocks that a session landed among these entries, from a state on, by how it ended: out of memory, those of the last entry may be missing. It never ends by a fault of the sink
abbrev pub WritesBlocks : End → Bool → State → List Entry → List LandingBlock → Option (List ℕ) → Option (List ℕ) → Type 0
WritesBlocks end.Done is_cut s es blocks text text' = IsPutThrough is_cut text text' (landings_text blocks)
WritesBlocks end.ReadFault is_cut s es blocks text text' = IsPutThrough is_cut text text' (landings_text blocks)
WritesBlocks end.WriteFault is_cut s es blocks text text' = ⊥
WritesBlocks end.DiskFault is_cut s es blocks text text' = IsPutThrough is_cut text text' (landings_text blocks)
WritesBlocks end.Broken is_cut s es blocks text text' = IsPutThrough is_cut text text' (landings_text blocks)
WritesBlocks end.Memory is_cut s es blocks text text' = WritesMost s es is_cut blocks text text'

-- a script was run over the rest of an input, its replies dropped, and the blocks of what it landed were written
pub record HasLedOver (e : End) (is_cut : Bool) (start : Start) (old new : Pass) (rest rest' text text' : Option (List ℕ)) : Type 0 where
  pub ran : HasRunOver e start old new rest rest' None None
  pub blocks : List LandingBlock
  pub landed : HasLandedMore start old new blocks
  pub written : WritesBlocks e is_cut start.state (seen_by new) blocks text text'
