-- Landing blocks: the block of each version that a history lands, and the text of the blocks (docs/FORMATS.md, Landing blocks).
use Rattle.std.specs.Prelude.{ℕ, ◌+◌, List, [], ◌∷◌, ◌++◌, length, flat_map, Option, Some, None, codes, decimal}
use Rattle.hex.specs.Hex.{encode_lower}
use Rattle.jf_hash.specs.Maps.{Batch, apply}
use Rattle.jf_hash.specs.Roots.{root}
use Rattle.jf_text.specs.Words.{line_text, value_word}
use Rattle.jf_model.specs.Puts.{Change}
use Rattle.jf_model.specs.Versions.{Versions, newest, versions_after_landing}
use Rattle.jf_model.specs.States.{State}
use Rattle.jf_model.specs.Entries.{landed_batches, after}
use Rattle.jf_model.specs.declared.entries.Entry.{Entry}
use Rattle.jf_model.specs.declared.entries.Entry.TheVariants as entry
use Rattle.jf_lead.specs.declared.block.LandingBlock.{LandingBlock}

-- ---- the text of a block
-- the words of a change of a key: `put`, the key and its value; or `del` and the key, if it is removed
abbrev pub change_words : List ℕ → Option (List ℕ) → List (List ℕ)
change_words key (Some value) = codes "put" ∷ encode_lower key ∷ value_word value ∷ []
change_words key None = codes "del" ∷ encode_lower key ∷ []

-- the lines of a batch, one for each change
abbrev pub change_lines : Batch → List ℕ
change_lines batch = flat_map (λ (c : Change). line_text (change_words c.0 c.1)) batch

-- the first line of a block: `landing`, the version, its root, and how many changes follow
abbrev pub landing_head_line : ℕ → List ℕ → ℕ → List ℕ
landing_head_line version root changes = line_text (codes "landing" ∷ decimal version ∷ encode_lower root ∷ decimal changes ∷ [])

-- a landing block: the version, the root of its map, and the batch that makes this map of the one before
unfoldable pub landing_text : ℕ → List ℕ → Batch → List ℕ
landing_text version root batch = landing_head_line version root (length batch) ++ change_lines batch

-- blocks, one after another
abbrev pub landings_text : List LandingBlock → List ℕ
landings_text blocks = flat_map (λ (b : LandingBlock). landing_text b.version b.root b.batch) blocks

-- ---- the blocks of a history
-- the block of a batch that lands on the head
abbrev pub landed_block : Versions → Batch → LandingBlock
landed_block v batch = record { version = v.head + 1; root = root (apply (newest v) batch); batch = batch }

-- the blocks of batches that land one after another
abbrev pub landed_blocks : Versions → List Batch → List LandingBlock
landed_blocks v [] = []
landed_blocks v (b ∷ bs) = landed_block v b ∷ landed_blocks (versions_after_landing b v) bs

-- the blocks of an entry: one for each version that it lands
abbrev pub entry_blocks : State → Entry → List LandingBlock
entry_blocks s (entry.Landed owner version how r moment) = landed_blocks s.all (landed_batches s how)
entry_blocks s (entry.Made owner fork parent batch r) = []
entry_blocks s (entry.Dropped owner fork) = []
entry_blocks s (entry.Retired owner bound floor) = []
entry_blocks s (entry.Compacted owner generation) = []

-- the blocks of a history from a state on, in the order of its entries
unfoldable pub landings : State → List Entry → List LandingBlock
landings s [] = []
landings s (e ∷ es) = entry_blocks s e ++ landings (after e s) es
