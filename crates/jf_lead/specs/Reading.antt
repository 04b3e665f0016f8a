-- How landing blocks are read: whole blocks, up to the first line that doesn't match or is missing (docs/FORMATS.md, Landing blocks).
use Rattle.std.specs.Prelude.{ℕ, zero, suc, ◌-◌, Bool, true, if◌then◌else◌, List, [], ◌∷◌, ◌++◌, length, slice_get, codes, Option, Some, None, option_and_then, option_map, Ok, Err}
use Rattle.std.specs.Ordering.{is_lt}
use Rattle.jf_path.specs.Keys.{key_cmp}
use Rattle.jf_hash.specs.Maps.{Batch}
use Rattle.jf_split.specs.Limits.{max_keys}
use Rattle.jf_text.specs.Words.{number, number_upto, hash_of, both}
use Rattle.jf_model.specs.Puts.{Change}
use Rattle.jf_blocks.specs.Reading.{word_after, two_after, three_after, keyed_of, LinePlace, ReadResult, and_then, gives, line_by, first_place}
use Rattle.jf_lead.specs.declared.block.LandingBlock.{LandingBlock}
use Rattle.jf_lead.specs.declared.head.LandingHead.{LandingHead}

-- ---- lines by their words
-- three words as a version, a root and a number of changes, at most 10,000
abbrev pub landing_head_of : List ℕ × List ℕ × List ℕ → Option LandingHead
landing_head_of p = option_and_then (λ v. both (λ r n. record { version = v; root = r; changes = n }) (hash_of p.1) (number_upto max_keys p.2)) (number p.0)

-- the first line of a block: `landing`, the version, its root, and how many changes follow
abbrev pub landing_line_of : List (List ℕ) → Option LandingHead
landing_line_of ws = option_and_then landing_head_of (three_after (codes "landing") ws)

-- the line of a value: `put`, a key and the value
abbrev pub put_line_of : List (List ℕ) → Option Change
put_line_of ws = option_map (λ e. (e.0, Some e.1)) (option_and_then keyed_of (two_after (codes "put") ws))

-- the line of a removal: `del` and a key
abbrev pub del_line_of : List (List ℕ) → Option Change
del_line_of ws = option_map (λ key. (key, None)) (option_and_then hash_of (word_after (codes "del") ws))

-- the line of a change: of a value or of a removal
abbrev pub change_line_of : List (List ℕ) → Option Change
change_line_of ws = elim (put_line_of ws) [ Some c ↦ Some c | None ↦ del_line_of ws ]

-- whether a key is above the last one of a batch
abbrev pub is_above : List ℕ → Batch → Bool
is_above key batch = elim (slice_get batch (length batch - 1)) [ Some last ↦ is_lt (key_cmp last.0 key) | None ↦ true ]

-- the line of a change after those of a batch: its key is above the one before
abbrev pub change_after : Batch → List (List ℕ) → Option Change
change_after batch ws = option_and_then (λ (c : Change). if is_above c.0 batch then Some c else None) (change_line_of ws)

-- ---- blocks
-- a batch and n changes more, each on a line of its own with a key above the one before
unfoldable pub changes_after : Batch → ℕ → LinePlace → ReadResult Batch
changes_after batch zero p = gives batch p
changes_after batch (suc n) p = and_then (line_by (change_after batch) p) (λ c q. changes_after (batch ++ c ∷ []) n q)

-- a block after its first line
abbrev pub landing_body : LandingHead → LinePlace → ReadResult LandingBlock
landing_body head p = and_then (changes_after [] head.changes p) (λ batch q. gives (record { version = head.version; root = head.root; batch = batch }) q)

-- a block with its first line
abbrev pub landing_block : LinePlace → ReadResult LandingBlock
landing_block p = and_then (line_by landing_line_of p) landing_body

-- the result of lines of blocks: the whole blocks, each with the number of its first line; and the number of the line after
-- them that doesn't match or is missing, if there is one
pub record LandingBlocks : Type 0 where
  pub whole : List (ℕ × LandingBlock)
  pub bad : Option ℕ

-- one more block in front
abbrev pub with_block : ℕ × LandingBlock → LandingBlocks → LandingBlocks
with_block b bs = record { whole = b ∷ bs.whole; bad = bs.bad }

-- the result of the lines from a place on. n is at least the number of these lines
unfoldable pub blocks_from : ℕ → LinePlace → LandingBlocks
blocks_from zero p = record { whole = []; bad = None }
blocks_from (suc n) p =
    elim p.left [
      | [] ↦ record { whole = []; bad = None }
      | line ∷ rest ↦ elim (landing_block p) [ Err at ↦ record { whole = []; bad = Some at } | Ok b ↦ with_block (p.at, b.0) (blocks_from n b.1) ]
    ]

-- the result of all lines, numbered from 1
abbrev pub landing_blocks : List (List ℕ) → LandingBlocks
landing_blocks ls = blocks_from (length ls) (first_place ls)
