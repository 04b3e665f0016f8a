-- Lines of landing blocks read one by one give what they give all together.
use Rattle.std.proofs.Common.{◌≡◌, ℕ, zero, suc, ◌+◌, ◌≤◌, cond, List, [], ◌∷◌, ◌++◌, length, Option, Some, None, Ok, Err, refl, ap, sym, ◌∙◌, arith}
use Rattle.jf_path.proofs.NumberLaws.{some_left, none_left, one_less}
use Rattle.jf_hash.specs.Maps.{Batch}
use Rattle.jf_model.specs.Puts.{Change}
use Rattle.jf_blocks.specs.Reading.{ReadResult, LinePlace, and_then, gives, one_line_read, line_read}
use Rattle.jf_lead.specs.declared.block.LandingBlock.{LandingBlock}
use Rattle.jf_lead.specs.declared.head.LandingHead.{LandingHead}
use Rattle.jf_lead.specs.declared.stage.Begun.{Begun}
use Rattle.jf_lead.specs.declared.stage.Stage.{Stage}
use Rattle.jf_lead.specs.declared.stage.Stage.TheVariants as stage
use Rattle.jf_lead.specs.declared.stage.Step.{Step}
use Rattle.jf_lead.specs.declared.fault.LandingFault.TheVariants as fault
use Rattle.jf_lead.specs.Reading.{LandingBlocks, with_block, blocks_from, landing_line_of, landing_body, landing_block, change_after, changes_after}
use Rattle.jf_lead.specs.Steps.{with_later, step_to, whole_or_begun, landing_head_step, change_step, landing_line_step, number_after, reading_after_all, ended_blocks, blocks_after}
use Rattle.jf_lead.specs.Laws.{LandingsComeLineByLine}
use Rattle.jf_blocks.proofs.Bounds.{IsCounted}
use Rattle.jf_lead.proofs.Bounds.{landing_body-counted}

-- the result of lines from a state on
abbrev pub blocks_at : ℕ → Stage → List (List ℕ) → LandingBlocks
blocks_at at s ls = blocks_after (record { at = at; stage = s }) ls

-- a block in front, if there is one
abbrev with_block_if : Option (ℕ × LandingBlock) → LandingBlocks → LandingBlocks
with_block_if None bs = bs
with_block_if (Some b) bs = with_block b bs

-- the result of lines after a step
abbrev goes : Step → ℕ → List (List ℕ) → LandingBlocks
goes step at ls = with_block_if step.block (blocks_at at step.stage ls)

with_block_if-parts : (o : Option (ℕ × LandingBlock)) (whole : List (ℕ × LandingBlock)) (bad : Option ℕ) → record { whole = with_later o whole; bad = bad } ≡ with_block_if o (record { whole = whole; bad = bad })
with_block_if-parts None whole bad = refl
with_block_if-parts (Some b) whole bad = refl

blocks_at-line : (at : ℕ) (s : Stage) (line : List ℕ) (ls : List (List ℕ)) → blocks_at at s (line ∷ ls) ≡ goes (landing_line_step at s line) (number_after at s) ls
unfolding ended_blocks reading_after_all
blocks_at-line at s line ls =
    let later = blocks_at (number_after at s) (landing_line_step at s line).stage ls in
    with_block_if-parts (landing_line_step at s line).block later.whole later.bad

-- after a refusal no block comes, and the refusal stays
pub refused_stays : (at i : ℕ) (ls : List (List ℕ)) → blocks_at at (stage.Refused (fault.Line i)) ls ≡ record { whole = []; bad = Some i }
unfolding ended_blocks reading_after_all landing_line_step
refused_stays at i [] = refl
refused_stays at i (line ∷ ls) = refused_stays at i ls

-- the result of a block that begins at a line, read or not, with the lines after it
abbrev pub answered : ℕ → ReadResult LandingBlock → LandingBlocks
answered first (Ok b) = with_block (first, b.0) (blocks_at b.1.at stage.Between b.1.left)
answered first (Err at) = record { whole = []; bad = Some at }

-- ---- the lines of a block
module _ (first version : ℕ) (root : List ℕ) where
  -- what is read of the block, with so many changes to come
  abbrev part : ℕ → Batch → Begun
  part n b = record { first = first; version = version; root = root; changes_left = n; batch = b }

  -- the block with this batch
  abbrev block_with : Batch → LinePlace → ReadResult LandingBlock
  block_with b q = gives (record { version = version; root = root; batch = b }) q

  change_read : (m : ℕ) (b : Batch) (at : ℕ) (ls : List (List ℕ)) (o : Option Change)
      → ((c : Change) → goes (whole_or_begun (part m (b ++ c ∷ []))) (at + 1) ls ≡ answered first (and_then (changes_after (b ++ c ∷ []) m (record { at = at + 1; left = ls })) block_with))
      → goes (change_step at (part (suc m) b) o) (at + 1) ls ≡ answered first (and_then (and_then (one_line_read at ls o) (λ c q. changes_after (b ++ c ∷ []) m q)) block_with)
  change_read m b at ls None more = refused_stays (at + 1) at ls
  change_read m b at ls (Some c) more = ap (λ n. goes (whole_or_begun (part n (b ++ c ∷ []))) (at + 1) ls) (one_less m) ∙ more c

  changes_read : (n : ℕ) (b : Batch) (at : ℕ) (ls : List (List ℕ))
      → goes (whole_or_begun (part n b)) at ls ≡ answered first (and_then (changes_after b n (record { at = at; left = ls })) block_with)
  unfolding changes_after landing_line_step ended_blocks reading_after_all
  changes_read zero b at ls =
      ap (λ t. goes (cond t (step_to (stage.Block (part 0 b))) (record { stage = stage.Between; block = Some (first, record { version = version; root = root; batch = b }) })) at ls) none_left
  changes_read (suc m) b at [] =
      ap (λ t. goes (cond t (step_to (stage.Block (part (suc m) b))) (record { stage = stage.Between; block = Some (first, record { version = version; root = root; batch = b }) })) at []) (some_left m)
  changes_read (suc m) b at (line ∷ ls) =
      ap (λ t. goes (cond t (step_to (stage.Block (part (suc m) b))) (record { stage = stage.Between; block = Some (first, record { version = version; root = root; batch = b }) })) at (line ∷ ls)) (some_left m)
      ∙ blocks_at-line at (stage.Block (part (suc m) b)) line ls
      ∙ change_read m b at ls (line_read (change_after b) line) (λ c. changes_read m (b ++ c ∷ []) (at + 1) ls)

-- ---- a block
head_read : (at : ℕ) (ls : List (List ℕ)) (o : Option LandingHead) → goes (landing_head_step at o) (at + 1) ls ≡ answered at (and_then (one_line_read at ls o) landing_body)
head_read at ls None = refused_stays (at + 1) at ls
head_read at ls (Some head) = changes_read at head.version head.root head.changes [] (at + 1) ls

pub block_read : (at : ℕ) (line : List ℕ) (ls : List (List ℕ)) → blocks_at at stage.Between (line ∷ ls) ≡ answered at (landing_block (record { at = at; left = line ∷ ls }))
unfolding landing_line_step
block_read at line ls = blocks_at-line at stage.Between line ls ∙ head_read at ls (line_read landing_line_of line)

-- ---- all lines
module _ (n : ℕ) (others : (at : ℕ) (left : List (List ℕ)) → length left ≤ n → blocks_from n (record { at = at; left = left }) ≡ blocks_at at stage.Between left) where
  block_taken : (at : ℕ) (line : List ℕ) (ls : List (List ℕ)) (o : ReadResult LandingBlock) → IsCounted (record { at = at + 1; left = ls }) o → length ls ≤ n
      → elim o as (λ x. LandingBlocks) [ Err i ↦ record { whole = []; bad = Some i } | Ok b ↦ with_block (at, b.0) (blocks_from n b.1) ] ≡ answered at o
  block_taken at line ls (Err i) h few = refl
  block_taken at line ls (Ok b) h few = let low = h.0 in let same = h.1 in ap (with_block (at, b.0)) (others b.1.at b.1.left (omega arith))

blocks_from-at : (n : ℕ) (at : ℕ) (left : List (List ℕ)) → length left ≤ n → blocks_from n (record { at = at; left = left }) ≡ blocks_at at stage.Between left
unfolding blocks_from ended_blocks reading_after_all
blocks_from-at zero at [] few = refl
blocks_from-at zero at (line ∷ ls) few = absurd (omega arith)
blocks_from-at (suc n) at [] few = refl
blocks_from-at (suc n) at (line ∷ ls) few =
    elim (line_read landing_line_of line) as (λ o. elim (and_then (one_line_read at ls o) landing_body) as (λ x. LandingBlocks) [
      | Err i ↦ record { whole = []; bad = Some i }
      | Ok b ↦ with_block (at, b.0) (blocks_from n b.1)
    ] ≡ answered at (and_then (one_line_read at ls o) landing_body)) [
      | None ↦ refl
      | Some head ↦ block_taken n (blocks_from-at n) at line ls (landing_body head (record { at = at + 1; left = ls })) (landing_body-counted head (record { at = at + 1; left = ls })) (omega arith)
    ]
    ∙ sym (block_read at line ls)

pub landing_blocks-lines : LandingsComeLineByLine
landing_blocks-lines ls = blocks_from-at (length ls) 1 ls (omega arith)
