-- Lines of chunk blocks read one by one give what they give all together.
use Rattle.std.proofs.Common.{Result, ℕ, List, ◌≡◌, [], ◌∷◌, Err, refl, Ok, ◌+◌, Option, Some, None, ap, ap₂, ◌∙◌, suc, nat_lt, arith, ◌++◌, zero, ◌||◌, cond, sym, ◌≤◌, length}
use Rattle.std.proofs.lemmas.List.{append_assoc, append-nil}
use Rattle.jf_path.proofs.NumberLaws.{some_left, none_left, one_less}
use Rattle.jf_evidence.specs.Ranges.{Entries, KeyAndValue, range_refusal}
use Rattle.jf_evidence.specs.declared.range_proof.RangeFault.{RangeFault}
use Rattle.jf_restore.specs.RestoreValue.{RestoreValue}
use Rattle.jf_restore.specs.Restores.{with_more}
use Rattle.jf_blocks.specs.Reading.{ReadResult, Chunk, LinePlace, and_then, one_line_read, line_read, line_by, gives, lines_by, side_of, entry_of, chunk_of, chunk_body, chunk_block}
use Rattle.jf_blocks.specs.Sides.{kept_sides}
use Rattle.jf_blocks.proofs.Bounds.{IsCounted, chunk_body-counted}
use Rattle.jf_blocks.proofs.SideLaws.{with_kept-kept_sides, range_refusal-kept_sides}
use Rattle.jf_receive.specs.declared.fault.BlockFault.{BlockFault}
use Rattle.jf_receive.specs.declared.stage.Stage.{Stage}
use Rattle.jf_receive.specs.Steps.{restoring_after_lines, restored_at_end, RestoringStep, restoring_line_step, step_after_block, refuses, next_at, adds_nothing, step_within_block, entry_step, sibling_step, head_step}
use Rattle.jf_receive.specs.declared.stage.Begun.{Begun}
use Rattle.jf_receive.specs.Chunks.{chunks_from, accepted_chunk}
use Rattle.jf_receive.specs.Laws.{with_entries, ChunksComeLineByLine}
use Rattle.jf_receive.specs.declared.stage.Stage.TheVariants as stage
use Rattle.jf_receive.specs.declared.fault.BlockFault.TheVariants as fault

abbrev pub Ended : Type 0
Ended = Result RestoreValue BlockFault

-- the result of lines from a state on
abbrev from : RestoreValue → ℕ → Stage → List (List ℕ) → Ended
from r at s ls = restored_at_end (restoring_after_lines (record { restore = r; at = at; stage = s }) ls)

-- the result of lines after a step
abbrev restoring_goes : RestoringStep → ℕ → List (List ℕ) → Ended
restoring_goes step at ls = from step.restore at step.stage ls

-- after a refusal nothing changes
pub refused_stays : (r : RestoreValue) (at : ℕ) (why : BlockFault) (ls : List (List ℕ)) → from r at (stage.Refused why) ls ≡ Err why
unfolding restoring_after_lines restoring_line_step
refused_stays r at why [] = refl
refused_stays r at why (line ∷ ls) = refused_stays r at why ls

-- the result of a block that begins at a line, read or not, with the lines after it
abbrev restoring_answered : RestoreValue → ℕ → ReadResult Chunk → Ended
restoring_answered r first (Ok b) = restoring_goes (step_after_block r first b.0) b.1.at b.1.left
restoring_answered r first (Err at) = Err (fault.Line at)

-- ---- one line
by_line : {X : Type 0} (f : List (List ℕ) → Option X) (more : X → LinePlace → ReadResult Chunk) (step : Option X → RestoringStep) (s : Stage) (r : RestoreValue) (first at : ℕ) (left : List (List ℕ))
    → restored_at_end (record { restore = r; at = at; stage = s }) ≡ Err (fault.Line at) → next_at at s ≡ at + 1 → ((line : List ℕ) → restoring_line_step r at s line ≡ step (line_read f line)) → step None ≡ refuses r (fault.Line at)
    → ((x : X) (ls : List (List ℕ)) → restoring_goes (step (Some x)) (at + 1) ls ≡ restoring_answered r first (more x (record { at = at + 1; left = ls })))
    → from r at s left ≡ restoring_answered r first (and_then (line_by f (record { at = at; left = left })) more)
unfolding restoring_after_lines
by_line f more step s r first at [] ends counts steps none some = ends
by_line f more step s r first at (line ∷ ls) ends counts steps none some =
    ap₂ (λ (a : RestoringStep) n. restoring_goes a n ls) (steps line) counts
    ∙ elim (line_read f line) as (λ o. restoring_goes (step o) (at + 1) ls ≡ restoring_answered r first (and_then (one_line_read at ls o) more)) [
      | None ↦ ap (λ (a : RestoringStep). restoring_goes a (at + 1) ls) none ∙ refused_stays r (at + 1) (fault.Line at) ls
      | Some x ↦ some x ls
    ]

-- ---- the lines of a block
module _ (r : RestoreValue) (first depth : ℕ) where
  -- what is read of the block, with so many entries and so many siblings to come
  abbrev part : ℕ → ℕ → Entries → List (List ℕ) → Begun
  part entries_left siblings_left es siblings = record { first = first; entries_left = entries_left; siblings_left = siblings_left; entries = es; proof = record { depth = depth; siblings = siblings } }

  -- the block of these entries, and of these siblings and more
  abbrev with_sides : Entries → List (List ℕ) → List (List ℕ) → LinePlace → ReadResult Chunk
  with_sides es siblings more p = gives (es, record { depth = depth; siblings = siblings ++ more }) p

  one_side : (es : Entries) (siblings : List (List ℕ)) (h : List ℕ) (o : ReadResult (List (List ℕ)))
      → and_then o (with_sides es (siblings ++ h ∷ [])) ≡ and_then (and_then o (λ hs t. gives (h ∷ hs) t)) (with_sides es siblings)
  one_side es siblings h (Err at) = refl
  one_side es siblings h (Ok o) = ap (λ hs. Ok ((es, record { depth = depth; siblings = hs }), o.1)) (append_assoc siblings (h ∷ []) o.0)

  side_and_more : (es : Entries) (siblings : List (List ℕ)) (m : ℕ) (o : ReadResult (List ℕ))
      → and_then o (λ h q. and_then (lines_by side_of m q) (with_sides es (siblings ++ h ∷ [])))
      ≡ and_then (and_then o (λ h q. and_then (lines_by side_of m q) (λ hs t. gives (h ∷ hs) t))) (with_sides es siblings)
  side_and_more es siblings m (Err at) = refl
  side_and_more es siblings m (Ok o) = one_side es siblings o.0 (lines_by side_of m o.1)

  -- a whole block is taken by the siblings that are kept as by all
  taken-kept_sides : (es : Entries) (siblings : List (List ℕ)) → step_after_block r first (es, record { depth = depth; siblings = kept_sides siblings }) ≡ step_after_block r first (es, record { depth = depth; siblings = siblings })
  taken-kept_sides es siblings =
      ap (λ (o : Option RangeFault). elim o as (λ x. RestoringStep) [ None ↦ adds_nothing (with_more r es) stage.Between | Some why ↦ refuses r (fault.Chunk first why) ]) (range_refusal-kept_sides r.root r.entries es depth siblings)

  sides_read : (n : ℕ) (es : Entries) (siblings : List (List ℕ)) (at : ℕ) (ls : List (List ℕ))
      → restoring_goes (step_within_block r (part 0 n es (kept_sides siblings))) at ls ≡ restoring_answered r first (and_then (lines_by side_of n (record { at = at; left = ls })) (with_sides es siblings))
  unfolding lines_by restoring_line_step
  sides_read zero es siblings at ls =
      ap (λ b. restoring_goes (cond (b || b) (adds_nothing r (stage.Block (part 0 0 es (kept_sides siblings)))) (step_after_block r first (es, record { depth = depth; siblings = kept_sides siblings }))) at ls) none_left
      ∙ ap (λ (a : RestoringStep). restoring_goes a at ls) (taken-kept_sides es siblings)
      ∙ ap (λ hs. restoring_goes (step_after_block r first (es, record { depth = depth; siblings = hs })) at ls) (sym (append-nil siblings))
  sides_read (suc m) es siblings at ls =
      let b : Begun = part 0 (suc m) es (kept_sides siblings) in
      ap₂ (λ s t. restoring_goes (cond (s || t) (adds_nothing r (stage.Block b)) (step_after_block r first (es, record { depth = depth; siblings = kept_sides siblings }))) at ls) none_left (some_left m)
      ∙ by_line side_of (λ h q. and_then (lines_by side_of m q) (with_sides es (siblings ++ h ∷ []))) (sibling_step r at b) (stage.Block b) r first at ls refl refl
      (λ line. ap (λ t. cond t (entry_step r at b (line_read entry_of line)) (sibling_step r at b (line_read side_of line))) none_left) refl
      (λ h more.
      ap₂ (λ n ss. restoring_goes (step_within_block r (part 0 n es ss)) (at + 1) more) (one_less m) (with_kept-kept_sides siblings h)
      ∙ sides_read m es (siblings ++ h ∷ []) (at + 1) more)
      ∙ ap (restoring_answered r first) (side_and_more es siblings m (line_by side_of (record { at = at; left = ls })))

  -- the block of these entries and more, and then so many siblings
  abbrev with_entries_and : ℕ → Entries → Entries → LinePlace → ReadResult Chunk
  with_entries_and k es more p = and_then (lines_by side_of k p) (with_sides (es ++ more) [])

  one_entry : (k : ℕ) (es : Entries) (e : KeyAndValue) (o : ReadResult Entries)
      → and_then o (with_entries_and k (es ++ e ∷ [])) ≡ and_then (and_then o (λ fs t. gives (e ∷ fs) t)) (with_entries_and k es)
  one_entry k es e (Err at) = refl
  one_entry k es e (Ok o) = ap (λ fs. and_then (lines_by side_of k o.1) (with_sides fs [])) (append_assoc es (e ∷ []) o.0)

  entry_and_more : (k : ℕ) (es : Entries) (m : ℕ) (o : ReadResult KeyAndValue)
      → and_then o (λ e q. and_then (lines_by entry_of m q) (with_entries_and k (es ++ e ∷ [])))
      ≡ and_then (and_then o (λ e q. and_then (lines_by entry_of m q) (λ fs t. gives (e ∷ fs) t))) (with_entries_and k es)
  entry_and_more k es m (Err at) = refl
  entry_and_more k es m (Ok o) = one_entry k es o.0 (lines_by entry_of m o.1)

  entries_read : (n k : ℕ) (es : Entries) (at : ℕ) (ls : List (List ℕ))
      → restoring_goes (step_within_block r (part n k es [])) at ls ≡ restoring_answered r first (and_then (lines_by entry_of n (record { at = at; left = ls })) (with_entries_and k es))
  unfolding lines_by restoring_line_step
  entries_read zero k es at ls =
      sides_read k es [] at ls ∙ ap (λ fs. restoring_answered r first (and_then (lines_by side_of k (record { at = at; left = ls })) (with_sides fs []))) (sym (append-nil es))
  entries_read (suc m) k es at ls =
      let b : Begun = part (suc m) k es [] in
      ap (λ t. restoring_goes (cond (t || nat_lt 0 k) (adds_nothing r (stage.Block b)) (step_after_block r first (es, record { depth = depth; siblings = [] }))) at ls) (some_left m)
      ∙ by_line entry_of (λ e q. and_then (lines_by entry_of m q) (with_entries_and k (es ++ e ∷ []))) (entry_step r at b) (stage.Block b) r first at ls refl refl
      (λ line. ap (λ t. cond t (entry_step r at b (line_read entry_of line)) (sibling_step r at b (line_read side_of line))) (some_left m)) refl
      (λ e more. ap (λ n. restoring_goes (step_within_block r (part n k (es ++ e ∷ []) [])) (at + 1) more) (one_less m) ∙ entries_read m k (es ++ e ∷ []) (at + 1) more)
      ∙ ap (restoring_answered r first) (entry_and_more k es m (line_by entry_of (record { at = at; left = ls })))

-- ---- a block
block_read : (r : RestoreValue) (at : ℕ) (line : List ℕ) (ls : List (List ℕ)) → from r at stage.Between (line ∷ ls) ≡ restoring_answered r at (chunk_block (record { at = at; left = line ∷ ls }))
unfolding chunk_body restoring_line_step restoring_after_lines
block_read r at line ls =
    elim (line_read chunk_of line) as (λ o. restoring_goes (head_step r at o) (at + 1) ls ≡ restoring_answered r at (and_then (one_line_read at ls o) chunk_body)) [
      | None ↦ refused_stays r (at + 1) (fault.Line at) ls
      | Some head ↦ entries_read r at head.depth head.entries head.siblings [] (at + 1) ls
    ]

-- ---- all lines
module _ (n : ℕ) (others : (r : RestoreValue) (at : ℕ) (left : List (List ℕ)) → length left ≤ n → with_entries r (chunks_from n r.root r.entries (record { at = at; left = left })) ≡ from r at stage.Between left) where
  chunk_taken : (r : RestoreValue) (first : ℕ) (chunk : Chunk) (p : LinePlace) (o : Option RangeFault) → range_refusal r.root r.entries chunk.0 chunk.1 ≡ o → length p.left ≤ n
      → with_entries r (elim (elim o as (λ x. Result Entries BlockFault) [ None ↦ Ok (r.entries ++ chunk.0) | Some why ↦ Err (fault.Chunk first why) ]) as (λ x. Result Entries BlockFault) [ Err why ↦ Err why | Ok all ↦ chunks_from n r.root all p ])
      ≡ restoring_goes (elim o as (λ x. RestoringStep) [ None ↦ adds_nothing (with_more r chunk.0) stage.Between | Some why ↦ refuses r (fault.Chunk first why) ]) p.at p.left
  chunk_taken r first chunk p None is few = others (with_more r chunk.0) p.at p.left few
  chunk_taken r first chunk p (Some why) is few = sym (refused_stays r p.at (fault.Chunk first why) p.left)

  block_taken : (r : RestoreValue) (at : ℕ) (line : List ℕ) (ls : List (List ℕ)) (o : ReadResult Chunk) → IsCounted (record { at = at + 1; left = ls }) o → length ls ≤ n
      → with_entries r (elim o as (λ x. Result Entries BlockFault) [
        | Err e ↦ Err (fault.Line e)
        | Ok b ↦ elim (accepted_chunk r.root at r.entries b.0) as (λ x. Result Entries BlockFault) [ Err why ↦ Err why | Ok all ↦ chunks_from n r.root all b.1 ]
      ])
      ≡ restoring_answered r at o
  block_taken r at line ls (Err e) h few = refl
  block_taken r at line ls (Ok b) h few = let low = h.0 in let same = h.1 in chunk_taken r at b.0 b.1 (range_refusal r.root r.entries b.0.0 b.0.1) refl (omega arith)

chunks_from-lines : (n : ℕ) (r : RestoreValue) (at : ℕ) (left : List (List ℕ)) → length left ≤ n → with_entries r (chunks_from n r.root r.entries (record { at = at; left = left })) ≡ from r at stage.Between left
unfolding chunks_from restoring_after_lines
chunks_from-lines zero r at [] few = refl
chunks_from-lines zero r at (line ∷ ls) few = absurd (omega arith)
chunks_from-lines (suc n) r at [] few = refl
chunks_from-lines (suc n) r at (line ∷ ls) few =
    elim (line_read chunk_of line) as (λ o. with_entries r (elim (and_then (one_line_read at ls o) chunk_body) as (λ x. Result Entries BlockFault) [
      | Err e ↦ Err (fault.Line e)
      | Ok b ↦ elim (accepted_chunk r.root at r.entries b.0) as (λ x. Result Entries BlockFault) [ Err why ↦ Err why | Ok all ↦ chunks_from n r.root all b.1 ]
    ]) ≡ restoring_answered r at (and_then (one_line_read at ls o) chunk_body)) [
      | None ↦ refl
      | Some head ↦ block_taken n (chunks_from-lines n) r at line ls (chunk_body head (record { at = at + 1; left = ls })) (chunk_body-counted head (record { at = at + 1; left = ls })) (omega arith)
    ]
    ∙ sym (block_read r at line ls)

pub chunks-lines : ChunksComeLineByLine
chunks-lines r ls = sym (chunks_from-lines (length ls) r 1 ls (omega arith))
