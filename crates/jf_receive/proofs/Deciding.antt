-- A refusal comes at the line that decides it, and stays.
use Rattle.std.proofs.Common.{ℕ, ◌≤◌, ◌≡◌, ◌+◌, Option, Some, None, nat_lt, ◌||◌, true, false, cond, arith, List, refl, [], ◌∷◌, length, subst, Result, Ok, Err, sym, ap, ◌∙◌, ◌++◌}
use Rattle.jf_path.proofs.NumberLaws.{is_next, is_before}
use Rattle.jf_evidence.specs.Ranges.{range_refusal, Entries}
use Rattle.jf_evidence.specs.declared.range_proof.RangeFault.{RangeFault}
use Rattle.jf_restore.specs.RestoreValue.{RestoreValue}
use Rattle.jf_restore.specs.Restores.{with_more}
use Rattle.jf_blocks.specs.Reading.{Chunk, line_read, entry_of, side_of, chunk_of}
use Rattle.jf_blocks.specs.declared.chunk.ChunkHead.{ChunkHead}
use Rattle.jf_receive.specs.declared.fault.BlockFault.{BlockFault}
use Rattle.jf_receive.specs.declared.stage.Stage.{Stage}
use Rattle.jf_receive.specs.Steps.{RestoringStep, adds_nothing, refuses, step_after_block, step_within_block, block_start, head_step, with_entry, entry_step, with_sibling, sibling_step, block_step, restoring_line_step, next_at, Restoring, restoring_after, restoring_after_lines, restoring_start, refusal_at_stage, end_by, restored_at_end}
use Rattle.jf_receive.specs.declared.stage.Begun.{Begun}
use Rattle.jf_receive.specs.Chunks.{refusal_decided_by, chunks}
use Rattle.jf_receive.specs.Laws.{with_entries, RefusalsComeAtTheirLine, RefusalsStay}
use Rattle.jf_receive.specs.declared.fault.BlockFault.TheVariants as fault
use Rattle.jf_receive.specs.declared.stage.Stage.TheVariants as stage
use Rattle.jf_receive.proofs.LineByLine.{chunks-lines, refused_stays}

-- a line that was refused is one of the first n
abbrev IsRefusedWithin : ℕ → BlockFault → Type 0
IsRefusedWithin n (fault.Line at) = at ≤ n
IsRefusedWithin n (fault.Chunk at why) = Unit {0}
IsRefusedWithin n fault.Memory = Unit {0}

-- how far the blocks are read after n lines, and the number of the next line
abbrev IsAfterLines : ℕ → Stage → ℕ → Type 0
IsAfterLines n stage.Between at = at ≡ n + 1
IsAfterLines n (stage.Block b) at = at ≡ n + 1
IsAfterLines n (stage.Refused why) at = IsRefusedWithin n why

-- after line n the next line has the number n + 1, unless one was refused
abbrev LeadsTo : ℕ → Stage → Type 0
LeadsTo n s = IsAfterLines n s (n + 1)

taken-leads : (n : ℕ) (r : RestoreValue) (first : ℕ) (chunk : Chunk) → LeadsTo n (step_after_block r first chunk).stage
taken-leads n r first chunk = elim (range_refusal r.root r.entries chunk.0 chunk.1) as (λ (o : Option RangeFault). LeadsTo n (elim o as (λ x. RestoringStep) [ None ↦ adds_nothing (with_more r chunk.0) stage.Between | Some why ↦ refuses r (fault.Chunk first why) ]).stage) [ None ↦ refl | Some why ↦ tt ]

step_within_block-leads : (n : ℕ) (r : RestoreValue) (b : Begun) → LeadsTo n (step_within_block r b).stage
step_within_block-leads n r b =
    elim (nat_lt 0 b.entries_left || nat_lt 0 b.siblings_left) as (λ t. LeadsTo n (cond t (adds_nothing r (stage.Block b)) (step_after_block r b.first (b.entries, b.proof))).stage) [
      | true ↦ refl
      | false ↦ taken-leads n r b.first (b.entries, b.proof)
    ]

first-leads : (n : ℕ) (r : RestoreValue) (o : Option ChunkHead) → LeadsTo n (head_step r n o).stage
first-leads n r None = omega arith
first-leads n r (Some head) = step_within_block-leads n r (block_start n head)

entry-leads : (n : ℕ) (r : RestoreValue) (b : Begun) (o : Option (List ℕ × List ℕ)) → LeadsTo n (entry_step r n b o).stage
entry-leads n r b None = omega arith
entry-leads n r b (Some e) = step_within_block-leads n r (with_entry b e)

side-leads : (n : ℕ) (r : RestoreValue) (b : Begun) (o : Option (List ℕ)) → LeadsTo n (sibling_step r n b o).stage
side-leads n r b None = omega arith
side-leads n r b (Some h) = step_within_block-leads n r (with_sibling b h)

block-leads : (n : ℕ) (r : RestoreValue) (b : Begun) (line : List ℕ) → LeadsTo n (block_step r n b line).stage
block-leads n r b line =
    elim (nat_lt 0 b.entries_left) as (λ t. LeadsTo n (cond t (entry_step r n b (line_read entry_of line)) (sibling_step r n b (line_read side_of line))).stage) [
      | true ↦ entry-leads n r b (line_read entry_of line)
      | false ↦ side-leads n r b (line_read side_of line)
    ]

widen : (n : ℕ) (why : BlockFault) → IsRefusedWithin n why → IsRefusedWithin (n + 1) why
widen n (fault.Line at) h = omega arith
widen n (fault.Chunk at why) h = tt
widen n fault.Memory h = tt

moves : (n : ℕ) (r : RestoreValue) (at : ℕ) (s : Stage) (line : List ℕ) → IsAfterLines n s at → IsAfterLines (n + 1) (restoring_line_step r at s line).stage (next_at at s)
unfolding restoring_line_step
moves n r at stage.Between line h = rw h (first-leads (n + 1) r (line_read chunk_of line))
moves n r at (stage.Block b) line h = rw h (block-leads (n + 1) r b line)
moves n r at (stage.Refused why) line h = widen n why h

all_after : (n : ℕ) (s : Restoring) (ls : List (List ℕ)) → IsAfterLines n s.stage s.at → IsAfterLines (n + length ls) (restoring_after_lines s ls).stage (restoring_after_lines s ls).at
unfolding restoring_after_lines
all_after n s [] h = let e : n ≡ n + 0 = omega arith in subst (λ m. IsAfterLines m s.stage s.at) e h
all_after n s (line ∷ ls) h =
    let e : n + 1 + length ls ≡ n + length (line ∷ ls) = omega arith in
    subst (λ m. IsAfterLines m (restoring_after_lines (restoring_after s line) ls).stage (restoring_after_lines (restoring_after s line) ls).at) e (all_after (n + 1) (restoring_after s line) ls (moves n s.restore s.at s.stage line h))

after_begun : (r : RestoreValue) (ls : List (List ℕ)) → IsAfterLines (length ls) (restoring_after_lines (restoring_start r) ls).stage (restoring_after_lines (restoring_start r) ls).at
after_begun r ls =
    let e : 0 + length ls ≡ length ls = omega arith in
    subst (λ n. IsAfterLines n (restoring_after_lines (restoring_start r) ls).stage (restoring_after_lines (restoring_start r) ls).at) e (all_after 0 (restoring_start r) ls refl)

-- after a refusal nothing changes
pub refused_after : (r : RestoreValue) (at : ℕ) (s : Stage) (why : BlockFault) (line : List ℕ) → s ≡ stage.Refused why
    → (let t : Restoring = record { restore = r; at = at; stage = s } in t ≡ restoring_after t line)
unfolding restoring_line_step
refused_after r at s why line e = rw e refl

-- ---- what is decided
-- lines that result in a whole restore decide no refusal
ok_so : (r : RestoreValue) (x : RestoreValue) (o : Result Entries BlockFault) (n : ℕ) → Ok x ≡ with_entries r o → None ≡ refusal_decided_by n o
ok_so r x (Ok es) n e = refl
ok_so r x (Err why) n e = absurd (cc)

err_so : (r : RestoreValue) (why : BlockFault) (o : Result Entries BlockFault) → Err why ≡ with_entries r o → o ≡ Err why
err_so r why (Ok es) e = absurd (cc)
err_so r why (Err w) e = let same : why ≡ w = cc in ap (λ x. Err x) (sym same)

within_so : (n : ℕ) (why : BlockFault) → IsRefusedWithin n why → Some why ≡ refusal_decided_by n (Err why)
within_so n (fault.Line at) h = rw (is_before at n h) refl
within_so n (fault.Chunk at why) h = refl
within_so n fault.Memory h = refl

decides : (r x : RestoreValue) (n at : ℕ) (s : Stage) (o : Result Entries BlockFault) → IsAfterLines n s at → end_by x at s ≡ with_entries r o → refusal_at_stage s ≡ refusal_decided_by n o
decides r x n at stage.Between o h e = ok_so r x o n e
decides r x n at (stage.Block b) o h e = rw (err_so r (fault.Line at) o e, is_next at n h) refl
decides r x n at (stage.Refused why) o h e = within_so n why h ∙ ap (refusal_decided_by n) (sym (err_so r why o e))

pub refusals-decided : RefusalsComeAtTheirLine
refusals-decided r ls =
    let s : Restoring = restoring_after_lines (restoring_start r) ls in
    decides r s.restore (length ls) s.at s.stage (chunks r.root r.entries ls) (after_begun r ls) (chunks-lines r ls)

-- ---- what stays
pub restoring_after_lines-append : (s : Restoring) (ls ms : List (List ℕ)) → restoring_after_lines s (ls ++ ms) ≡ restoring_after_lines (restoring_after_lines s ls) ms
unfolding restoring_after_lines
restoring_after_lines-append s [] ms = refl
restoring_after_lines-append s (line ∷ ls) ms = restoring_after_lines-append (restoring_after s line) ls ms

stays : (r : RestoreValue) (at : ℕ) (s : Stage) (why : BlockFault) (ms : List (List ℕ)) → refusal_at_stage s ≡ Some why → restored_at_end (restoring_after_lines (record { restore = r; at = at; stage = s }) ms) ≡ Err why
stays r at stage.Between why ms e = absurd (cc)
stays r at (stage.Block b) why ms e = absurd (cc)
stays r at (stage.Refused w) why ms e = let same : w ≡ why = cc in refused_stays r at w ms ∙ ap (λ x. Err x) same

pub refusals-stay : RefusalsStay
refusals-stay r ls ms why e =
    let s : Restoring = restoring_after_lines (restoring_start r) ls in
    err_so r why (chunks r.root r.entries (ls ++ ms)) (sym (stays s.restore s.at s.stage why ms e) ∙ ap restored_at_end (sym (restoring_after_lines-append (restoring_start r) ls ms)) ∙ chunks-lines r (ls ++ ms))
