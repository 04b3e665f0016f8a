-- A refusal comes at the line that decides it, and stays; and so do the blocks before it.
use Rattle.std.proofs.Common.{◌≡◌, ℕ, ◌+◌, ◌≤◌, nat_lt, true, false, cond, List, [], ◌∷◌, ◌++◌, length, Option, Some, None, refl, ap, ap₂, sym, ◌∙◌, subst, arith}
use Rattle.std.proofs.lemmas.List.{append-nil}
use Rattle.jf_path.proofs.NumberLaws.{is_next, is_before}
use Rattle.jf_model.specs.Puts.{Change}
use Rattle.jf_blocks.specs.Reading.{line_read}
use Rattle.jf_lead.specs.declared.block.LandingBlock.{LandingBlock}
use Rattle.jf_lead.specs.declared.head.LandingHead.{LandingHead}
use Rattle.jf_lead.specs.declared.stage.Begun.{Begun}
use Rattle.jf_lead.specs.declared.stage.Stage.{Stage}
use Rattle.jf_lead.specs.declared.stage.Stage.TheVariants as stage
use Rattle.jf_lead.specs.declared.fault.LandingFault.{LandingFault}
use Rattle.jf_lead.specs.declared.fault.LandingFault.TheVariants as fault
use Rattle.jf_lead.specs.Reading.{landing_line_of, change_after}
use Rattle.jf_lead.specs.Steps.{LandingReading, step_to, whole_block, whole_or_begun, begun_block, with_change, landing_head_step, change_step, landing_line_step, number_after, begun_reading, reading_after, reading_after_all, ended_block, ended_blocks, with_later, stage_refusal, refusal_at_end, bad_line, decided_refusal}
use Rattle.jf_lead.specs.Laws.{LandingRefusalsComeAtTheirLine, LandingBlocksStay, LandingRefusalsStay}
use Rattle.jf_lead.proofs.LineByLine.{landing_blocks-lines, refused_stays, blocks_at}

-- a line that was refused is one of the first n; without an end of memory
abbrev IsRefusedWithin : ℕ → LandingFault → Type 0
IsRefusedWithin n (fault.Line at) = at ≤ n
IsRefusedWithin n fault.Memory = ⊥

-- how far the blocks are read after n lines, and the number of the next line
abbrev IsAfterLines : ℕ → Stage → ℕ → Type 0
IsAfterLines n stage.Between at = at ≡ n + 1
IsAfterLines n (stage.Block b) at = at ≡ n + 1
IsAfterLines n (stage.Refused why) at = IsRefusedWithin n why

-- after line n the next line has the number n + 1, unless one was refused
abbrev LeadsTo : ℕ → Stage → Type 0
LeadsTo n s = IsAfterLines n s (n + 1)

whole_or_begun-leads : (n : ℕ) (b : Begun) → LeadsTo n (whole_or_begun b).stage
whole_or_begun-leads n b =
    elim (nat_lt 0 b.changes_left) as (λ t. LeadsTo n (cond t (step_to (stage.Block b)) (record { stage = stage.Between; block = Some (b.first, whole_block b) })).stage) [ true ↦ refl | false ↦ refl ]

head-leads : (n : ℕ) (o : Option LandingHead) → LeadsTo n (landing_head_step n o).stage
head-leads n None = omega arith
head-leads n (Some head) = whole_or_begun-leads n (begun_block n head)

change-leads : (n : ℕ) (b : Begun) (o : Option Change) → LeadsTo n (change_step n b o).stage
change-leads n b None = omega arith
change-leads n b (Some c) = whole_or_begun-leads n (with_change b c)

widen : (n : ℕ) (why : LandingFault) → IsRefusedWithin n why → IsRefusedWithin (n + 1) why
widen n (fault.Line at) h = omega arith
widen n fault.Memory h = h

moves : (n at : ℕ) (s : Stage) (line : List ℕ) → IsAfterLines n s at → IsAfterLines (n + 1) (landing_line_step at s line).stage (number_after at s)
unfolding landing_line_step
moves n at stage.Between line h = rw h (head-leads (n + 1) (line_read landing_line_of line))
moves n at (stage.Block b) line h = rw h (change-leads (n + 1) b (line_read (change_after b.batch) line))
moves n at (stage.Refused why) line h = widen n why h

all_after : (n : ℕ) (s : LandingReading) (ls : List (List ℕ)) → IsAfterLines n s.stage s.at → IsAfterLines (n + length ls) (reading_after_all s ls).stage (reading_after_all s ls).at
unfolding reading_after_all
all_after n s [] h = let e : n ≡ n + 0 = omega arith in subst (λ m. IsAfterLines m s.stage s.at) e h
all_after n s (line ∷ ls) h =
    let e : n + 1 + length ls ≡ n + length (line ∷ ls) = omega arith in
    subst (λ m. IsAfterLines m (reading_after_all (reading_after s line) ls).stage (reading_after_all (reading_after s line) ls).at) e (all_after (n + 1) (reading_after s line) ls (moves n s.at s.stage line h))

after_begun : (ls : List (List ℕ)) → IsAfterLines (length ls) (reading_after_all begun_reading ls).stage (reading_after_all begun_reading ls).at
after_begun ls =
    let e : 0 + length ls ≡ length ls = omega arith in
    subst (λ n. IsAfterLines n (reading_after_all begun_reading ls).stage (reading_after_all begun_reading ls).at) e (all_after 0 begun_reading ls refl)

-- ---- what is decided
decides : (n at : ℕ) (s : Stage) → IsAfterLines n s at → stage_refusal s ≡ decided_refusal n (bad_line (refusal_at_end at s))
decides n at stage.Between h = refl
decides n at (stage.Block b) h = rw (is_next at n h) refl
decides n at (stage.Refused (fault.Line i)) h = rw (is_before i n h) refl
decides n at (stage.Refused fault.Memory) h = absurd h

pub stage_refusal-decided : LandingRefusalsComeAtTheirLine
stage_refusal-decided ls =
    let s : LandingReading = reading_after_all begun_reading ls in
    decides (length ls) s.at s.stage (after_begun ls) ∙ ap (λ bs. decided_refusal (length ls) bs.bad) (sym (landing_blocks-lines ls))

-- ---- what stays
with_later-append : (o : Option (ℕ × LandingBlock)) (bs cs : List (ℕ × LandingBlock)) → with_later o (bs ++ cs) ≡ with_later o bs ++ cs
with_later-append None bs cs = refl
with_later-append (Some b) bs cs = refl

pub ended_blocks-append : LandingBlocksStay
unfolding ended_blocks reading_after_all
ended_blocks-append s [] ms = refl
ended_blocks-append s (line ∷ ls) ms =
    ap (with_later (ended_block s line)) (ended_blocks-append (reading_after s line) ls ms)
    ∙ with_later-append (ended_block s line) (ended_blocks (reading_after s line) ls) (ended_blocks (reading_after_all (reading_after s line) ls) ms)

pub reading_after_all-append : (s : LandingReading) (ls ms : List (List ℕ)) → reading_after_all s (ls ++ ms) ≡ reading_after_all (reading_after_all s ls) ms
unfolding reading_after_all
reading_after_all-append s [] ms = refl
reading_after_all-append s (line ∷ ls) ms = reading_after_all-append (reading_after s line) ls ms

refused_by : (s : Stage) (why : LandingFault) → stage_refusal s ≡ Some why → s ≡ stage.Refused why
refused_by stage.Between why e = absurd (cc)
refused_by (stage.Block b) why e = absurd (cc)
refused_by (stage.Refused w) why e = let same : w ≡ why = cc in ap (λ x. stage.Refused x) same

stays : (at i : ℕ) (s : Stage) (ms : List (List ℕ)) → s ≡ stage.Refused (fault.Line i) → blocks_at at s ms ≡ record { whole = []; bad = Some i }
stays at i s ms e = ap (λ x. blocks_at at x ms) e ∙ refused_stays at i ms

pub landing_blocks-append : LandingRefusalsStay
landing_blocks-append ls ms at e =
    let s : LandingReading = reading_after_all begun_reading ls in
    let later = stays s.at at s.stage ms (refused_by s.stage (fault.Line at) e) in
    landing_blocks-lines (ls ++ ms)
    ∙ ap₂ (λ whole (t : LandingReading). record { whole = whole; bad = bad_line (refusal_at_end t.at t.stage) }) (ended_blocks-append begun_reading ls ms) (reading_after_all-append begun_reading ls ms)
    ∙ ap₂ (λ more bad. record { whole = ended_blocks begun_reading ls ++ more; bad = bad }) (ap (λ bs. bs.whole) later) (ap (λ bs. bs.bad) later)
    ∙ ap₂ (λ whole bad. record { whole = whole; bad = bad }) (append-nil (ended_blocks begun_reading ls) ∙ ap (λ bs. bs.whole) (sym (landing_blocks-lines ls))) refl
