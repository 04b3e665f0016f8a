-- Lines that were taken as chunk blocks, and the line at which they are refused.
use Rattle.std.proofs.Common.{◌≡◌, ◌∙◌, ◌<◌, ℕ, zero, suc, List, [], ◌∷◌, ◌++◌, length, length-append, append-nil, refl, ap, sym, arith, ◌⊎◌, inl, inr, Option, Some, None, Result, Ok, Err}
use Rattle.std.specs.Prelude.{take, OnOk, IfErr}
use Rattle.std.proofs.Math.Seq.{take-length}
use Rattle.std.proofs.lemmas.List.{take-append-le, length-take-le}
use Rattle.jf_restore.specs.RestoreValue.{RestoreValue}
use Rattle.jf_input.specs.Feeds.{front_of_line, TakesLines}
use Rattle.jf_input.proofs.Given.{given_alike}
use Rattle.jf_receive.specs.Chunks.{chunks, refusal_decided_by}
use Rattle.jf_receive.specs.Laws.{RefusalsComeAtTheirLine, LongChunkLinesAreAlike}
use Rattle.jf_receive.specs.Steps.{Restoring, restoring_start, restoring_after, restoring_after_lines, refusal_at_stage, line_result, out_of_memory}
use Rattle.jf_receive.proofs.Deciding.{restoring_after_lines-append}
use Rattle.jf_receive.specs.declared.fault.BlockFault.{BlockFault}
use Rattle.jf_receive.specs.declared.fault.BlockFault.TheVariants as fault
use Rattle.jf_receive.specs.declared.stage.Stage.{Stage}
use Rattle.jf_receive.specs.declared.stage.Stage.TheVariants as stage
use Rattle.jf_receive.specs.Restored.{DecideFirst}
use Rattle.jf_receive.specs.TakenLines.{TakesBlockLine}

-- ---- one line
accepted_stage : (t : Stage) (u : Unit {0}) → Ok u ≡ line_result t → refusal_at_stage t ≡ None
accepted_stage stage.Between u e = refl
accepted_stage (stage.Block b) u e = refl
accepted_stage (stage.Refused why) u e = absurd (cc)

refused_stage : (t : Stage) (why : BlockFault) → Err why ≡ line_result t → refusal_at_stage t ≡ Some why
refused_stage stage.Between why e = absurd (cc)
refused_stage (stage.Block b) why e = absurd (cc)
refused_stage (stage.Refused w) why e = let same : why ≡ w = cc in ap (λ x. Some x) (sym same)

-- the effect of a line on the state, if memory didn't run out in it
abbrev pub IsStep : Restoring → List ℕ → Restoring → Type 0
IsStep s line next = (next ≡ restoring_after s line) ⊎ ((refusal_at_stage s.stage ≡ None) × (next ≡ out_of_memory s))

pub line-accepted : (s next : Restoring) (line : List ℕ) (r : Result (Unit {0}) BlockFault) → r ≡ line_result next.stage → IsStep s line next → OnOk r (TakesBlockLine s line next (Ok []))
line-accepted s next line (Err why) is step = tt
line-accepted s next line (Ok u) is (inl so) = (so, accepted_stage next.stage u is, refl)
line-accepted s next line (Ok u) is (inr out) = let stopped : Ok u ≡ Err fault.Memory = is ∙ ap (λ (m : Restoring). line_result m.stage) out.1 in absurd (cc)

pub line-refused : (s next : Restoring) (line : List ℕ) (r : Result (Unit {0}) BlockFault) → r ≡ line_result next.stage → IsStep s line next → IfErr r (λ why. TakesBlockLine s line next (Err why))
line-refused s next line (Ok u) is step = tt
line-refused s next line (Err why) is (inl so) = inr (so, refused_stage next.stage why is)
line-refused s next line (Err why) is (inr out) = let stopped : Err why ≡ Err fault.Memory = is ∙ ap (λ (m : Restoring). line_result m.stage) out.1 in let same : why ≡ fault.Memory = cc in inl same

-- the result for what is given of a line is the result for the line
pub takes-whole : (s next : Restoring) (line whole : List ℕ) (r : Result (List ℕ) BlockFault) → LongChunkLinesAreAlike → line ≡ front_of_line whole → TakesBlockLine s line next r → TakesBlockLine s whole next r
takes-whole s next line whole r law given takes = by_result r takes
  where
    same : restoring_after s line ≡ restoring_after s whole
    same = ap (restoring_after s) given ∙ given_alike (restoring_after s) (law s) whole

    by_result : (x : Result (List ℕ) BlockFault) → TakesBlockLine s line next x → TakesBlockLine s whole next x
    by_result (Ok t) k = (k.0 ∙ same, k.1, k.2)
    by_result (Err why) (inl memory) = inl memory
    by_result (Err why) (inr k) = inr (k.0 ∙ same, k.1)

-- the same, as a machine's clauses say it
pub line-taken : (s next : Restoring) (line out : List ℕ) (r : Result (Unit {0}) BlockFault) → LongChunkLinesAreAlike → OnOk r (TakesBlockLine s line next (Ok []))
    → OnOk r ((t : List ℕ) × (out ≡ out ++ t) × ((whole : List ℕ) → line ≡ front_of_line whole → TakesBlockLine s whole next (Ok t)))
line-taken s next line out (Ok u) law taken = ([], sym (append-nil out), λ whole given. takes-whole s next line whole (Ok []) law given taken)
line-taken s next line out (Err why) law taken = tt

pub line-stopped : (s next : Restoring) (line whole : List ℕ) (r : Result (Unit {0}) BlockFault) → LongChunkLinesAreAlike → line ≡ front_of_line whole → IfErr r (λ why. TakesBlockLine s line next (Err why))
    → IfErr r (λ why. TakesBlockLine s whole next (Err why))
line-stopped s next line whole (Ok u) law given taken = tt
line-stopped s next line whole (Err why) law given taken = takes-whole s next line whole (Err why) law given taken

-- ---- lines
-- what is refused after lines, if anything is
abbrev refusal_after : Restoring → List (List ℕ) → Option BlockFault
refusal_after s ls = refusal_at_stage (restoring_after_lines s ls).stage

-- the state after the lines that were taken
pub took-after : (s next : Restoring) (ls : List (List ℕ)) (text : List ℕ) → TakesLines TakesBlockLine s ls next text → next ≡ restoring_after_lines s ls
unfolding restoring_after_lines
took-after s next [] text took = took.0
took-after s next (line ∷ ls) text took = took-after took.0 next ls took.2 took.4 ∙ ap (λ (m : Restoring). restoring_after_lines m ls) took.3.0

-- nothing is refused after the first of them
pub took-none : (s next : Restoring) (ls : List (List ℕ)) (text : List ℕ) → refusal_at_stage s.stage ≡ None → TakesLines TakesBlockLine s ls next text → (n : ℕ) → refusal_after s (take n ls) ≡ None
unfolding restoring_after_lines
took-none s next ls text none took zero = none
took-none s next [] text none took (suc n) = none
took-none s next (line ∷ ls) text none took (suc n) = ap (λ (m : Restoring). refusal_after m (take n ls)) (sym took.3.0) ∙ took-none took.0 next ls took.2 took.3.1 took.4 n

-- a restore without any entry
abbrev pub new_restore : ℕ → List ℕ → RestoreValue
new_restore version root = record { version = version; root = root; entries = [] }

-- the state before its first line
abbrev pub first : ℕ → List ℕ → Restoring
first version root = restoring_start (new_restore version root)

module _ (version : ℕ) (root : List ℕ) (next : Restoring) (ls : List (List ℕ)) (text : List ℕ) where
  module _ (took : TakesLines TakesBlockLine (first version root) ls next text) (law : RefusalsComeAtTheirLine) where
    -- after the lines that were taken nothing is decided
    pub took-undecided : refusal_decided_by (length ls) (chunks root [] ls) ≡ None
    took-undecided = sym (law (new_restore version root) ls) ∙ ap (λ xs. refusal_after (first version root) xs) (sym (take-length ls)) ∙ took-none (first version root) next ls text refl took (length ls)

    module _ (line : List ℕ) (why : BlockFault) (refused : refusal_at_stage (restoring_after next line).stage ≡ Some why) where
      -- these, and the line that is refused
      abbrev all : List (List ℕ)
      all = ls ++ line ∷ []

      -- what is refused after all of them
      pub refused-last : refusal_after (first version root) all ≡ Some why
      unfolding restoring_after_lines
      refused-last = ap (λ (s : Restoring). refusal_at_stage s.stage) (restoring_after_lines-append (first version root) ls (line ∷ []))
          ∙ ap (λ (s : Restoring). refusal_at_stage (restoring_after s line).stage) (sym (took-after (first version root) next ls text took)) ∙ refused

      none_before : (n : ℕ) → n < length all → refusal_decided_by n (chunks root [] (take n all)) ≡ None
      none_before n less =
          let before : take n all ≡ take n ls = take-append-le n ls (line ∷ []) (omega (arith, length-append ls (line ∷ []))) in
          let many : length (take n all) ≡ n = length-take-le n all (omega arith) in
          ap (λ k. refusal_decided_by k (chunks root [] (take n all))) (sym many) ∙ sym (law (new_restore version root) (take n all)) ∙ ap (λ xs. refusal_after (first version root) xs) before
          ∙ took-none (first version root) next ls text refl took n

      -- they decide it, and not before the last of them
      pub decide-first : DecideFirst root all why
      decide-first = record { decides = sym (law (new_restore version root) all) ∙ refused-last; not_before = none_before }
