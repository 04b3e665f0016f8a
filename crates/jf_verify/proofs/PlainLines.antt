-- A line with a line feed in it is answered as a long line is. So any lines are answered as those of an input are.
use Rattle.std.proofs.Common.{◌≡◌, ◌==◌, ℕ, ◌+◌, append_assoc, Bool, true, false, cond, List, [], ◌∷◌, ◌++◌, map, length, nat_lt, Option, None, refl, sym, ap, ◌∙◌, suc, zero}
use Rattle.std.specs.List.{AllByRecursion}
use Rattle.jf_path.proofs.BoolLaws.{not_and_passes}
use Rattle.jf_io.specs.Inputs.{IsPlain, text_of_lines}
use Rattle.jf_io.specs.Lines.{lines}
use Rattle.jf_io.proofs.EndedLines.{lines_front}
use Rattle.jf_text.specs.Words.{words, is_long}
use Rattle.jf_text.proofs.Plain.{is_without}
use Rattle.jf_blocks.specs.Reading.{named_of, claim_of, leaf_line_of, side_of, line_read}
use Rattle.jf_many_blocks.specs.ManyReading.{named_claim_of, item_of}
use Rattle.jf_verify.specs.Openings.{opening_of}
use Rattle.jf_verify.specs.Steps.{Knowledge, StreamState, StreamStep, line_step, text_for_line, after_line, said_to_end, first_stream_state, first_step, keeps, name_turn, claim_turn, leaf_step, side_step, many_claim_turn, many_item_turn}
use Rattle.jf_verify.specs.Streams.{after_lines, text_for_lines, answers_of}
use Rattle.jf_verify.specs.Verdicts.{verdicts}
use Rattle.jf_verify.specs.declared.stage.Stage.{Stage}
use Rattle.jf_verify.specs.declared.stage.Stage.TheVariants as stage
use Rattle.jf_verify.proofs.CleanLines.{IsClean, unread, opening_clean, named_clean, claim_clean, leaf_clean, side_clean, named_claim_clean, item_clean}
use Rattle.jf_verify.proofs.Folds.{verdicts-append}

-- ---- a long line in its place
-- a line of this many bytes `x`
unfoldable line_of : ℕ → List ℕ
line_of zero = []
line_of (suc n) = 120 ∷ line_of n

length-line_of : (n : ℕ) → length (line_of n) ≡ n
unfolding line_of
length-line_of zero = refl
length-line_of (suc n) = ap suc (length-line_of n)

line_of-plain : (n : ℕ) → IsPlain (line_of n)
unfolding line_of
line_of-plain zero = tt
line_of-plain (suc n) = (refl, line_of-plain n)

-- a long line
abbrev stand_in : List ℕ
stand_in = line_of 8501

stand_in-long : is_long stand_in ≡ true
stand_in-long = ap (λ n. nat_lt 8500 n) (length-line_of 8501)

stand_in-unread : {X : Type 0} (f : List (List ℕ) → Option X) → line_read f stand_in ≡ None
stand_in-unread f = ap (λ t. cond t None (f (words stand_in))) stand_in-long

-- it is answered as a line with a line feed in it
stands_in : (at : ℕ) (j : Knowledge) (s : Stage) (line : List ℕ) → is_without 10 line ≡ false → line_step at j s stand_in ≡ line_step at j s line
unfolding line_step
stands_in at j stage.Between line dirty = ap (first_step at j) (stand_in-unread opening_of ∙ sym (unread opening_of opening_clean line dirty))
stands_in at j (stage.Name heading) line dirty = ap (λ o. keeps j (name_turn at heading o)) (stand_in-unread named_of ∙ sym (unread named_of named_clean line dirty))
stands_in at j (stage.Claim heading key) line dirty = ap (λ o. keeps j (claim_turn at heading key o)) (stand_in-unread claim_of ∙ sym (unread claim_of claim_clean line dirty))
stands_in at j (stage.Leaf heading key claim) line dirty = ap (leaf_step at j heading key claim) (stand_in-unread leaf_line_of ∙ sym (unread leaf_line_of leaf_clean line dirty))
stands_in at j (stage.Sides heading block) line dirty = ap (side_step at j heading block) (stand_in-unread side_of ∙ sym (unread side_of side_clean line dirty))
stands_in at j (stage.ManyClaims heading claims) line dirty =
    ap (λ o. keeps j (many_claim_turn at heading claims o)) (stand_in-unread named_claim_of ∙ sym (unread named_claim_of named_claim_clean line dirty))
stands_in at j (stage.ManyItems heading claims items) line dirty = ap (λ o. keeps j (many_item_turn at heading claims items o)) (stand_in-unread item_of ∙ sym (unread item_of item_clean line dirty))

-- ---- an input that is answered as these lines
-- a line without a line feed that is answered as this line
abbrev plain_for : List ℕ → List ℕ
plain_for line = cond (is_without 10 line) line stand_in

clean_plain : (w : List ℕ) → IsClean w → IsPlain w
clean_plain [] h = tt
clean_plain (b ∷ w) h = let parts = not_and_passes (b == 10) (is_without 10 w) h in (parts.0, clean_plain w parts.1)

plain_by : (line : List ℕ) (t : Bool) → is_without 10 line ≡ t → IsPlain (cond t line stand_in)
plain_by line true e = clean_plain line e
plain_by line false e = line_of-plain 8501

all_plain : (ls : List (List ℕ)) → AllByRecursion IsPlain (map plain_for ls)
all_plain [] = tt
all_plain (line ∷ ls) = (plain_by line (is_without 10 line) refl, all_plain ls)

alike_by : (at : ℕ) (j : Knowledge) (s : Stage) (line : List ℕ) (t : Bool) → is_without 10 line ≡ t → line_step at j s (cond t line stand_in) ≡ line_step at j s line
alike_by at j s line true e = refl
alike_by at j s line false e = stands_in at j s line e

step_alike : (s : StreamState) (line : List ℕ) → line_step s.at s.known s.stage (plain_for line) ≡ line_step s.at s.known s.stage line
step_alike s line = alike_by s.at s.known s.stage line (is_without 10 line) refl

said_alike : (s : StreamState) (line : List ℕ) → text_for_line s (plain_for line) ≡ text_for_line s line
said_alike s line = ap (λ (a : StreamStep). a.text) (step_alike s line)

after_alike : (s : StreamState) (line : List ℕ) → after_line s (plain_for line) ≡ after_line s line
after_alike s line = ap (λ (a : StreamStep). let next : StreamState = record { at = s.at + 1; known = a.known; stage = a.stage } in next) (step_alike s line)

answers_alike : (s : StreamState) (ls : List (List ℕ)) → text_for_lines s (map plain_for ls) ++ said_to_end (after_lines s (map plain_for ls)) [] ≡ text_for_lines s ls ++ said_to_end (after_lines s ls) []
unfolding text_for_lines after_lines
answers_alike s [] = refl
answers_alike s (line ∷ ls) =
    let more = map plain_for ls in
    ap (λ t. (t ++ text_for_lines (after_line s (plain_for line)) more) ++ said_to_end (after_lines (after_line s (plain_for line)) more) []) (said_alike s line)
    ∙ ap (λ (n : StreamState). (text_for_line s line ++ text_for_lines n more) ++ said_to_end (after_lines n more) []) (after_alike s line)
    ∙ append_assoc (text_for_line s line) (text_for_lines (after_line s line) more) (said_to_end (after_lines (after_line s line) more) [])
    ∙ ap (λ t. text_for_line s line ++ t) (answers_alike (after_line s line) ls)
    ∙ sym (append_assoc (text_for_line s line) (text_for_lines (after_line s line) ls) (said_to_end (after_lines (after_line s line) ls) []))

-- an input with the verdicts that these lines get
pub input_for : List (List ℕ) → List ℕ
input_for ls = text_of_lines (map plain_for ls) ++ []

pub verdicts-input_for : (ls : List (List ℕ)) → verdicts (input_for ls) ≡ answers_of ls ++ said_to_end (after_lines first_stream_state ls) []
unfolding lines input_for
verdicts-input_for ls = verdicts-append (input_for ls) (map plain_for ls) [] (lines_front (map plain_for ls) [] (all_plain ls)) ∙ answers_alike first_stream_state ls
