-- One line, and those after it.
use Rattle.std.proofs.Common.{◌≡◌, ℕ, ◌+◌, List, ◌∷◌, ◌++◌, true, refl, ap, ◌∙◌}
use Rattle.std.proofs.lemmas.List.{append_assoc}
use Rattle.jf_text.specs.Words.{is_long}
use Rattle.jf_input.specs.Feeds.{front_of_line}
use Rattle.jf_input.proofs.Given.{given_alike}
use Rattle.jf_verify.specs.Steps.{Knowledge, StreamState, text_for_line, after_line, said_to_end, line_step, StreamStep}
use Rattle.jf_verify.specs.declared.stage.Stage.{Stage}
use Rattle.jf_verify.specs.Laws.{LongLinesAreAlike}
use Rattle.jf_verify.specs.declared.stage.Stage.TheVariants as stage

-- the text written and the text still to come are together the same before a line and after it
pub said_to_end-in_turn : (before written : List ℕ) (s next : StreamState) (line : List ℕ) (ls : List (List ℕ)) → written ≡ before ++ text_for_line s line → next ≡ after_line s line
    → written ++ said_to_end next ls ≡ before ++ said_to_end s (line ∷ ls)
unfolding said_to_end
said_to_end-in_turn before written s next line ls e is = rw (e, is) (append_assoc before (text_for_line s line) (said_to_end (after_line s line) ls))

-- all long lines make the same step
pub long-alike : (at : ℕ) (j : Knowledge) (s : Stage) (line other : List ℕ) → is_long line ≡ true → is_long other ≡ true → line_step at j s line ≡ line_step at j s other
unfolding line_step
long-alike at j stage.Between line other e h = rw (e, h) refl
long-alike at j (stage.Name o) line other e h = rw (e, h) refl
long-alike at j (stage.Claim o key) line other e h = rw (e, h) refl
long-alike at j (stage.Leaf o key claim) line other e h = rw (e, h) refl
long-alike at j (stage.Sides o block) line other e h = rw (e, h) refl
long-alike at j (stage.ManyClaims o claims) line other e h = rw (e, h) refl
long-alike at j (stage.ManyItems o claims items) line other e h = rw (e, h) refl

pub said_to_end-long : LongLinesAreAlike
unfolding said_to_end
said_to_end-long s line other ls long too =
    ap (λ a. a.text ++ said_to_end (record { at = s.at + 1; known = a.known; stage = a.stage }) ls) (long-alike s.at s.known s.stage line other long too)

-- the part of a line that is given represents the whole of it
pub takes-given : (s next : StreamState) (line t : List ℕ) → next ≡ after_line s (front_of_line line) → t ≡ text_for_line s (front_of_line line) → (next ≡ after_line s line) × (t ≡ text_for_line s line)
takes-given s next line t is said_is =
    let same = given_alike (line_step s.at s.known s.stage) (long-alike s.at s.known s.stage) line in
    (is ∙ ap (λ (a : StreamStep). let x : StreamState = record { at = s.at + 1; known = a.known; stage = a.stage } in x) same, said_is ∙ ap (λ (a : StreamStep). a.text) same)
