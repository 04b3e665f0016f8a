-- What a machine is given of a line, if all long lines are alike to it.
use Rattle.std.proofs.Common.{◌≡◌, inl, inr, ℕ, ◌+◌, true, List, length, ap, arith, length-take}
use Rattle.std.proofs.lemmas.Bool.{lt-ltb, cases_lt}
use Rattle.std.proofs.lemmas.List.{take_all}
use Rattle.jf_text.specs.Words.{is_long}
use Rattle.jf_input.specs.Feeds.{front_of_line}

pub given_alike : {X : Type 0} (f : List ℕ → X) → ((line other : List ℕ) → is_long line ≡ true → is_long other ≡ true → f line ≡ f other) → (line : List ℕ) → f (front_of_line line) ≡ f line
given_alike f alike line =
    let cut = front_of_line line in
    elim (cases_lt 8500 (length line)) [
      | inl long ↦ alike cut line (lt-ltb 8500 (length cut) (omega (arith, length-take (8500 + 1) line))) (lt-ltb 8500 (length line) long)
      | inr short ↦ ap f (take_all (8500 + 1) line (omega arith))
    ]
