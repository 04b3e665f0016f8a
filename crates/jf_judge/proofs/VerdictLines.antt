-- The line of a value has the digits that stand in the reply.
use Rattle.std.specs.Prelude.{OnOk, IfSome, option_map}
use Rattle.std.proofs.Common.{◌≡◌, ℕ, List, [], ◌∷◌, ◌++◌, Option, Some, None, Ok, Result, codes, sym, subst}
use Rattle.jf_text.specs.Words.{unhex, line_text}
use Rattle.jf_judge.specs.JudgedReplies.{lookup_text}
use Rattle.jf_judge.proofs.Digits.{encode_lower-unhex}

pub value-line : {T E : Type 0} (digits : List ℕ) (o : Option (List ℕ)) (r : Result T E) (old new : List ℕ) → unhex digits ≡ o → OnOk r (new ≡ old ++ line_text (codes "value" ∷ (61 ∷ digits) ∷ []))
    → IfSome (option_map (λ v. Ok (Some v)) o) (λ shown. OnOk r (new ≡ old ++ lookup_text shown))
value-line digits None r old new e written = tt
value-line digits (Some value) r old new e written =
    subst (λ (word : List ℕ). OnOk r (new ≡ old ++ line_text (codes "value" ∷ (61 ∷ word) ∷ []))) (sym (encode_lower-unhex digits value e)) written
