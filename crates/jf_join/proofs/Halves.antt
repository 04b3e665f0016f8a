-- The results of the halves of a list of pieces, one after the other.
use denote.Ref.{Bor}
use Rattle.std.specs.Prelude.{◌≡◌, ℕ, List, ◌++◌, take, drop}
use Rattle.std.specs.Fn.{Shared, FnReturnsAt}
use Rattle.std.proofs.Common.{subst, sym, ap₂, ◌∙◌}
use Rattle.std.proofs.lemmas.List.{take-append-drop}
use Rattle.jf_join.proofs.Zipped.{AllZip-append}
use Rattle.jf_join.specs.Answers.{AnswersEach}

-- the results of the first n pieces, and then those of the others
pub AnswersEach-halves : {F T R : Type 0} (g : Shared F (Bor T × Unit {0}) R) (f : F) (xs front back : List T) (n : ℕ) (us vs rs : List R) → front ≡ take n xs → back ≡ drop n xs → rs ≡ us ++ vs
    → AnswersEach g f front us → AnswersEach g f back vs → AnswersEach g f xs rs
AnswersEach-halves g f xs front back n us vs rs first others is a b =
    let both : AnswersEach g f (front ++ back) (us ++ vs) = record { each = AllZip-append (λ x r. FnReturnsAt g f x r) front us back vs a.each b.each } in
    let whole : front ++ back ≡ xs = ap₂ ◌++◌ first others ∙ take-append-drop n xs in
    subst (λ l. AnswersEach g f xs l) (sym is) (subst (λ l. AnswersEach g f l (us ++ vs)) whole both)
