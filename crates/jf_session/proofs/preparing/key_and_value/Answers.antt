use Rattle.std.proofs.Common.{◌≡◌, ◌+◌, ◌<◌, ◌++◌, ℕ, List, Option, Some, None, Bor, length, take, drop, sym, ap, ap₂, ◌∙◌, arith, take-append-drop}
use Rattle.std.proofs.lemmas.List.{length-take}
use Rattle.std.specs.Option.{MatchOption, IfSome}
use Rattle.jf_session.proofs.preparing.key_and_value.Goals as goal

-- the first 32 bytes of a text, and the rest
abbrev IsCut : List ℕ → Option (Bor (List ℕ) × Bor (List ℕ)) → Type 0
IsCut text r = MatchOption r (length text < 32) (λ p. (p.0.now ≡ take 32 text) × (p.1.now ≡ drop 32 text) × (length p.1.now + 32 ≡ length text))

are_32 : (text : List ℕ) (r : Option (Bor (List ℕ) × Bor (List ℕ))) → IsCut text r → IfSome r (λ p. length p.0.now ≡ 32)
are_32 text None cut = tt
are_32 text (Some p) cut = omega (arith, ap length cut.0, length-take 32 text, cut.2)

are_all : (text : List ℕ) (r : Option (Bor (List ℕ) × Bor (List ℕ))) → IsCut text r → IfSome r (λ p. text ≡ p.0.now ++ p.1.now)
are_all text None cut = tt
are_all text (Some p) cut = sym (take-append-drop 32 text) ∙ ap₂ (λ (a b : List ℕ). a ++ b) (sym cut.0) (sym cut.1)

pub returns-clause-long : goal.returns-clause-long
returns-clause-long c = are_32 c.args.text.now c.split_first_chunk.result c.split_first_chunk.ensures.cases

pub returns-clause-both : goal.returns-clause-both
returns-clause-both c = are_all c.args.text.now c.split_first_chunk.result c.split_first_chunk.ensures.cases
