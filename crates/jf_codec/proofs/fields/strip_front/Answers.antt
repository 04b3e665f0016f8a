use Rattle.std.proofs.Common.{◌≡◌, ◌++◌, ◌≢◌, List, ℕ, Option, Some, None, Bor}
use Rattle.std.proofs.lemmas.Bool.Decides.{Decides-eqb}
use Rattle.std.proofs.lemmas.Slice.Eq.{strip_prefix_is}
use Rattle.std.specs.Option.{MatchOption, IfSome}
use Rattle.jf_codec.proofs.fields.strip_front.Goals as goal

is_after : (s p : List ℕ) (r : Option (Bor (List ℕ))) → MatchOption r ((rest : List ℕ) → s ≢ p ++ rest) (λ x. s ≡ p ++ x.now) → IfSome r (λ x. s ≡ p ++ x.now)
is_after s p None is = tt
is_after s p (Some x) is = is

is_no_front : (s p : List ℕ) (r : Option (Bor (List ℕ))) → MatchOption r ((rest : List ℕ) → s ≢ p ++ rest) (λ x. s ≡ p ++ x.now) → r ≡ None → (tail : List ℕ) → s ≡ p ++ tail → ⊥
is_no_front s p None is eq tail begins = is tail begins
is_no_front s p (Some x) is eq tail begins = absurd cc

pub returns-clause-found : goal.returns-clause-found
returns-clause-found c = is_after c.args.bytes.now c.args.front.now c.strip_prefix.result (strip_prefix_is Decides-eqb c.args.bytes.now c.args.front.now c.strip_prefix.result c.strip_prefix.ensures.cases)

pub returns-clause-none : goal.returns-clause-none
returns-clause-none c = is_no_front c.args.bytes.now c.args.front.now c.strip_prefix.result (strip_prefix_is Decides-eqb c.args.bytes.now c.args.front.now c.strip_prefix.result c.strip_prefix.ensures.cases)
