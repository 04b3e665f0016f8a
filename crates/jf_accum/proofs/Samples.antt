-- Worked totals: the definitions on lists of up to five hashes.
use Rattle.std.specs.Prelude.{◌≡◌, ℕ, List, [], ◌∷◌}
use Rattle.std.proofs.Common.{refl}
use Rattle.jf_accum.specs.Totals.{A, B, power_below, left_count, total_below, total}
use Rattle.jf_accum.specs.Members.{member_below, member, member_count_below, member_count, member_total}
use Rattle.jf_accum.specs.Extensions.{extension_below, extension_in, extension, extension_count_below, extension_count_in, extension_count, extension_totals}
use Rattle.jf_accum.specs.Inner.{inner_totals_below, inner_totals}

-- the greatest powers of two below 2, 3, 4, 5, 8 and 9
left_parts : left_count 2 ∷ left_count 3 ∷ left_count 4 ∷ left_count 5 ∷ left_count 8 ∷ left_count 9 ∷ [] ≡ 1 ∷ 2 ∷ 2 ∷ 4 ∷ 4 ∷ 8 ∷ []
unfolding left_count power_below
left_parts = refl

total_of_three : (a b c : List ℕ) → total (a ∷ b ∷ c ∷ []) ≡ B (B (A a) (A b)) (A c)
unfolding total total_below left_count power_below
total_of_three a b c = refl

total_of_five : (a b c d e : List ℕ) → total (a ∷ b ∷ c ∷ d ∷ e ∷ []) ≡ B (B (B (A a) (A b)) (B (A c) (A d))) (A e)
unfolding total total_below left_count power_below
total_of_five a b c d e = refl

path_of_three : (a b c : List ℕ) → member (a ∷ b ∷ c ∷ []) 1 ≡ A a ∷ A c ∷ []
unfolding member member_below total total_below left_count power_below
path_of_three a b c = refl

its_count : member_count 3 1 ≡ 2
unfolding member_count member_count_below left_count power_below
its_count = refl

its_total : (a b c : List ℕ) → member_total 3 1 b (A c ∷ A a ∷ []) ≡ B (B (A a) (A b)) (A c)
unfolding member_total left_count power_below
its_total a b c = refl

-- a whole left part needs only what stands beside it
extension_of_three : (a b c : List ℕ) → extension (a ∷ b ∷ c ∷ []) 2 ≡ A c ∷ []
unfolding extension_in extension_below total total_below left_count power_below
extension_of_three a b c = refl

extension_of_five : (a b c d e : List ℕ) → extension (a ∷ b ∷ c ∷ d ∷ e ∷ []) 3 ≡ A c ∷ A d ∷ B (A a) (A b) ∷ A e ∷ []
unfolding extension_in extension_below total total_below left_count power_below
extension_of_five a b c d e = refl

their_count : extension_count 5 3 ≡ 4
unfolding extension_count_in extension_count_below left_count power_below
their_count = refl

their_totals : (a b c d e : List ℕ) → extension_totals [] 3 5 (A e ∷ B (A a) (A b) ∷ A d ∷ A c ∷ []) ≡ (B (B (A a) (A b)) (A c), B (B (B (A a) (A b)) (B (A c) (A d))) (A e))
unfolding extension_totals left_count power_below
their_totals a b c d e = refl

-- all hashes extend to themselves by nothing
no_extension : (a b c : List ℕ) → extension (a ∷ b ∷ c ∷ []) 3 ≡ []
unfolding extension_in extension_below
no_extension a b c = refl

-- of five hashes the first two, the next two and the first four are full parts
inner_of_five : (a b c d e : List ℕ) → inner_totals (a ∷ b ∷ c ∷ d ∷ e ∷ []) ≡ B (A a) (A b) ∷ B (A c) (A d) ∷ B (B (A a) (A b)) (B (A c) (A d)) ∷ []
unfolding inner_totals inner_totals_below total total_below left_count power_below
inner_of_five a b c d e = refl
