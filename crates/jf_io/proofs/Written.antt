-- What was put into a sink in several calls.
use Rattle.std.proofs.Common.{◌≡◌, ℕ, Option, Some, None, option_map, List, [], ◌++◌, refl, sym, ap, append-nil, append_assoc}

-- if nothing was put, the text is unchanged
pub nothing_written : (text : Option (List ℕ)) → text ≡ option_map (λ t. t ++ []) text
nothing_written None = refl
nothing_written (Some t) = ap (λ x. Some x) (sym (append-nil t))

-- two texts put one after the other
pub written_more : (text : Option (List ℕ)) (a b : List ℕ) → option_map (λ t. t ++ b) (option_map (λ t. t ++ a) text) ≡ option_map (λ t. t ++ (a ++ b)) text
written_more None a b = refl
written_more (Some t) a b = ap (λ x. Some x) (append_assoc t a b)
