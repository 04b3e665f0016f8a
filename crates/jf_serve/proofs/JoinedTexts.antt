-- Texts of the elements of a list, one after another.
use Rattle.std.proofs.Common.{◌≡◌, ℕ, ◌+◌, ◌<◌, List, [], ◌∷◌, ◌++◌, map, take, drop, length, get_or, refl, sym, ap, ◌∙◌, append_assoc, append-nil, take-append-drop}
use Rattle.std.proofs.lemmas.Grind.{take_at_read}
use Rattle.std.specs.List.{concat}

module _ {X : Type 0} (text : X → List ℕ) where
  -- those of two lists
  concat-append : (xs ys : List X) → concat (map text (xs ++ ys)) ≡ concat (map text xs) ++ concat (map text ys)
  concat-append [] ys = refl
  concat-append (x ∷ xs) ys = ap (λ t. text x ++ t) (concat-append xs ys) ∙ sym (append_assoc (text x) (concat (map text xs)) (concat (map text ys)))

  module _ (xs : List X) (i : ℕ) (d x : X) (lt : i < length xs) (is : x ≡ get_or xs i d) where
    -- one more element
    pub concat-next : concat (map text (take (i + 1) xs)) ≡ concat (map text (take i xs)) ++ text x
    concat-next =
        ap (λ ys. concat (map text ys)) ((take_at_read xs i d lt).1 ∙ ap (λ y. take i xs ++ y ∷ []) (sym is))
        ∙ concat-append (take i xs) (x ∷ []) ∙ ap (λ t. concat (map text (take i xs)) ++ t) (append-nil (text x))

    -- that element and all after it
    pub concat-rest : concat (map text (take i xs)) ++ text x ++ concat (map text (drop (i + 1) xs)) ≡ concat (map text xs)
    concat-rest =
        ap (λ t. t ++ concat (map text (drop (i + 1) xs))) (sym concat-next) ∙ sym (concat-append (take (i + 1) xs) (drop (i + 1) xs))
        ∙ ap (λ ys. concat (map text ys)) (take-append-drop (i + 1) xs)
