-- Rounds over named nodes and over names: the next of them is at the front, and one more is read.
use Rattle.std.proofs.Common.{◌≡◌, ℕ, ◌+◌, ◌<◌, List, [], ◌∷◌, ◌++◌, length, take, drop, get_or, sym, ap, ◌∙◌, append_assoc}
use Rattle.std.proofs.lemmas.List.{append-nil, at_drop_more, take_more}
use Rattle.std.proofs.lemmas.List.Concat.{flat_map-append}
use Rattle.std.specs.List.{flat_map}
use Rattle.jf_path.specs.declared.name.NodeName.{NodeName}
use Rattle.jf_path.specs.declared.node.PlainNode.{PlainNode}
use Rattle.jf_path.specs.declared.node.PlainNode.TheVariants as node

module _ {X : Type 0} (spell : X → List ℕ) (xs : List X) (none : X) (tail : List ℕ) (i : ℕ) (rest : List ℕ) (at : rest ≡ flat_map spell (drop i xs) ++ tail) where
  -- the next item is at the front
  pub next_at_front : i < length xs → rest ≡ spell (get_or xs i none) ++ (flat_map spell (drop (i + 1) xs) ++ tail)
  next_at_front lt =
      at ∙ at_drop_more (λ ys. flat_map spell ys ++ tail) xs i none lt ∙ append_assoc (spell (get_or xs i none)) (flat_map spell (drop (i + 1) xs)) tail

module _ {X Y : Type 0} (read : X → List Y) (xs : List X) (none : X) (i : ℕ) (so_far : List Y) (is : so_far ≡ flat_map read (take i xs)) where
  -- one more item is read
  pub one_more_read : i < length xs → (more : List Y) → more ≡ so_far ++ read (get_or xs i none) → more ≡ flat_map read (take (i + 1) xs)
  one_more_read lt more e =
      let x = get_or xs i none in
      e ∙ ap (λ ys. ys ++ read x) is
      ∙ sym (ap (flat_map read) (take_more xs i none lt) ∙ flat_map-append read (take i xs) (x ∷ []) ∙ ap (λ ys. flat_map read (take i xs) ++ ys) (append-nil (read x)))

-- stands in place of a node, and of a name, that isn't there
abbrev pub no_name : NodeName
no_name = record { version = 0; path = [] }

abbrev pub no_node : NodeName × PlainNode
no_node = (no_name, node.Null)
