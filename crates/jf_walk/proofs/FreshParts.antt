-- The walk from the top with the part of each node.
use Rattle.std.proofs.Common.{◌≡◌, List, [], ◌∷◌, map, refl, sym, ap, ap₂, ◌∙◌}
use Rattle.std.specs.FinMap.{entries}
use Rattle.std.specs.List.{AllByRecursion}
use Rattle.jf_path.proofs.ListLaws.{All-weaker}
use Rattle.jf_hash.specs.Slots.{Part}
use Rattle.jf_hash.specs.Maps.{Map}
use Rattle.jf_model.specs.Nodes.{Path, fresh}
use Rattle.jf_model.specs.ChildEntries.{sub}
use Rattle.jf_model.specs.Walk.{with_root}
use Rattle.jf_model.proofs.NodeLaws.{IsListed}
use Rattle.jf_walk.proofs.SubLaws.{sub-under}
use Rattle.jf_walk.proofs.FreshLaws.{with_root-fresh}
use Rattle.jf_walk.proofs.FreshOrder.{fresh-IsListed}

module _ {X : Type 0} where
  map-parts : (es : Part) (g : Path → Part → X) (xs : List (Path × Part)) → AllByRecursion (IsListed 0 es) xs → map (λ (x : Path × Part). g x.0 (sub 0 x.0 es)) xs ≡ map (λ (x : Path × Part). g x.0 x.1) xs
  map-parts es g [] h = refl
  map-parts es g (x ∷ xs) h = ap₂ (λ y ys. y ∷ ys) (ap (g x.0) (sub-under 0 x.0 es h.0.1 ∙ sym h.0.0)) (map-parts es g xs h.1)

  -- the walk lists g of each path and its node's part: just the result of g for the pairs that a landing writes
  pub with_root-fresh_parts : (m m' : Map) (g : Path → Part → X) → with_root (entries m) (entries m') (λ p. g p (sub 0 p (entries m'))) ≡ map (λ (x : Path × Part). g x.0 x.1) (fresh m m')
  with_root-fresh_parts m m' g = with_root-fresh m m' (λ p. g p (sub 0 p (entries m'))) ∙ map-parts (entries m') g (fresh m m') (fresh-IsListed m m')

-- each pair has the part of its node
pub fresh-sub : (m m' : Map) → AllByRecursion (λ x. x.1 ≡ sub 0 x.0 (entries m')) (fresh m m')
fresh-sub m m' = All-weaker (IsListed 0 (entries m')) (λ x. x.1 ≡ sub 0 x.0 (entries m')) (λ x is. is.0 ∙ sym (sub-under 0 x.0 (entries m') is.1)) (fresh m m') (fresh-IsListed m m')
