use Rattle.std.proofs.Common.{◌≡◌, ◌∙◌, ap₂, refl, replicate, None, List, ℕ, false, []}
use Rattle.jf_path.specs.Bitmaps.{spread_items}
use Rattle.jf_hash.proofs.ranges.Ranges.none.Goals as goal

none_kept : spread_items {X = List ℕ} (replicate 16 false) [] ≡ replicate 16 None
unfolding spread_items
none_kept = refl

pub returns : goal.returns
returns c = ap₂ spread_items c.none.ensures c.new.ensures.items ∙ none_kept
