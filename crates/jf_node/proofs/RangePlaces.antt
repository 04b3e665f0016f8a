-- The entries of a range of places, and those of its halves.
use denote.Ref.{Bor}
use Rattle.std.specs.Prelude.{◌≡◌, ◌-◌, ℕ, [], ◌∷◌, length, ◌<◌, ◌^◌, true, cond, ◌≤◌, false, ◌*◌, ◌+◌, ◌%◌, zero, suc, List, Option, None, Some, take, drop, Bool}
use Rattle.std.proofs.Common.{arith, sym, ◌∙◌, refl, ap₂, subst, ap, get_or}
use Rattle.std.proofs.lemmas.Bool.Decides.{nat_tests}
use Rattle.std.specs.FinMap.{find}
use Rattle.std.specs.FinMap.Entries.{find-where_key}
use Rattle.jf_path.specs.Nibbles.{nibble}
use Rattle.jf_path.specs.Keys.{key_cmp}
use Rattle.jf_path.proofs.NibbleLaws.{nibble-small}
use Rattle.jf_hash.specs.Hashes.{E}
use Rattle.jf_hash.specs.Roots.{part_root, zeros, ones}
use Rattle.jf_hash.specs.Slots.{Part}
use Rattle.jf_hash.specs.Ranges.{lies_in, in_range, IsRange}
use Rattle.jf_hash.proofs.RootLaws.{part_root-none, part_root-one}
use Rattle.jf_hash.proofs.RangeLaws.{IsRange-of_level, fits_all}
use Rattle.jf_hash.proofs.SlotLaws.{zeros-in_range, ones-in_range}
use Rattle.jf_hash.proofs.KeyOrder.{same_key-exact}
use Rattle.jf_node.specs.LinkValue.{LinkValue}
use Rattle.jf_node.specs.LinkFacts.{IsLink}
use Rattle.jf_node.specs.Placed.{ArePlaces, IsPlaced, range_value}
use Rattle.jf_node.specs.RangeValue.{RangeValue}
use Rattle.jf_node.specs.Children.{content, entries_of_children}
use Rattle.jf_node.specs.Shown.{ShowsInner}
use Rattle.jf_node.specs.RangeStates.{IsFound}
use Rattle.jf_node.specs.declared.found.Found.{Found}
use Rattle.jf_node.specs.declared.range.RangePlace.{RangePlace}
use Rattle.jf_node.specs.declared.range.RangePlace.TheVariants.{Places, Leaf, Nowhere}
use Rattle.jf_node.proofs.InRanges.{one_place, in_range-joined}
use Rattle.jf_node.proofs.ChildLaws.{child_depth}
use Rattle.jf_node.proofs.PlaceLaws.{one_wide}

-- the hash of one entry is the same at each depth
pub one_hash : (d e : ℕ) (es : Part) → length es ≡ 1 → part_root d es ≡ part_root e es
one_hash d e [] one = absurd (omega arith)
one_hash d e (x ∷ []) one = part_root-one d x.0 x.1 ∙ sym (part_root-one e x.0 x.1)
one_hash d e (x ∷ y ∷ es) one = absurd (omega arith)

-- the range of all places has all entries
pub in_all : (d : ℕ) (es : Part) → in_range d 0 (2 ^ 4) es ≡ es
in_all d [] = refl
in_all d (e ∷ es) = ap₂ (λ b t. cond b (e ∷ t) t) (any (nibble e.0 d) (nibble-small e.0 d)) (in_all d es)
  where
    any : (n : ℕ) → n < 16 → lies_in 0 16 n ≡ true
    any n small = grind (arith, nat_tests)

-- a range has no more entries than its node
pub in_few : (d start width : ℕ) (es : Part) → length (in_range d start width es) ≤ length es
in_few d start width [] = omega arith
in_few d start width (e ∷ es) =
    let rest = in_few d start width es in
    elim (lies_in start width (nibble e.0 d)) as (λ b. length (cond b (e ∷ in_range d start width es) (in_range d start width es)) ≤ length (e ∷ es)) [ true ↦ omega arith | false ↦ omega arith ]

-- all places of an inner node are a range with two entries or more
pub all_of_node : (x : LinkValue) (depth : ℕ) → IsLink x → ¬ (length x.entries ≡ 1) → depth ≡ 4 * x.depth → ArePlaces depth x 0 4
all_of_node x depth link more deep =
    let two : 2 ≤ length x.entries = omega (arith, link.entries.some) in
    record {
      wide = omega arith;
      narrow = omega arith;
      aligned = refl;
      within = omega arith;
      inner = link.inner two;
      deep = omega arith;
      several = subst (λ es. 2 ≤ length es) (sym (in_all x.depth x.entries)) two;
    }

-- the node of places has several entries, and its places are a range
pub node_several : (depth : ℕ) (x : LinkValue) (start level : ℕ) → ArePlaces depth x start level → 2 ≤ length x.entries
node_several depth x start level h = omega (arith, in_few x.depth start (2 ^ level) x.entries, h.several)

pub node_range : (depth : ℕ) (x : LinkValue) (start level : ℕ) → ArePlaces depth x start level → IsRange start (2 ^ level)
node_range depth x start level h = IsRange-of_level level start h.narrow h.aligned h.within

-- ---- halves
pub record Halved (start level : ℕ) : Type 0 where
  pub lower : start % 2 ^ level ≡ 0
  pub upper : (start + 2 ^ level) % 2 ^ level ≡ 0
  pub within : start + 2 ^ level < 16

pub halved : (level start : ℕ) → level < 4 → start < 16 → start % 2 ^ suc level ≡ 0 → Halved start level
halved zero start small lt aligned = record { lower = omega arith; upper = omega arith; within = omega arith }
halved (suc zero) start small lt aligned = record { lower = omega arith; upper = omega arith; within = omega arith }
halved (suc (suc zero)) start small lt aligned = record { lower = omega arith; upper = omega arith; within = omega arith }
halved (suc (suc (suc zero))) start small lt aligned = record { lower = omega arith; upper = omega arith; within = omega arith }
halved (suc (suc (suc (suc level)))) start small lt aligned = absurd (omega arith)

pub lower_half : (depth : ℕ) (x : LinkValue) (start level half : ℕ) → ArePlaces depth x start level → level ≡ suc half → zeros depth (in_range x.depth start (2 ^ level) x.entries) ≡ in_range x.depth start (2 ^ half) x.entries
lower_half depth x start level half h is =
    let aligned : start % 2 ^ suc half ≡ 0 = subst (λ l. start % 2 ^ l ≡ 0) is h.aligned in
    ap (λ l. zeros depth (in_range x.depth start (2 ^ l) x.entries)) is ∙ zeros-in_range x.depth half start depth x.entries (omega (arith, h.narrow)) (omega (arith, h.deep, h.narrow)) aligned

pub upper_half : (depth : ℕ) (x : LinkValue) (start level half : ℕ) → ArePlaces depth x start level → level ≡ suc half → ones depth (in_range x.depth start (2 ^ level) x.entries) ≡ in_range x.depth (start + 2 ^ half) (2 ^ half) x.entries
upper_half depth x start level half h is =
    let aligned : start % 2 ^ suc half ≡ 0 = subst (λ l. start % 2 ^ l ≡ 0) is h.aligned in
    ap (λ l. ones depth (in_range x.depth start (2 ^ l) x.entries)) is ∙ ones-in_range x.depth half start depth x.entries (omega (arith, h.narrow)) (omega (arith, h.deep, h.narrow)) aligned

-- ---- one place, and several
-- the node of the binary tree for some places of a stored node
abbrev pub among : LinkValue → ℕ → ℕ → RangeValue
among x start level = record { depth = 4 * x.depth + (4 - level); entries = in_range x.depth start (2 ^ level) x.entries }

at_one : (x : LinkValue) (links : List (Option LinkValue)) (start level : ℕ) → ShowsInner x links → start < 16 → level ≡ 0 → in_range x.depth start (2 ^ level) x.entries ≡ content (get_or links start None)
at_one x links start level shows small one =
    let long = shows.children.long in
    ap (λ l. in_range x.depth start (2 ^ l) x.entries) one ∙ ap (in_range x.depth start 1) shows.entries ∙ one_place x.depth start links shows.children.fit (omega arith)

-- the node for one place has no entry, or is the top of the child there
pub one_none : (x : LinkValue) (links : List (Option LinkValue)) (start level d : ℕ) → ShowsInner x links → start < 16 → level ≡ 0 → d ≡ x.depth → None ≡ get_or links start None → record { depth = 4 * d + (4 - level); entries = [] } ≡ among x start level
one_none x links start level d shows small one deep is =
    ap₂ (λ k es. record { depth = 4 * k + (4 - level); entries = es }) deep (sym (at_one x links start level shows small one ∙ ap content (sym is)))

pub one_some : (x child : LinkValue) (links : List (Option LinkValue)) (start level : ℕ) → ShowsInner x links → start < 16 → level ≡ 0 → Some child ≡ get_or links start None → record { depth = 4 * child.depth; entries = child.entries } ≡ among x start level
one_some x child links start level shows small one is =
    let below = child_depth x.depth start links child shows.children small (sym is) in
    let deep : 4 * child.depth ≡ 4 * x.depth + (4 - level) = omega arith in
    ap₂ (λ k es. record { depth = k; entries = es }) deep (sym (at_one x links start level shows small one ∙ ap content (sym is)))

-- what is found at some places are the children there
pub found_there : (x : LinkValue) (links : List (Option LinkValue)) (start level width : ℕ) (f : Found) → ShowsInner x links → width ≡ 2 ^ level → IsFound (entries_of_children (take width (drop start links))) f → IsFound (in_range x.depth start (2 ^ level) x.entries) f
found_there x links start level width f shows wide h =
    subst (λ es. IsFound es f) (sym (ap₂ (in_range x.depth start) (sym wide) shows.entries ∙ in_range-joined x.depth start width links shows.children.fit)) h

-- two entries or more at several places
pub several_places : (x : LinkValue) (start level depth d : ℕ) → IsLink x → 2 ≤ length x.entries → level ≤ 4 → ¬ (level ≡ 0) → start % 2 ^ level ≡ 0 → start < 16 → d ≡ x.depth → depth ≡ 4 * d + (4 - level) → 2 ≤ length (in_range x.depth start (2 ^ level) x.entries) → ArePlaces depth x start level
several_places x start level depth d link inner small wide aligned within deep is two = record {
  wide = omega arith;
  narrow = small;
  aligned = aligned;
  within = within;
  inner = link.inner inner;
  deep = is ∙ ap (λ k. 4 * k + (4 - level)) deep;
  several = two;
}

pub among_is : (x : LinkValue) (start level d : ℕ) (es : Part) → d ≡ x.depth → es ≡ in_range x.depth start (2 ^ level) x.entries → record { depth = 4 * d + (4 - level); entries = es } ≡ among x start level
among_is x start level d es deep is = ap₂ (λ k fs. record { depth = 4 * k + (4 - level); entries = fs }) deep is

pub range_ends : (level start width : ℕ) → level ≤ 4 → start % 2 ^ level ≡ 0 → start < 16 → width ≡ 2 ^ level → start + width ≤ 16
range_ends level start width small aligned within is = subst (λ w. start + w ≤ 16) (sym is) (fits_all level start small aligned within)

-- ---- keys
-- a key is found among the entries of a range if its nibble lies there
pub find-in_range : (d start width : ℕ) (key : List ℕ) (es : Part) → find key_cmp key (in_range d start width es) ≡ cond (lies_in start width (nibble key d)) (find key_cmp key es) None
find-in_range d start width key es =
    find-where_key key_cmp (λ k. lies_in start width (nibble k d)) key (λ x e. ap (λ k. lies_in start width (nibble k d)) (sym (same_key-exact key x e))) es

-- ---- how a range is kept
-- what holds of a range over some places
pub placed : (depth : ℕ) (place : RangePlace) (link : Bor LinkValue) (start level : ℕ) → IsPlaced depth place → place ≡ Places link start level → ArePlaces depth link.now start level
placed depth place link start level h is = subst (IsPlaced depth) is h

pub placed_leaf : (depth : ℕ) (place : RangePlace) (link : Bor LinkValue) → IsPlaced depth place → place ≡ Leaf link → (depth ≤ 256) × (length link.now.entries ≡ 1)
placed_leaf depth place link h is = subst (IsPlaced depth) is h

pub placed_nowhere : (depth : ℕ) (place : RangePlace) → IsPlaced depth place → place ≡ Nowhere → depth ≤ 256
placed_nowhere depth place h is = subst (IsPlaced depth) is h

-- a range has the value of the place at which it is kept
pub kept_as : (v : RangeValue) (depth : ℕ) (place other : RangePlace) → range_value depth place ≡ v → place ≡ other → v ≡ range_value depth other
kept_as v depth place other seen is = sym seen ∙ ap (range_value depth) is

-- a key is found at some places if its nibble lies there
pub find_places : (v : RangeValue) (depth start level d n w : ℕ) (place : RangePlace) (link : Bor LinkValue) (key : List ℕ) (b : Bool) → range_value depth place ≡ v → place ≡ Places link start level
    → d ≡ link.now.depth → n ≡ nibble key d → w ≡ 2 ^ level → b ≡ lies_in start w n → find key_cmp key v.entries ≡ cond b (find key_cmp key link.now.entries) None
find_places v depth start level d n w place link key b seen is deep nib wide test =
    ap (λ x. find key_cmp key x.entries) (kept_as v depth place _ seen is)
    ∙ find-in_range link.now.depth start (2 ^ level) key link.now.entries
    ∙ ap (λ t. cond t (find key_cmp key link.now.entries) None) (ap₂ (λ m k. lies_in start m k) (sym wide) (ap (nibble key) (sym deep) ∙ sym nib) ∙ sym test)

-- ---- the halves of places
pub pred_is : (level : ℕ) → 1 ≤ level → level ≡ suc (level - 1)
pred_is level h = omega arith

-- the lower half of the places has the entries whose next bit is 0, and the upper half those where it is 1
pub lower_is : (v : RangeValue) (depth start level : ℕ) (place : RangePlace) (link : Bor LinkValue) → range_value depth place ≡ v → IsPlaced depth place → place ≡ Places link start level → among link.now start (level - 1) ≡ record { depth = v.depth + 1; entries = zeros v.depth v.entries }
lower_is v depth start level place link seen h is =
    let p = placed depth place link start level h is in
    let deep : 4 * link.now.depth + (4 - (level - 1)) ≡ depth + 1 = omega (arith, p.deep, p.wide, p.narrow) in
    ap₂ (λ k es. record { depth = k; entries = es }) deep (sym (lower_half depth link.now start level (level - 1) p (pred_is level p.wide)))
    ∙ ap (λ w. record { depth = w.depth + 1; entries = zeros w.depth w.entries }) (sym (kept_as v depth place _ seen is))

pub upper_is : (v : RangeValue) (depth start level half : ℕ) (place : RangePlace) (link : Bor LinkValue) → range_value depth place ≡ v → IsPlaced depth place → place ≡ Places link start level → half ≡ 2 ^ (level - 1) → among link.now (start + half) (level - 1) ≡ record { depth = v.depth + 1; entries = ones v.depth v.entries }
upper_is v depth start level half place link seen h is wide =
    let p = placed depth place link start level h is in
    let deep : 4 * link.now.depth + (4 - (level - 1)) ≡ depth + 1 = omega (arith, p.deep, p.wide, p.narrow) in
    ap (λ w. among link.now (start + w) (level - 1)) wide
    ∙ ap₂ (λ k es. record { depth = k; entries = es }) deep (sym (upper_half depth link.now start level (level - 1) p (pred_is level p.wide)))
    ∙ ap (λ w. record { depth = w.depth + 1; entries = ones w.depth w.entries }) (sym (kept_as v depth place _ seen is))

pub halves_of : (depth start level : ℕ) (x : LinkValue) → ArePlaces depth x start level → Halved start (level - 1)
halves_of depth start level x p = halved (level - 1) start (omega (arith, p.narrow, p.wide)) p.within (subst (λ l. start % 2 ^ l ≡ 0) (pred_is level p.wide) p.aligned)

-- the hash of the places is that of the node
pub range_hash_is : (v : RangeValue) (depth start level width : ℕ) (place : RangePlace) (link : Bor LinkValue) → range_value depth place ≡ v → IsPlaced depth place → place ≡ Places link start level → width ≡ 2 ^ level
    → part_root (4 * link.now.depth + (4 - level)) (in_range link.now.depth start width link.now.entries) ≡ part_root v.depth v.entries
range_hash_is v depth start level width place link seen h is wide =
    ap₂ (λ d w. part_root d (in_range link.now.depth start w link.now.entries)) (sym (placed depth place link start level h is).deep) wide
    ∙ ap (λ w. part_root w.depth w.entries) (sym (kept_as v depth place _ seen is))

pub places_end : (depth start level width : ℕ) (place : RangePlace) (link : Bor LinkValue) → IsPlaced depth place → place ≡ Places link start level → width ≡ 2 ^ level → start + width ≤ 16
places_end depth start level width place link h is wide =
    let p = placed depth place link start level h is in
    range_ends level start width p.narrow p.aligned p.within wide

-- ---- counts
pub same_count : (x : LinkValue) (links : List (Option LinkValue)) (start width : ℕ) → ShowsInner x links → entries_of_children (take width (drop start links)) ≡ in_range x.depth start width x.entries
same_count x links start width shows = sym (ap (in_range x.depth start width) shows.entries ∙ in_range-joined x.depth start width links shows.children.fit)

-- some places have fewer than 2 ^ 64 entries
pub some_fit : (x : LinkValue) (links : List (Option LinkValue)) (start width : ℕ) → ShowsInner x links → IsLink x → length (entries_of_children (take width (drop start links))) < 2 ^ 64
some_fit x links start width shows link = omega (arith, ap length (same_count x links start width shows), in_few x.depth start width x.entries, link.bounded)

-- the children at some places have as many entries as the range
pub count_is : (v : RangeValue) (depth start level width : ℕ) (place : RangePlace) (link : Bor LinkValue) (links : List (Option LinkValue)) → range_value depth place ≡ v → place ≡ Places link start level → width ≡ 2 ^ level → ShowsInner link.now links
    → length (entries_of_children (take width (drop start links))) ≡ length v.entries
count_is v depth start level width place link links seen is wide shows =
    ap length (same_count link.now links start width shows) ∙ ap (λ w. length (in_range link.now.depth start w link.now.entries)) wide ∙ ap (λ w. length w.entries) (sym (kept_as v depth place _ seen is))

-- ---- hashes
-- the entries at one place are those of the child there
place_is : (x : LinkValue) (links : List (Option LinkValue)) (start width : ℕ) (child : Option LinkValue) → ShowsInner x links → start < 16 → width ≡ 1 → child ≡ get_or links start None → in_range x.depth start width x.entries ≡ content child
place_is x links start width child shows small one is =
    ap (λ w. in_range x.depth start w x.entries) one ∙ ap (in_range x.depth start 1) shows.entries
    ∙ one_place x.depth start links shows.children.fit (omega (arith, shows.children.long, small)) ∙ ap content (sym is)

-- the hash of one place is that of the child there, or of nothing
pub place_none : (x : LinkValue) (links : List (Option LinkValue)) (start width d : ℕ) → ShowsInner x links → start < 16 → width ≡ 1 → None ≡ get_or links start None → E ≡ part_root d (in_range x.depth start width x.entries)
place_none x links start width d shows small one is = sym (ap (part_root d) (place_is x links start width None shows small one is) ∙ part_root-none d)

pub place_some : (x : LinkValue) (links : List (Option LinkValue)) (start width level : ℕ) (child : LinkValue) → ShowsInner x links → start < 16 → width ≡ 1 → width ≡ 2 ^ level → Some child ≡ get_or links start None
    → part_root (4 * child.depth) child.entries ≡ part_root (4 * x.depth + (4 - level)) (in_range x.depth start width x.entries)
place_some x links start width level child shows small one wide is =
    let deep : 4 * child.depth ≡ 4 * x.depth + (4 - level) = omega (arith, child_depth x.depth start links child shows.children small (sym is), one_wide level (sym one ∙ wide)) in
    ap₂ part_root deep (sym (place_is x links start width (Some child) shows small one is))

-- the hash of places without a child, and of those with one leaf
pub places_none : (x : LinkValue) (links : List (Option LinkValue)) (start width d : ℕ) → ShowsInner x links → entries_of_children (take width (drop start links)) ≡ [] → E ≡ part_root d (in_range x.depth start width x.entries)
places_none x links start width d shows none = sym (ap (part_root d) (sym (same_count x links start width shows) ∙ none) ∙ part_root-none d)

pub places_leaf : (x : LinkValue) (links : List (Option LinkValue)) (start width d : ℕ) (child : LinkValue) → ShowsInner x links → (entries_of_children (take width (drop start links)) ≡ child.entries) × (length (entries_of_children (take width (drop start links))) ≡ 1)
    → part_root (4 * child.depth) child.entries ≡ part_root d (in_range x.depth start width x.entries)
places_leaf x links start width d child shows alone =
    one_hash (4 * child.depth) d child.entries (sym (ap length alone.0) ∙ alone.1) ∙ ap (part_root d) (sym alone.0 ∙ same_count x links start width shows)
