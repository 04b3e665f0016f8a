-- The children that a bitmap spreads over places: each at its place, and those at some places together.
use Rattle.std.specs.Prelude.{◌≡◌, ◌<◌, ◌≤◌, ◌+◌, ◌==◌, ℕ, zero, suc, Bool, true, false, cond, List, [], ◌∷◌, ◌++◌, Option, Some, None, length, map, take, drop, refl, slice_get}
use Rattle.std.specs.List.{AllByRecursion, count_by}
use Rattle.std.specs.Option.{is_some}
use Rattle.std.proofs.Common.{arith, sym, subst, ap, ap₂, ◌∙◌, get_or, append-nil, add-one, length-append}
use Rattle.std.proofs.Math.Seq.{take-suc}
use Rattle.std.proofs.lemmas.Bool.Decides.{nat_tests}
use Rattle.std.proofs.lemmas.List.{length-map, take-map, drop-map, get_or-take, get_or-drop}
use Rattle.jf_path.specs.Bitmaps.{spread_items, present}
use Rattle.jf_path.proofs.BitmapLaws.{count_by-clear, count_by-set, get_or-spread, spread-present, count_by-is_some}
use Rattle.jf_node.specs.BranchFacts.{AreBranches, is_leaf_child}
use Rattle.jf_node.specs.Children.{entries_of_children}
use Rattle.jf_node.specs.LinkFacts.{IsLink, IsLinkIf}
use Rattle.jf_node.specs.LinkValue.{LinkValue}

-- the number of bits that are set
abbrev pub count : List Bool → ℕ
count bits = count_by (λ bit. bit) bits

-- ---- each child
-- within a list, what would stand in place of a missing element makes no difference
pub any_default : (xs : List (Option LinkValue)) (i : ℕ) (d e : Option LinkValue) → i < length xs → get_or xs i d ≡ get_or xs i e
any_default [] i d e small = absurd (omega (arith, small))
any_default (x ∷ xs) zero d e small = refl
any_default (x ∷ xs) (suc i) d e small = any_default xs i d e (omega (arith, small))

-- there is no child at a place without a bit
pub spread-none : (bits : List Bool) (xs : List LinkValue) (i : ℕ) → get_or bits i false ≡ false → get_or (spread_items bits xs) i None ≡ None
spread-none bits xs i off = get_or-spread bits xs i ∙ ap (λ b. cond b (slice_get xs (count (take i bits))) None) off

-- what holds of each link holds of the child at each place
pub each-spread : (bits : List Bool) (xs : List LinkValue) (i : ℕ) → AllByRecursion IsLink xs → IsLinkIf (get_or (spread_items bits xs) i None)
unfolding spread_items
each-spread [] xs i h = tt
each-spread (false ∷ bits) xs zero h = tt
each-spread (false ∷ bits) xs (suc i) h = each-spread bits xs i h
each-spread (true ∷ bits) [] zero h = tt
each-spread (true ∷ bits) [] (suc i) h = each-spread bits [] i h
each-spread (true ∷ bits) (x ∷ xs) zero h = h.0
each-spread (true ∷ bits) (x ∷ xs) (suc i) h = each-spread bits xs i h.1

-- ---- children that are packed
pub each-present : (xs : List (Option LinkValue)) → AllByRecursion IsLinkIf xs → AllByRecursion IsLink (present xs)
unfolding present
each-present [] h = tt
each-present (None ∷ xs) h = each-present xs h.1
each-present (Some x ∷ xs) h = (h.0, each-present xs h.1)

present-append : (xs ys : List (Option LinkValue)) → present (xs ++ ys) ≡ present xs ++ present ys
unfolding present
present-append [] ys = refl
present-append (None ∷ xs) ys = present-append xs ys
present-append (Some x ∷ xs) ys = ap (λ r. x ∷ r) (present-append xs ys)

-- one more child
pub present-more : (xs : List (Option LinkValue)) (i : ℕ) → i < length xs → present (take (i + 1) xs) ≡ present (take i xs) ++ present (get_or xs i None ∷ [])
present-more xs i small = ap (λ k. present (take k xs)) (add-one i) ∙ ap present (take-suc xs i None small) ∙ present-append (take i xs) (get_or xs i None ∷ [])

-- bits that say the same of each place
pub same_bits : (f : Option LinkValue → Bool) (bits : List Bool) (xs : List (Option LinkValue)) → length bits ≡ length xs → ((k : ℕ) → k < length xs → get_or bits k false ≡ f (get_or xs k None)) → bits ≡ map f xs
same_bits f [] [] long h = refl
same_bits f [] (x ∷ xs) long h = absurd (omega (arith, long))
same_bits f (b ∷ bits) [] long h = absurd (omega (arith, long))
same_bits f (b ∷ bits) (x ∷ xs) long h = ap₂ (λ c r. c ∷ r) (h 0 (omega arith)) (same_bits f bits xs (omega (arith, long)) (λ k lt. h (suc k) (omega (arith, lt))))

pub present-none : present {X = LinkValue} [] ≡ []
unfolding present
present-none = refl

pub push_none : (xs : List LinkValue) (child : Option LinkValue) → child ≡ None → xs ≡ xs ++ present (child ∷ [])
unfolding present
push_none xs child is = sym (ap (λ c. xs ++ present (c ∷ [])) is ∙ append-nil xs)

pub push_some : (xs : List LinkValue) (child : Option LinkValue) (x : LinkValue) → child ≡ Some x → xs ++ x ∷ [] ≡ xs ++ present (child ∷ [])
unfolding present
push_some xs child x is = sym (ap (λ c. xs ++ present (c ∷ [])) is)

pub all_by_place : (P : Option LinkValue → Type 0) (links : List (Option LinkValue)) → ((k : ℕ) → k < length links → P (get_or links k None)) → AllByRecursion P links
all_by_place P [] h = tt
all_by_place P (x ∷ links) h = (h 0 (omega arith), all_by_place P links (λ k lt. h (suc k) (omega (arith, lt))))

-- children that are packed represent themselves
pub packed_is : (xs : List (Option LinkValue)) (there : List Bool) (links : List LinkValue) → there ≡ map is_some xs → links ≡ present xs → spread_items there links ≡ xs
packed_is xs there links e f = ap₂ spread_items e f ∙ spread-present xs

pub packed_sound : (xs : List (Option LinkValue)) (there leaves : List Bool) (links : List LinkValue) → length xs ≡ 16 → ((k : ℕ) → k < 16 → IsLinkIf (get_or xs k None)) → there ≡ map is_some xs → leaves ≡ map is_leaf_child xs → links ≡ present xs → AreBranches there leaves links
packed_sound xs there leaves links long each e g f = record {
  long = ap length e ∙ length-map xs is_some ∙ long;
  many = ap (λ bits. count bits) e ∙ count_by-is_some xs ∙ ap length (sym f);
  lone = g ∙ ap (map is_leaf_child) (sym (packed_is xs there links e f));
  each = subst (AllByRecursion IsLink) (sym f) (each-present xs (all_by_place IsLinkIf xs (λ k lt. each k (omega (arith, lt, long)))));
}

-- ---- some places
-- the links to the children at the places from `start` on
abbrev pub among : List Bool → List LinkValue → ℕ → ℕ → List LinkValue
among bits xs start width = take (count (take width (drop start bits))) (drop (count (take start bits)) xs)

spread-take : (bits : List Bool) (xs : List LinkValue) (width : ℕ) → take width (spread_items bits xs) ≡ spread_items (take width bits) (take (count (take width bits)) xs)
unfolding spread_items
spread-take [] xs zero = refl
spread-take [] xs (suc width) = refl
spread-take (b ∷ bits) xs zero = refl
spread-take (false ∷ bits) xs (suc width) = ap (λ r. None ∷ r) (spread-take bits xs width ∙ ap (λ n. spread_items (take width bits) (take n xs)) (sym (count_by-clear (take width bits))))
spread-take (true ∷ bits) [] (suc width) =
    ap (λ r. None ∷ r) (spread-take bits [] width ∙ ap (spread_items (take width bits)) (take_none (count (take width bits))))
    ∙ ap (λ xs. spread_items (true ∷ take width bits) xs) (sym (take_none (count (take (suc width) (true ∷ bits)))))
  where
    take_none : (n : ℕ) → take {A = LinkValue} n [] ≡ []
    take_none zero = refl
    take_none (suc n) = refl
spread-take (true ∷ bits) (x ∷ xs) (suc width) =
    ap (λ r. Some x ∷ r) (spread-take bits xs width)
    ∙ ap (λ n. spread_items (true ∷ take width bits) (take n (x ∷ xs))) (let e : suc (count (take width bits)) ≡ count (take (suc width) (true ∷ bits)) = omega (arith, count_by-set (take width bits)) in e)

pub spread-drop : (bits : List Bool) (xs : List LinkValue) (start : ℕ) → drop start (spread_items bits xs) ≡ spread_items (drop start bits) (drop (count (take start bits)) xs)
unfolding spread_items
spread-drop [] xs zero = refl
spread-drop [] xs (suc start) = refl
spread-drop (b ∷ bits) xs zero = refl
spread-drop (false ∷ bits) xs (suc start) = spread-drop bits xs start ∙ ap (λ n. spread_items (drop start bits) (drop n xs)) (sym (count_by-clear (take start bits)))
spread-drop (true ∷ bits) [] (suc start) =
    spread-drop bits [] start ∙ ap (spread_items (drop start bits)) (drop_none (count (take start bits)) ∙ sym (drop_none (count (take (suc start) (true ∷ bits)))))
  where
    drop_none : (n : ℕ) → drop {A = LinkValue} n [] ≡ []
    drop_none zero = refl
    drop_none (suc n) = refl
spread-drop (true ∷ bits) (x ∷ xs) (suc start) =
    spread-drop bits xs start ∙ ap (λ n. spread_items (drop start bits) (drop n (x ∷ xs))) (let e : suc (count (take start bits)) ≡ count (take (suc start) (true ∷ bits)) = omega (arith, count_by-set (take start bits)) in e)

-- the children at some places
pub spread-among : (bits : List Bool) (xs : List LinkValue) (start width : ℕ) → take width (drop start (spread_items bits xs)) ≡ spread_items (take width (drop start bits)) (among bits xs start width)
spread-among bits xs start width = ap (take width) (spread-drop bits xs start) ∙ spread-take (drop start bits) (drop (count (take start bits)) xs) width

pub count-parts : (bits : List Bool) (n : ℕ) → count (take n bits) + count (drop n bits) ≡ count bits
count-parts [] zero = refl
count-parts [] (suc n) = refl
count-parts (b ∷ bits) zero = omega arith
count-parts (true ∷ bits) (suc n) = omega (arith, count_by-set bits, count_by-set (take n bits), count-parts bits n)
count-parts (false ∷ bits) (suc n) = omega (arith, count_by-clear bits, count_by-clear (take n bits), count-parts bits n)

-- there are as many links at some places as bits
pub ends : (bits : List Bool) (start width : ℕ) → count (take start bits) + count (take width (drop start bits)) ≤ count bits
ends bits start width = omega (arith, count-parts bits start, count-parts (drop start bits) width)

length-taken : (n : ℕ) (xs : List LinkValue) → n ≤ length xs → length (take n xs) ≡ n
length-taken zero xs h = refl
length-taken (suc n) [] h = absurd (omega arith)
length-taken (suc n) (x ∷ xs) h = omega (arith, length-taken n xs (omega arith))

pub length-dropped : (n : ℕ) (xs : List LinkValue) → n ≤ length xs → n + length (drop n xs) ≡ length xs
length-dropped zero xs h = omega arith
length-dropped (suc n) [] h = absurd (omega arith)
length-dropped (suc n) (x ∷ xs) h = omega (arith, length-dropped n xs (omega arith))

pub length-among : (bits : List Bool) (xs : List LinkValue) (start width : ℕ) → count bits ≡ length xs → length (among bits xs start width) ≡ count (take width (drop start bits))
length-among bits xs start width many =
    length-taken (count (take width (drop start bits))) (drop (count (take start bits)) xs)
    (omega (arith, ends bits start width, many, length-dropped (count (take start bits)) xs (omega (arith, ends bits start width, many))))

pub all-among : (P : LinkValue → Type 0) (bits : List Bool) (xs : List LinkValue) (start width : ℕ) → AllByRecursion P xs → AllByRecursion P (among bits xs start width)
all-among P bits xs start width h = taken (count (take width (drop start bits))) _ (dropped (count (take start bits)) xs h)
  where
    taken : (n : ℕ) (ys : List LinkValue) → AllByRecursion P ys → AllByRecursion P (take n ys)
    taken zero ys k = tt
    taken (suc n) [] k = tt
    taken (suc n) (y ∷ ys) k = (k.0, taken n ys k.1)

    dropped : (n : ℕ) (ys : List LinkValue) → AllByRecursion P ys → AllByRecursion P (drop n ys)
    dropped zero ys k = k
    dropped (suc n) [] k = tt
    dropped (suc n) (y ∷ ys) k = dropped n ys k.1

-- the entries of children are those of their links
pub joined-spread : (bits : List Bool) (xs : List LinkValue) → count bits ≡ length xs → entries_of_children (spread_items bits xs) ≡ entries_of_children (map Some xs)
unfolding spread_items
joined-spread [] [] many = refl
joined-spread [] (x ∷ xs) many = absurd (omega (arith, many))
joined-spread (false ∷ bits) xs many = joined-spread bits xs (sym (count_by-clear bits) ∙ many)
joined-spread (true ∷ bits) [] many = absurd (omega (arith, many, count_by-set bits))
joined-spread (true ∷ bits) (x ∷ xs) many = ap (λ r. x.entries ++ r) (joined-spread bits xs (omega (arith, many, count_by-set bits)))

pub joined-among : (bits : List Bool) (xs : List LinkValue) (start width : ℕ) → count bits ≡ length xs → entries_of_children (take width (drop start (spread_items bits xs))) ≡ entries_of_children (map Some (among bits xs start width))
joined-among bits xs start width many =
    ap entries_of_children (spread-among bits xs start width) ∙ joined-spread (take width (drop start bits)) (among bits xs start width) (sym (length-among bits xs start width many))

-- ---- leaves
leaves-spread : (bits : List Bool) (xs : List LinkValue) → count bits ≡ length xs → count (map is_leaf_child (spread_items bits xs)) ≡ count (map is_leaf_child (map Some xs))
unfolding spread_items
leaves-spread [] [] many = refl
leaves-spread [] (x ∷ xs) many = absurd (omega (arith, many))
leaves-spread (false ∷ bits) xs many = count_by-clear (map is_leaf_child (spread_items bits xs)) ∙ leaves-spread bits xs (sym (count_by-clear bits) ∙ many)
leaves-spread (true ∷ bits) [] many = absurd (omega (arith, many, count_by-set bits))
leaves-spread (true ∷ bits) (x ∷ xs) many =
    one (length x.entries == 1) (map is_leaf_child (spread_items bits xs)) (map is_leaf_child (map Some xs)) (leaves-spread bits xs (omega (arith, many, count_by-set bits)))
  where
    one : (b : Bool) (cs bs : List Bool) → count cs ≡ count bs → count (b ∷ cs) ≡ count (b ∷ bs)
    one true cs bs e = omega (arith, count_by-set cs, count_by-set bs, e)
    one false cs bs e = omega (arith, count_by-clear cs, count_by-clear bs, e)

leaves-among : (bits : List Bool) (xs : List LinkValue) (start width : ℕ) → count bits ≡ length xs → count (take width (drop start (map is_leaf_child (spread_items bits xs)))) ≡ count (map is_leaf_child (map Some (among bits xs start width)))
leaves-among bits xs start width many =
    ap (λ r. count (take width r)) (drop-map is_leaf_child start (spread_items bits xs))
    ∙ ap count (take-map is_leaf_child width (drop start (spread_items bits xs)))
    ∙ ap (λ r. count (map is_leaf_child r)) (spread-among bits xs start width)
    ∙ leaves-spread (take width (drop start bits)) (among bits xs start width) (sym (length-among bits xs start width many))

-- ---- what stands at some places
none_of : (ys : List LinkValue) → length ys ≡ 0 → entries_of_children (map Some ys) ≡ []
none_of [] e = refl
none_of (y ∷ ys) e = absurd (omega (arith, e))

one_of : (ys : List LinkValue) (d : LinkValue) → length ys ≡ 1 → entries_of_children (map Some ys) ≡ (get_or ys 0 d).entries
one_of [] d e = absurd (omega (arith, e))
one_of (y ∷ []) d e = append-nil y.entries
one_of (y ∷ z ∷ ys) d e = absurd (omega (arith, e))

leaf_of : (ys : List LinkValue) → length ys ≡ 1 → count (map is_leaf_child (map Some ys)) ≡ 1 → length (entries_of_children (map Some ys)) ≡ 1
leaf_of [] e h = absurd (omega (arith, e))
leaf_of (y ∷ []) e h =
    elim (length y.entries == 1) as (λ b. (length y.entries == 1) ≡ b → count (b ∷ []) ≡ 1 → length (y.entries ++ []) ≡ 1) [
      | true ↦ λ is one. ap length (append-nil y.entries) ∙ grind (arith, nat_tests, is)
      | false ↦ λ is one. absurd (omega (arith, one))
    ] refl h
leaf_of (y ∷ z ∷ ys) e h = absurd (omega (arith, e))

more_of : (ys : List LinkValue) → AllByRecursion IsLink ys → ¬ (length ys ≡ 0) → (length ys ≡ 1 → ¬ (count (map is_leaf_child (map Some ys)) ≡ 1)) → 2 ≤ length (entries_of_children (map Some ys))
more_of [] all some h = absurd (some refl)
more_of (y ∷ []) all some h =
    elim (length y.entries == 1) as (λ b. (length y.entries == 1) ≡ b → ¬ (count (b ∷ []) ≡ 1) → 2 ≤ length (y.entries ++ [])) [
      | true ↦ λ is more. absurd (more refl)
      | false ↦ λ is more. let wide : 2 ≤ length y.entries = grind (arith, nat_tests, is, all.0.entries.some) in omega (arith, wide, length-append y.entries [])
    ] refl (h refl)
more_of (y ∷ z ∷ ys) all some h =
    omega (arith, all.0.entries.some, all.1.0.entries.some, length-append y.entries (z.entries ++ entries_of_children (map Some ys)), length-append z.entries (entries_of_children (map Some ys)))

-- places without a bit have no entry
pub found_nothing : (bits leaves : List Bool) (xs : List LinkValue) (start width n : ℕ) → AreBranches bits leaves xs → n ≡ count (take width (drop start bits)) → n ≡ 0 → entries_of_children (take width (drop start (spread_items bits xs))) ≡ []
found_nothing bits leaves xs start width n h is empty =
    joined-among bits xs start width h.many ∙ none_of (among bits xs start width) (length-among bits xs start width h.many ∙ sym is ∙ empty)

-- one bit, of a leaf
pub found_leaf : (bits leaves : List Bool) (xs : List LinkValue) (start width n m : ℕ) (d : LinkValue) → AreBranches bits leaves xs → n ≡ count (take width (drop start bits)) → n ≡ 1 → m ≡ count (take width (drop start leaves)) → m ≡ 1
    → (entries_of_children (take width (drop start (spread_items bits xs))) ≡ (get_or xs (count (take start bits)) d).entries) × (length (entries_of_children (take width (drop start (spread_items bits xs)))) ≡ 1)
found_leaf bits leaves xs start width n m d h is one lone single =
    let ys = among bits xs start width in
    let r = count (take start bits) in
    let k = count (take width (drop start bits)) in
    let alone : length ys ≡ 1 = length-among bits xs start width h.many ∙ sym is ∙ one in
    let all : entries_of_children (take width (drop start (spread_items bits xs))) ≡ entries_of_children (map Some ys) = joined-among bits xs start width h.many in
    let first : get_or ys 0 d ≡ get_or xs (r + 0) d = get_or-take k (drop r xs) 0 d (omega (arith, is, one)) ∙ get_or-drop r xs 0 d in
    let at : r + 0 ≡ r = omega arith in
    let leaf : count (map is_leaf_child (map Some ys)) ≡ 1 = sym (ap (λ bs. count (take width (drop start bs))) h.lone ∙ leaves-among bits xs start width h.many) ∙ sym lone ∙ single in
    (all ∙ one_of ys d alone ∙ ap (λ x. x.entries) (first ∙ ap (λ i. get_or xs i d) at), ap length all ∙ leaf_of ys alone leaf)

-- otherwise there are two entries or more
pub found_more : (bits leaves : List Bool) (xs : List LinkValue) (start width n m : ℕ) → AreBranches bits leaves xs → n ≡ count (take width (drop start bits)) → ¬ (n ≡ 0) → m ≡ count (take width (drop start leaves)) → (n ≡ 1 → ¬ (m ≡ 1))
    → 2 ≤ length (entries_of_children (take width (drop start (spread_items bits xs))))
found_more bits leaves xs start width n m h is some lone other =
    let ys = among bits xs start width in
    let long : length ys ≡ n = length-among bits xs start width h.many ∙ sym is in
    let all : entries_of_children (take width (drop start (spread_items bits xs))) ≡ entries_of_children (map Some ys) = joined-among bits xs start width h.many in
    let leaf : m ≡ count (map is_leaf_child (map Some ys)) = lone ∙ ap (λ bs. count (take width (drop start bs))) h.lone ∙ leaves-among bits xs start width h.many in
    omega (arith, ap length all, more_of ys (all-among IsLink bits xs start width h.each) (λ e. some (sym long ∙ e)) (λ e one. other (sym long ∙ e) (leaf ∙ one)))
