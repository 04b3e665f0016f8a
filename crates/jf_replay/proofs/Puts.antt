-- Changes that are put one by one, from the last node of a list to the first.
use Rattle.std.proofs.Common.{◌≡◌, ℕ, ◌+◌, ◌-◌, ◌<◌, ◌≤◌, List, [], ◌∷◌, ◌++◌, length, drop, get_or, drop-cons, Some, None, refl, sym, ap, ◌∙◌, arith, add-one, reverse, Ordering, Less, Equal, Greater}
use Rattle.std.proofs.lemmas.List.{get_or-reverse, length-reverse, length_push}
use Rattle.std.specs.BTreeMap.{insert_entry}
use Rattle.std.specs.FinMap.{put, entries}
use Rattle.std.specs.FinMap.Entries.{by_order}
use Rattle.std.specs.Ordering.{match_ordering}
use Rattle.jf_path.specs.Keys.{key_cmp}
use Rattle.jf_path.specs.declared.name.NodeName.{NodeName}
use Rattle.jf_hash.specs.Maps.{Map, Batch}
use Rattle.jf_hash.specs.Slots.{Part}
use Rattle.jf_model.specs.Nodes.{under}
use Rattle.jf_standing.specs.Landing.{by_key}
use Rattle.jf_standing.proofs.Batches.{puts_of, removals_of}
use Rattle.jf_replay.specs.Changes.{put_each, leaves_at, sole, removal_of}

-- changes put over none are in the order of keys
pub put_each-by_key : (xs ys : Batch) → put_each xs (put_each ys []) ≡ by_key (xs ++ ys)
put_each-by_key [] [] = refl
put_each-by_key [] (e ∷ ys) = ap (put key_cmp e.0 e.1) (put_each-by_key [] ys)
put_each-by_key (e ∷ xs) ys = ap (put key_cmp e.0 e.1) (put_each-by_key xs ys)

module _ {X : Type 0} where
  same_choice : (o : Ordering) (x y z : List (List ℕ × X)) → match_ordering o x y z ≡ by_order o x y z
  same_choice Less x y z = refl
  same_choice Equal x y z = refl
  same_choice Greater x y z = refl

  -- a key set in std's tree is put into the list of its entries
  pub insert_entry-is_put : (k : List ℕ) (v : X) (es : List (List ℕ × X)) → insert_entry key_cmp es k v ≡ put key_cmp k v es
  insert_entry-is_put k v [] = refl
  insert_entry-is_put k v (e ∷ es) =
      same_choice (key_cmp k e.0) ((k, v) ∷ e ∷ es) ((e.0, v) ∷ es) (e ∷ insert_entry key_cmp es k v)
      ∙ ap (λ t. by_order (key_cmp k e.0) ((k, v) ∷ e ∷ es) ((e.0, v) ∷ es) (e ∷ t)) (insert_entry-is_put k v es)

  -- from one element further up
  pub drop-up : (xs : List X) (i : ℕ) (d : X) → 0 < i → i ≤ length xs → drop (i - 1) xs ≡ get_or xs (i - 1) d ∷ drop i xs
  drop-up xs i d some low =
      let next : (i - 1) + 1 ≡ i = omega arith in
      drop-cons xs (i - 1) d (omega arith) ∙ ap (λ k. get_or xs (i - 1) d ∷ drop k xs) (sym (add-one (i - 1)) ∙ next)

-- the leaf of one more name is removed
pub put-removal : (m : Map) (name : NodeName) (names : List NodeName) (key : List ℕ) (b : Batch) → removals_of (sole (under 0 name.path (entries m))) ≡ removal_of (Some key)
    → put_each (removals_of (leaves_at m (name ∷ names))) b ≡ put key_cmp key None (put_each (removals_of (leaves_at m names)) b)
put-removal m name names key b is = ap (λ (es : Batch). put_each es b) (joined (sole (under 0 name.path (entries m))) (leaves_at m names) ∙ ap (λ (es : Batch). es ++ removals_of (leaves_at m names)) is)
  where
    joined : (ps qs : Part) → removals_of (ps ++ qs) ≡ removals_of ps ++ removals_of qs
    joined [] qs = refl
    joined (p ∷ ps) qs = ap (λ (es : Batch). (p.0, None) ∷ es) (joined ps qs)

-- the leaf at a place of a list is put over those after it
pub put-leaf-at : (leaves : Part) (i : ℕ) (x : List ℕ × List ℕ) (b old new : Batch) → 0 < i → i ≤ length leaves → x ≡ get_or leaves (i - 1) x
    → old ≡ put_each (puts_of (drop i leaves)) b → new ≡ insert_entry key_cmp old x.0 (Some x.1) → new ≡ put_each (puts_of (drop (i - 1) leaves)) b
put-leaf-at leaves i x b old new some low at was now =
    now ∙ insert_entry-is_put x.0 (Some x.1) old ∙ ap (put key_cmp x.0 (Some x.1)) was
    ∙ ap (λ es. put_each (puts_of es) b) (ap (λ (y : List ℕ × List ℕ). y ∷ drop i leaves) at ∙ sym (drop-up leaves i x some low))

-- the leaf of the name at a place of a list is removed, before those after it
pub put-removal-at : (m : Map) (names : List NodeName) (i : ℕ) (x : NodeName) (key : List ℕ) (b old new : Batch) → 0 < i → i ≤ length names → x ≡ get_or names (i - 1) x → removals_of (sole (under 0 x.path (entries m))) ≡ removal_of (Some key)
    → old ≡ put_each (removals_of (leaves_at m (drop i names))) b → new ≡ insert_entry key_cmp old key None → new ≡ put_each (removals_of (leaves_at m (drop (i - 1) names))) b
put-removal-at m names i x key b old new some low at is was now =
    now ∙ insert_entry-is_put key None old ∙ ap (put key_cmp key None) was ∙ sym (put-removal m x (drop i names) key b is)
    ∙ ap (λ xs. put_each (removals_of (leaves_at m xs)) b) (ap (λ (y : NodeName). y ∷ drop i names) at ∙ sym (drop-up names i x some low))

-- ---- a list from its last element to its first
module _ {X : Type 0} where
  -- the place of the element that comes after n others
  pub place-reversed : (xs : List X) (n : ℕ) (x : X) → n < length (reverse xs) → x ≡ get_or (reverse xs) n x → (0 < length xs - n) × (length xs - n ≤ length xs) × (x ≡ get_or xs ((length xs - n) - 1) x)
  place-reversed xs n x some is =
      let low : n < length xs = omega (arith, some, length-reverse xs) in
      let same : (length xs - 1) - n ≡ (length xs - n) - 1 = omega arith in
      (omega arith, omega arith, is ∙ get_or-reverse xs n x low ∙ ap (λ k. get_or xs k x) same)

-- the next element stands one place lower
pub next-reversed : {Y : Type 0} (n : ℕ) (ys : List Y) (y : Y) → (n - length ys) - 1 ≡ n - length (ys ++ y ∷ [])
next-reversed n ys y = omega (arith, length_push ys y)
