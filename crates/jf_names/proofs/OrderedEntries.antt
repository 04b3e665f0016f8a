-- Std's ordered map is a sorted list of entries, whatever its keys, values and order: what is found at a key, and the entries with
-- a key set.
use Rattle.std.proofs.Common.{◌≡◌, ◌∙◌, List, [], ◌∷◌, Some, T, refl, ap, sym, subst, Less, Equal, Greater, Ordering, cond, is_eq}
use Rattle.std.specs.BTreeMap.{insert_entry, is_at}
use Rattle.std.specs.Cmp.{IsTotalOrder}
use Rattle.std.specs.FinMap.{put, find, is_sorted}
use Rattle.std.specs.FinMap.Entries.{by_order, is_sorted-put}
use Rattle.std.specs.Map.{lookup}
use Rattle.std.specs.Ordering.{match_ordering}

module _ {Key Value : Type 0} (compare : Key → Key → Ordering) where
  -- what is found at a key
  pub lookup-find : (k : Key) (es : List (Key × Value)) → lookup (is_at (compare k)) es ≡ find compare k es
  lookup-find k [] = refl
  lookup-find k (e ∷ es) = ap (λ t. cond (is_eq (compare k e.0)) (Some e.1) t) (lookup-find k es)

  same_choice : (o : Ordering) (x y z : List (Key × Value)) → match_ordering o x y z ≡ by_order o x y z
  same_choice Less x y z = refl
  same_choice Equal x y z = refl
  same_choice Greater x y z = refl

  -- the entries with a key set
  pub insert_entry-put : (k : Key) (v : Value) (es : List (Key × Value)) → insert_entry compare es k v ≡ put compare k v es
  insert_entry-put k v [] = refl
  insert_entry-put k v (e ∷ es) =
      same_choice (compare k e.0) ((k, v) ∷ e ∷ es) ((e.0, v) ∷ es) (e ∷ insert_entry compare es k v)
      ∙ ap (λ t. by_order (compare k e.0) ((k, v) ∷ e ∷ es) ((e.0, v) ∷ es) (e ∷ t)) (insert_entry-put k v es)

  -- they are sorted if the others were
  pub is_sorted-insert_entry : IsTotalOrder compare → (k : Key) (v : Value) (es : List (Key × Value)) → T (is_sorted compare es) → T (is_sorted compare (insert_entry compare es k v))
  is_sorted-insert_entry total k v es sorted = subst (λ fs. T (is_sorted compare fs)) (sym (insert_entry-put k v es)) (is_sorted-put compare total k v es sorted)
