-- Names in the order of their keys: each stands after its own key, and the keys rise.
use Rattle.std.proofs.Common.{◌≡◌, ◌∙◌, ℕ, List, [], ◌∷◌, fold, is_some, Bool, true, false, ◌&&◌, cond, T, refl, ap, ap₂, sym, subst, Less, Equal, Greater}
use Rattle.std.specs.BTreeMap.{insert_entry, is_at}
use Rattle.std.specs.FinMap.{put, find, is_sorted}
use Rattle.std.specs.FinMap.Entries.{by_order, below_all}
use Rattle.std.specs.List.{AllByRecursion}
use Rattle.std.specs.Map.{lookup}
use Rattle.std.specs.Ordering.{is_lt}
use Rattle.jf_path.specs.Keys.{key_cmp}
use Rattle.jf_hash.specs.Hashes.{K}
use Rattle.jf_hash.proofs.KeyOrder.{same_key-exact}
use Rattle.jf_multi.specs.SharedTrees.{as_entries}
use Rattle.jf_names.specs.Names.{with_new_name, names_by_key, keys_in}
use Rattle.jf_names.proofs.OrderedEntries.{lookup-find, insert_entry-put}

abbrev pub KeyedNames : Type 0
KeyedNames = List (List ℕ × List ℕ)

-- ---- one name more
is_there : (key name : List ℕ) (es : KeyedNames) (b : Bool) → key ≡ K name → b ≡ is_some (lookup (is_at (key_cmp key)) es) → is_some (find key_cmp (K name) es) ≡ b
is_there key name es b same is = ap (λ k. is_some (find key_cmp k es)) (sym same) ∙ ap is_some (sym (lookup-find key_cmp key es)) ∙ sym is

-- a name whose key is there changes nothing
pub with_new_name-there : (key name : List ℕ) (es : KeyedNames) (b : Bool) → key ≡ K name → b ≡ is_some (lookup (is_at (key_cmp key)) es) → b ≡ true → es ≡ with_new_name es name
with_new_name-there key name es b same is there = sym (ap (λ t. cond t es (put key_cmp (K name) name es)) (is_there key name es b same is ∙ there))

-- and any other is put
pub with_new_name-absent : (key name : List ℕ) (es : KeyedNames) (b : Bool) → key ≡ K name → b ≡ is_some (lookup (is_at (key_cmp key)) es) → b ≡ false → insert_entry key_cmp es key name ≡ with_new_name es name
with_new_name-absent key name es b same is absent =
    insert_entry-put key_cmp key name es
    ∙ ap (λ k. put key_cmp k name es) same
    ∙ sym (ap (λ t. cond t es (put key_cmp (K name) name es)) (is_there key name es b same is ∙ absent))

-- ---- keys that rise
below_all-keys_in : (k : List ℕ) (es : KeyedNames) → below_all key_cmp k es ≡ below_all key_cmp k (as_entries (keys_in es))
below_all-keys_in k [] = refl
below_all-keys_in k (e ∷ es) = ap (λ b. is_lt (key_cmp k e.0) && b) (below_all-keys_in k es)

is_sorted-keys_in : (es : KeyedNames) → is_sorted key_cmp es ≡ is_sorted key_cmp (as_entries (keys_in es))
is_sorted-keys_in [] = refl
is_sorted-keys_in (e ∷ es) = ap₂ (λ a b. a && b) (below_all-keys_in e.0 es) (is_sorted-keys_in es)

-- the keys of sorted names rise
pub keys_in-rise : (keys : List (List ℕ)) (es : KeyedNames) → keys ≡ keys_in es → T (is_sorted key_cmp es) → T (is_sorted key_cmp (as_entries keys))
keys_in-rise keys es is sorted = subst (λ ks. T (is_sorted key_cmp (as_entries ks))) (sym is) (subst T (is_sorted-keys_in es) sorted)

-- ---- each name after its own key
abbrev pub AreKeyed : KeyedNames → Type 0
AreKeyed es = AllByRecursion (λ e. e.0 ≡ K e.1) es

put-keyed : (k v : List ℕ) (es : KeyedNames) → k ≡ K v → AreKeyed es → AreKeyed (put key_cmp k v es)
put-keyed k v [] here all = (here, tt)
put-keyed k v (e ∷ es) here all =
    elim (key_cmp k e.0) as (λ r. key_cmp k e.0 ≡ r → AreKeyed (by_order r ((k, v) ∷ e ∷ es) ((e.0, v) ∷ es) (e ∷ put key_cmp k v es))) [
      | Less ↦ λ is. (here, all)
      | Equal ↦ λ is. (sym (same_key-exact k e.0 is) ∙ here, all.1)
      | Greater ↦ λ is. (all.0, put-keyed k v es here all.1)
    ] refl

with_new_name-keyed : (es : KeyedNames) (name : List ℕ) → AreKeyed es → AreKeyed (with_new_name es name)
with_new_name-keyed es name all =
    elim (is_some (find key_cmp (K name) es)) as (λ b. AreKeyed (cond b es (put key_cmp (K name) name es))) [
      | true ↦ all
      | false ↦ put-keyed (K name) name es refl all
    ]

fold-keyed : (names : List (List ℕ)) (es : KeyedNames) → AreKeyed es → AreKeyed (fold with_new_name es names)
fold-keyed [] es all = all
fold-keyed (n ∷ names) es all = fold-keyed names (with_new_name es n) (with_new_name-keyed es n all)

pub names_by_key-keyed : (names : List (List ℕ)) → AreKeyed (names_by_key names)
unfolding names_by_key
names_by_key-keyed names = fold-keyed names [] tt
