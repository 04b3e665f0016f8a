-- What a map has at a key, after one was removed and after a batch was applied.
use Rattle.std.specs.Prelude.{◌≡◌, ℕ, List, Bool, cond, not, None, Option, Some, [], ◌∷◌, T, true, false}
use Rattle.std.proofs.Common.{sym, ap, ◌∙◌, refl, is_eq, subst}
use Rattle.std.specs.Cmp.{eq_by_cmp_equiv}
use Rattle.std.specs.Cmp.Lexicographic.{nat_list_cmp_total}
use Rattle.std.specs.FinMap.{entries, find, is_sorted}
use Rattle.std.specs.FinMap as map
use Rattle.std.specs.FinMap.Entries.{where_key, is_sorted-where_key, find-where_key, same_entries, below_all}
use Rattle.jf_path.specs.Keys.{key_cmp}
use Rattle.jf_path.proofs.BoolLaws.{cond-not}
use Rattle.jf_path.proofs.OrderLaws.{Equal-from_is_eq}
use Rattle.jf_hash.specs.Maps.{Map, same_key, change, Batch, apply}
use Rattle.jf_hash.proofs.KeyOrder.{same_key-exact, below-first, below-later, below-rest, sorted-rest}

-- maps with the same value at each key are equal
pub same_map : (m n : Map) → ((q : List ℕ) → map.get m q ≡ map.get n q) → m ≡ n
same_map m n h = map.same_map nat_list_cmp_total same_key-exact m n h

-- maps with the same entries are the same
pub map-from_entries : (m m' : Map) → entries m ≡ entries m' → m ≡ m'
map-from_entries m m' same = same_map m m' (λ q. map.get-entries m q ∙ ap (map.find key_cmp q) same ∙ sym (map.get-entries m' q))

-- the entries of a map from which a key was removed
pub entries-remove : (m : Map) (k : List ℕ) → entries (map.remove m k) ≡ where_key key_cmp (λ x. not (same_key k x)) (entries m)
entries-remove m k =
    let p : List ℕ → Bool = λ x. not (same_key k x) in
    same_entries key_cmp nat_list_cmp_total same_key-exact _ _ (map.entries_sorted (map.remove m k)) (is_sorted-where_key key_cmp p (entries m) (map.entries_sorted m)) (λ q.
    sym (map.get-entries (map.remove m k) q) ∙ map.get-remove nat_list_cmp_total m k q ∙ ap (λ o. cond (same_key q k) None o) (map.get-entries m q)
    ∙ ap (λ b. cond b None (find key_cmp q (entries m))) (sym ((eq_by_cmp_equiv nat_list_cmp_total).symm k q)) ∙ sym (cond-not (same_key k q) (find key_cmp q (entries m)) None)
    ∙ sym (find-where_key key_cmp p q (λ x e. ap p (sym (same_key-exact q x e))) (entries m)))

get-change : (m : Map) (k : List ℕ) (v : Option (List ℕ)) (q : List ℕ) → map.get (change k v m) q ≡ cond (same_key q k) v (map.get m q)
get-change m k (Some v) q = map.get-insert nat_list_cmp_total m k v q
get-change m k None q = map.get-remove nat_list_cmp_total m k q

-- what a key has after changes are made in order: what the last change of it says, or what it had `before` if no change is of it
abbrev pub last_word_on : List ℕ → Batch → Option (List ℕ) → Option (List ℕ)
last_word_on q [] before = before
last_word_on q (e ∷ es) before = last_word_on q es (cond (same_key q e.0) e.1 before)

pub get-apply : (m : Map) (b : Batch) (q : List ℕ) → map.get (apply m b) q ≡ last_word_on q b (map.get m q)
unfolding apply
get-apply m [] q = refl
get-apply m (e ∷ es) q = get-apply (change e.0 e.1 m) es q ∙ ap (last_word_on q es) (get-change m e.0 e.1 q)

unsaid : (q : List ℕ) (b : Batch) (before : Option (List ℕ)) → T (below_all key_cmp q b) → last_word_on q b before ≡ before
unsaid q [] before below = refl
unsaid q (e ∷ es) before below =
    ap (λ o. last_word_on q es (cond (is_eq o) e.1 before)) (below-first q e es below) ∙ unsaid q es before (below-later q e es below)

-- what a key has after a batch: what the batch says of it, or what it had before
abbrev pub value_after : Option (Option (List ℕ)) → Option (List ℕ) → Option (List ℕ)
value_after None before = before
value_after (Some v) before = v

-- a batch whose keys rise strictly has at most one change of a key
pub last_word_on-find : (q : List ℕ) (b : Batch) (before : Option (List ℕ)) → T (is_sorted key_cmp b) → last_word_on q b before ≡ value_after (find key_cmp q b) before
last_word_on-find q [] before sorted = refl
last_word_on-find q (e ∷ es) before sorted =
    elim (same_key q e.0) as (λ t. same_key q e.0 ≡ t → last_word_on q es (cond t e.1 before) ≡ value_after (cond t (Some e.1) (find key_cmp q es)) before) [
      | true ↦ λ is. unsaid q es e.1 (subst (λ k. T (below_all key_cmp k es)) (sym (same_key-exact q e.0 (Equal-from_is_eq _ is))) (below-rest e es sorted))
      | false ↦ λ is. last_word_on-find q es before (sorted-rest e es sorted)
    ] refl

-- after a batch, its keys have the values that it gives or are absent, and every other key has what it had
pub get-apply-sorted : (m : Map) (b : Batch) (q : List ℕ) → T (is_sorted key_cmp b) → map.get (apply m b) q ≡ value_after (find key_cmp q b) (map.get m q)
get-apply-sorted m b q sorted = get-apply m b q ∙ last_word_on-find q b (map.get m q) sorted
