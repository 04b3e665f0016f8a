-- The puts of a batch, change by change, as a loop appends them.
use Rattle.std.specs.Prelude.{Bool, cond}
use Rattle.std.proofs.Common.{◌≡◌, ℕ, ◌+◌, List, ◌++◌, refl, Option, None, Some, [], ◌∷◌, sym, ap, ◌∙◌, ◌<◌, length, get_or, take, append_assoc, add-one, append-nil, true, false}
use Rattle.std.proofs.Math.Seq.{take-suc}
use Rattle.jf_hash.specs.Slots.{Part}
use Rattle.jf_hash.specs.Maps.{Batch}
use Rattle.jf_model.specs.Changes.{with_put}
use Rattle.jf_model.specs.Puts.{puts, Change}

-- a put before two lists joined is the put before the first, joined with the second
pub with_put-append : (k : List ℕ) (v : Option (List ℕ)) (es fs : Part) → with_put k v es ++ fs ≡ with_put k v (es ++ fs)
with_put-append k None es fs = refl
with_put-append k (Some v) es fs = refl

-- the puts of two batches joined are the puts of the first and then those of the second
pub puts-append : (xs ys : Batch) → puts (xs ++ ys) ≡ puts xs ++ puts ys
puts-append [] ys = refl
puts-append (x ∷ xs) ys = ap (with_put x.0 x.1) (puts-append xs ys) ∙ sym (with_put-append x.0 x.1 (puts xs) (puts ys))

-- a loop goes on by the put of one more change
pub push_step : (entries more start : Part) (bs : Batch) (i : ℕ) (item : Change) → entries ≡ start ++ puts (take i bs) → i < length bs → item ≡ get_or bs i item → more ≡ entries ++ with_put item.0 item.1 [] → more ≡ start ++ puts (take (i + 1) bs)
push_step entries more start bs i item is short at now =
    let front : take (i + 1) bs ≡ take i bs ++ item ∷ [] = ap (λ k. take k bs) (add-one i) ∙ take-suc bs i item short ∙ ap (λ z. take i bs ++ z ∷ []) (sym at) in
    now ∙ ap (λ t. t ++ with_put item.0 item.1 []) is ∙ append_assoc start (puts (take i bs)) (with_put item.0 item.1 [])
    ∙ ap (λ t. start ++ t) (sym (puts-append (take i bs) (item ∷ [])) ∙ ap puts (sym front))

-- the put of a change with a value is the entry
pub push_some : (entries more : Part) (k : List ℕ) (o : Option (List ℕ)) (v : List ℕ) → o ≡ Some v → more ≡ entries ++ (k, v) ∷ [] → more ≡ entries ++ with_put k o []
push_some entries more k o v is at = at ∙ ap (λ o. entries ++ with_put k o []) (sym is)

-- the put of a removal is nothing
pub push_none : (entries : Part) (k : List ℕ) (o : Option (List ℕ)) → o ≡ None → entries ≡ entries ++ with_put k o []
push_none entries k o is = sym (append-nil entries) ∙ ap (λ o. entries ++ with_put k o []) (sym is)

-- an entry that stays unless the batch changes its key
abbrev pub kept_entry : Bool → List ℕ → List ℕ → Part
kept_entry named key value = cond named [] ((key, value) ∷ [])

-- an entry whose key the batch changes is not kept
pub no_own : (q w : List ℕ) (named : Bool) (es : Part) → named ≡ true → es ≡ es ++ kept_entry named q w
no_own q w named es is = sym (append-nil es) ∙ ap (λ n. es ++ kept_entry n q w) (sym is)

-- an entry whose key the batch doesn't change is kept
pub some_own : (q w : List ℕ) (named : Bool) (es more : Part) → named ≡ false → more ≡ es ++ (q, w) ∷ [] → more ≡ es ++ kept_entry named q w
some_own q w named es more is at = at ∙ ap (λ n. es ++ kept_entry n q w) (sym is)
