-- The steps of an extension: what each requires, and what they give together.
use Rattle.std.proofs.Common.{◌≡◌, ℕ, take, ◌-◌, length, drop, sym, ◌∙◌, ◌+◌, subst, ap, ap₂, false, true, ◌++◌, arith, length-drop, length-take-le, ◌<◌, ◌≤◌, Result, Ok, Err, IfOk, [], ◌∷◌, not, cond, List, Option, None, Some, is_eq, refl, get_or}
use Rattle.std.specs.Cmp.{tied_itself}
use Rattle.std.specs.Cmp.Lexicographic.{nat_list_cmp_total}
use Rattle.std.specs.FinMap.Entries.{by_order}
use Rattle.jf_path.specs.Keys.{key_cmp}
use Rattle.jf_path.proofs.ListLaws.{take-rest}
use Rattle.jf_hash.specs.Maps.{Batch}
use Rattle.jf_hash.specs.Parts.{IsFirstOne, HaveBit}
use Rattle.jf_hash.specs.Roots.{zeros, ones}
use Rattle.jf_hash.specs.Slots.{Part}
use Rattle.jf_hash.proofs.Bits.{two_keys}
use Rattle.jf_model.specs.Changes.{entries_after_batch, entries_after_change}
use Rattle.jf_model.proofs.ChangeLaws.{applied-none, applied-word}
use Rattle.jf_node.specs.RangeValue.{RangeValue}
use Rattle.jf_spec.specs.Parts.{AreUnderOnePath}
use Rattle.jf_spec.specs.Costs.{most_steps}
use Rattle.jf_spec.specs.Held.{IsOnly, HasOther}
use Rattle.jf_spec.proofs.PartHalves.{batch_halves, AreUnderOnePath-zeros, AreUnderOnePath-ones, HaveBit-applied_zeros, HaveBit-applied_ones, applied-halves, deeper_under}
use Rattle.jf_spec.proofs.Steps.{first_steps, both_steps}

module _ (d p : ℕ) (es : Part) (bs : Batch) (parts : AreUnderOnePath d es bs) (first : IsFirstOne d p bs) where
  zero_batch : zeros d bs ≡ take p bs
  zero_batch = (batch_halves d p es bs parts first).0

  one_batch : ones d bs ≡ take (length bs - p) (drop p bs)
  one_batch = (batch_halves d p es bs parts first).1 ∙ sym (take-rest p bs)

  -- each half of the batch and each half of the node are parts
  pub zero_parts : (z : RangeValue) → z ≡ record { depth = d + 1; entries = zeros d es } → AreUnderOnePath z.depth z.entries (take p bs)
  zero_parts z is = subst (λ w. AreUnderOnePath w.depth w.entries (take p bs)) (sym is) (subst (AreUnderOnePath (d + 1) (zeros d es)) zero_batch (AreUnderOnePath-zeros d es bs parts))

  pub one_parts : (o : RangeValue) → o ≡ record { depth = d + 1; entries = ones d es } → AreUnderOnePath o.depth o.entries (take (length bs - p) (drop p bs))
  one_parts o is = subst (λ w. AreUnderOnePath w.depth w.entries (take (length bs - p) (drop p bs))) (sym is) (subst (AreUnderOnePath (d + 1) (ones d es)) one_batch (AreUnderOnePath-ones d es bs parts))

  zero_new : (z y : RangeValue) → z ≡ record { depth = d + 1; entries = zeros d es } → y ≡ record { depth = z.depth; entries = entries_after_batch z.entries (take p bs) } → y.entries ≡ entries_after_batch (zeros d es) (zeros d bs)
  zero_new z y is made = ap (λ w. w.entries) made ∙ ap₂ entries_after_batch (ap (λ w. w.entries) is) (sym zero_batch)

  one_new : (o y : RangeValue) → o ≡ record { depth = d + 1; entries = ones d es } → y ≡ record { depth = o.depth; entries = entries_after_batch o.entries (take (length bs - p) (drop p bs)) } → y.entries ≡ entries_after_batch (ones d es) (ones d bs)
  one_new o y is made = ap (λ w. w.entries) made ∙ ap₂ entries_after_batch (ap (λ w. w.entries) is) (sym one_batch)

  -- each new half has its bit
  pub zero_bits : (z y : RangeValue) → z ≡ record { depth = d + 1; entries = zeros d es } → y ≡ record { depth = z.depth; entries = entries_after_batch z.entries (take p bs) } → HaveBit d false y.entries
  zero_bits z y is made = subst (HaveBit d false) (sym (zero_new z y is made)) (HaveBit-applied_zeros d es bs parts)

  pub one_bits : (o y : RangeValue) → o ≡ record { depth = d + 1; entries = ones d es } → y ≡ record { depth = o.depth; entries = entries_after_batch o.entries (take (length bs - p) (drop p bs)) } → HaveBit d true y.entries
  one_bits o y is made = subst (HaveBit d true) (sym (one_new o y is made)) (HaveBit-applied_ones d es bs parts)

  -- both new halves together are the node after the batch
  pub both_new : (z y o x : RangeValue) → z ≡ record { depth = d + 1; entries = zeros d es } → y ≡ record { depth = z.depth; entries = entries_after_batch z.entries (take p bs) } → o ≡ record { depth = d + 1; entries = ones d es } → x ≡ record { depth = o.depth; entries = entries_after_batch o.entries (take (length bs - p) (drop p bs)) }
      → y.entries ++ x.entries ≡ entries_after_batch es bs
  both_new z y o x zis ymade ois xmade = ap₂ (λ a b. a ++ b) (zero_new z y zis ymade) (one_new o x ois xmade) ∙ applied-halves d es bs parts

  both_long : length bs ≡ length (take p bs) + length (take (length bs - p) (drop p bs))
  both_long = let w = first.within in omega (arith, length-take-le p bs w, ap length (take-rest p bs), length-drop p bs)

  -- the number of steps after the first half, and after both
  pub steps_first : (z : RangeValue) (start taken after : ℕ) → d < 256 → 1 ≤ length bs → z ≡ record { depth = d + 1; entries = zeros d es } → taken ≡ start + 1 → after ≤ taken + most_steps z.depth (length (take p bs)) → after ≤ start + most_steps d (length bs)
  steps_first z start taken after deep some is apart h =
      first_steps d (length bs) (length (take p bs)) _ start taken after deep some both_long apart (subst (λ k. after ≤ taken + most_steps k (length (take p bs))) (ap (λ w. w.depth) is) h)

  pub steps_both : (z o : RangeValue) (start taken after last : ℕ) → d < 256 → 1 ≤ length bs → z ≡ record { depth = d + 1; entries = zeros d es } → o ≡ record { depth = d + 1; entries = ones d es } → taken ≡ start + 1
      → after ≤ taken + most_steps z.depth (length (take p bs)) → last ≤ after + most_steps o.depth (length (take (length bs - p) (drop p bs))) → last + 1 ≤ start + most_steps d (length bs)
  steps_both z o start taken after last deep some zis ois apart h k =
      both_steps d (length bs) (length (take p bs)) (length (take (length bs - p) (drop p bs))) start taken after last deep some both_long apart
      (subst (λ j. after ≤ taken + most_steps j (length (take p bs))) (ap (λ w. w.depth) zis) h)
      (subst (λ j. last ≤ after + most_steps j (length (take (length bs - p) (drop p bs)))) (ap (λ w. w.depth) ois) k)

-- ---- a batch of at most one key
-- a result's entries may be given in another form
pub ok_is : {E : Type 0} (r : Result RangeValue E) (v w : RangeValue) → v ≡ w → IfOk r (λ x. x ≡ v) → IfOk r (λ x. x ≡ w)
ok_is (Ok x) v w is h = h ∙ is
ok_is (Err e) v w is h = tt

pub none_applied : (es : Part) (bs : Batch) → length bs < 1 → es ≡ entries_after_batch es bs
none_applied es [] short = sym (applied-none es)
none_applied es (b ∷ bs) short = absurd (omega arith)

-- changing the key of a single entry gives what changing no entry gives
changed_own : (k q w : List ℕ) (v : Option (List ℕ)) → q ≡ k → entries_after_change k v [] ≡ entries_after_change k v ((q, w) ∷ [])
changed_own k q w (Some v) is =
    sym (ap (λ r. by_order r ((k, v) ∷ (q, w) ∷ []) ((q, v) ∷ []) ((q, w) ∷ (k, v) ∷ [])) (ap (key_cmp k) is ∙ tied_itself nat_list_cmp_total k) ∙ ap (λ z. (z, v) ∷ []) is)
changed_own k q w None is = sym (ap (λ r. cond (not (is_eq r)) ((q, w) ∷ []) []) (ap (key_cmp k) is ∙ tied_itself nat_list_cmp_total k))

changed_only : (k : List ℕ) (v : Option (List ℕ)) (es : Part) → IsOnly k es → entries_after_change k v [] ≡ entries_after_change k v es
changed_only k v [] only = refl
changed_only k v (e ∷ es) only = changed_own k e.0 e.1 v only.0 ∙ ap (λ t. entries_after_change k v (e ∷ t)) (sym only.1)

pub only_applied : (b : List ℕ × Option (List ℕ)) (es : Part) (bs : Batch) → IsOnly b.0 es → 1 ≤ length bs → length bs < 2 → b ≡ get_or bs 0 b → entries_after_batch [] (b ∷ []) ≡ entries_after_batch es bs
only_applied b es [] only some short is = absurd (omega arith)
only_applied b es (c ∷ []) only some short is = applied-word [] b.0 b.1 ∙ changed_only b.0 b.1 es only ∙ sym (applied-word es b.0 b.1) ∙ ap (λ x. entries_after_batch es (x ∷ [])) is
only_applied b es (c ∷ e ∷ bs) only some short is = absurd (omega arith)

-- if the node has an entry of another key, there is a bit below its depth
pub other_deep : (d : ℕ) (b : List ℕ × Option (List ℕ)) (es : Part) (bs : Batch) → HasOther b.0 es → AreUnderOnePath d es bs → 1 ≤ length bs → b ≡ get_or bs 0 b → d < 256
other_deep d b [] bs other parts some is = absurd other
other_deep d b (e ∷ es) [] other parts some is = absurd (omega arith)
other_deep d b (e ∷ []) (c ∷ bs) other parts some is =
    two_keys d parts.path e.0 c.0 parts.entries.keys.0 parts.batch.keys.0 parts.entries.agree.0 parts.batch.agree.0 (λ same. other (same ∙ sym (ap (λ x. x.0) is)))
other_deep d b (e ∷ f ∷ es) (c ∷ bs) other parts some is = deeper_under d parts.path (e ∷ f ∷ es) parts.entries (omega arith)

pub several_deep : (d : ℕ) (es : Part) (bs : Batch) → AreUnderOnePath d es bs → 2 ≤ length bs → d < 256
several_deep d es bs parts two = deeper_under d parts.path bs parts.batch two

-- a removal leaves a node without entries unchanged
pub removed : (b : List ℕ × Option (List ℕ)) → b.1 ≡ None → [] ≡ entries_after_batch [] (b ∷ [])
removed b is = sym (applied-word [] b.0 b.1 ∙ ap (λ v. entries_after_change b.0 v []) is)

pub put_one : (b : List ℕ × Option (List ℕ)) (v : List ℕ) → b.1 ≡ Some v → (b.0, v) ∷ [] ≡ entries_after_batch [] (b ∷ [])
put_one b v is = sym (applied-word [] b.0 b.1 ∙ ap (λ w. entries_after_change b.0 w []) is)
