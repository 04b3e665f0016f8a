-- The forks that land together are no more than are live, and have at most 10,000 keys.
use Rattle.std.specs.Prelude.{nat_le, nat_lt}
use Rattle.std.proofs.Common.{◌≡◌, ◌≤◌, ℕ, true, true≢false, List, [], ◌∷◌, length, sym, arith, ◌+◌, ◌++◌, length-append, false, cond, ◌==◌, Option, None, Some, refl, ap, ◌∙◌, subst}
use Rattle.std.proofs.lemmas.Bool.Decides.{nat_tests}
use Rattle.std.proofs.lemmas.List.{length-map}
use Rattle.jf_hash.specs.Maps.{Batch}
use Rattle.jf_model.specs.Forks.{Fork, is_among, of_parent, chain, batches}
use Rattle.jf_model.specs.declared.entries.Parent.{Parent}
use Rattle.jf_model.specs.Batches.{key_count}
use Rattle.jf_model.specs.declared.entries.Parent.TheVariants as parent
use Rattle.jf_model.proofs.ForkLists.{on_own}
use Rattle.jf_forks.specs.Tables.{first_fault, Table, forks_of, fault_of_fork, ForkWithMap, IsTable, keys_of, chain_fault}
use Rattle.jf_forks.specs.declared.fault.ForkFault.{ForkFault}
use Rattle.jf_forks.specs.declared.fault.ForkFault.TheVariants as fault

some_are : (id : ℕ) (fs : List Fork) → is_among id fs ≡ true → 1 ≤ length fs
some_are id [] h = absurd (true≢false (sym h))
some_are id (f ∷ fs) h = omega arith

one_more : (f : Fork) (fs : List Fork) → ((y : ℕ) → length (chain fs y) ≤ length fs) → (p : Parent) → length (of_parent [] (chain fs) p ++ f ∷ []) ≤ length fs + 1
one_more f fs older parent.Head = omega arith
one_more f fs older (parent.Fork q) = omega (arith, length-append (chain fs q) (f ∷ []), older q)

-- a chain is no longer than the list
chain-short : (fs : List Fork) (y : ℕ) → length (chain fs y) ≤ length fs
chain-short [] y = omega arith
chain-short (f ∷ fs) y =
    elim (f.id == y) as (λ b. length (cond b (of_parent [] (chain fs) f.parent ++ f ∷ []) (chain fs y)) ≤ length (f ∷ fs)) [
      | true ↦ omega (arith, one_more f fs (chain-short fs) f.parent)
      | false ↦ omega (arith, chain-short fs y)
    ]

-- neither of two refusals comes
pub first_none : (o p : Option ForkFault) → first_fault o p ≡ None → (o ≡ None) × (p ≡ None)
first_none None p h = (refl, h)
first_none (Some f) p h = absurd (cc)

-- a fork that is not missing is live
pub is_live : (id : ℕ) (t : Table) → fault_of_fork id t ≡ None → is_among id (forks_of t.live) ≡ true
is_live id t =
    elim (nat_le t.made id) as (λ b. cond b (Some fault.Unknown) (cond (is_among id (forks_of t.live)) None (Some fault.Gone)) ≡ None → is_among id (forks_of t.live) ≡ true) [
      | true ↦ λ h. absurd (cc)
      | false ↦ elim (is_among id (forks_of t.live)) as (λ b. cond b None (Some fault.Gone) ≡ None → b ≡ true) [ true ↦ λ h. refl | false ↦ λ h. absurd (cc) ]
    ]

few_keys : (n : ℕ) → cond (nat_lt 10000 n) (Some (fault.TooMany n)) None ≡ None → n ≤ 10000
few_keys n =
    elim (nat_lt 10000 n) as (λ b. nat_lt 10000 n ≡ b → cond b (Some (fault.TooMany n)) None ≡ None → n ≤ 10000) [
      | true ↦ λ is h. absurd (cc)
      | false ↦ λ is h. grind (arith, nat_tests)
    ] refl

pub chain_bounds : (id : ℕ) (t : Table) (list : List Batch) → IsTable t → chain_fault id t ≡ None → list ≡ batches (chain (forks_of t.live) id) → (1 ≤ length list) × (length list ≤ 1024) × (key_count list ≤ 10000)
chain_bounds id t list sound may is =
    let none = first_none (fault_of_fork id t) _ may in
    let fs = forks_of t.live in
    let long : length list ≡ length (chain fs id) = ap length is ∙ length-map (chain fs id) (λ (f : Fork). f.batch) in
    let own = some_are id (chain fs id) (on_own id fs (is_live id t none.0)) in (
      omega (arith, long, own),
      omega (arith, long, chain-short fs id, length-map t.live (λ (g : ForkWithMap). g.fork), sound.few),
      subst (λ bs. key_count bs ≤ 10000) (sym is) (few_keys (keys_of id t) none.1),
    )
