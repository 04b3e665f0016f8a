-- The elements of a list that is made from others.
use Rattle.std.proofs.Common.{ℕ, zero, suc, ◌+◌, ◌<◌, ◌≤◌, inl, inr, List, Contains, sym, subst, arith}
use Rattle.std.proofs.lemmas.Bool.{cases_eq}
use Rattle.std.proofs.lemmas.List.Elements.{Contains-append_left, Contains-append_right}
use Rattle.std.specs.List.{AllByRecursion}
use Rattle.jf_path.proofs.ListLaws.{All-append}
use Rattle.jf_model.specs.Walk.{each_from}

module _ {X : Type 0} where
  -- an element of one of the lists that a function gives is an element of all of them joined
  pub Contains-each : (count n : ℕ) (k : ℕ → List X) (m : ℕ) (x : X) → n ≤ m → m < n + count → Contains (k m) x → Contains (each_from count n k) x
  Contains-each zero n k m x low high has = absurd (omega arith)
  Contains-each (suc count) n k m x low high has = elim (cases_eq n m) [
    | inl here ↦ Contains-append_left (k n) (each_from count (n + 1) k) x (subst (λ i. Contains (k i) x) (sym here) has)
    | inr past ↦ Contains-append_right (k n) (each_from count (n + 1) k) x (Contains-each count (n + 1) k m x (omega arith) (omega arith) has)
  ]

  -- what holds of the elements of each of those lists holds of all of them joined
  pub All-each : (P : X → Type 0) (count n : ℕ) (k : ℕ → List X) → ((m : ℕ) → AllByRecursion P (k m)) → AllByRecursion P (each_from count n k)
  All-each P zero n k h = tt
  All-each P (suc count) n k h = All-append P (k n) (each_from count (n + 1) k) (h n) (All-each P count (n + 1) k h)
