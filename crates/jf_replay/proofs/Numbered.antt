-- The numbers of nodes as tests and as facts.
use Rattle.std.proofs.Common.{◌≡◌, ℕ, zero, suc, length, get_or, arith, ◌<◌, ◌≤◌, Bool, true, false, ◌&&◌, ◌||◌, ◌==◌, nat_le, List, [], ◌∷◌, refl, ◌⊎◌, inl, inr, ap₂, sym, true≢false, ap, ◌∙◌}
use Rattle.std.specs.List.{AllByRecursion, list_all}
use Rattle.jf_path.proofs.BoolLaws.{left_true, right_true}
use Rattle.jf_path.proofs.NumberLaws.{le_so, le_tells, lt_so, lt_tells, number_tells, same_number}
use Rattle.jf_standing.specs.Named.{NamedNode, not_stale}
use Rattle.jf_replay.specs.Cuts.{has_numbers}

-- a node goes stale after the version that wrote it and after the floor, and both versions are at most the head
pub record IsNumbered (floor head : ℕ) (n : NamedNode) : Type 0 where
  pub written : n.0.version ≤ head
  pub later : n.0.version < n.2
  pub kept : floor < n.2
  pub gone : (n.2 ≡ not_stale) ⊎ (n.2 ≤ head)

either : (a b : Bool) → (a || b) ≡ true → (a ≡ true) ⊎ (b ≡ true)
either true b is = inl refl
either false b is = inr is

or-so : (a b : Bool) → (a ≡ true) ⊎ (b ≡ true) → (a || b) ≡ true
or-so true b is = refl
or-so false b is = elim is [ inl no' ↦ absurd (true≢false (sym no')) | inr yes' ↦ yes' ]

numbers-tell : (floor head : ℕ) (n : NamedNode) → has_numbers floor head n ≡ true → IsNumbered floor head n
numbers-tell floor head n is =
    let rest = right_true (nat_le n.0.version head) _ is in
    let last = right_true _ _ rest in
    record {
      written = le_tells n.0.version head (left_true _ _ is);
      later = lt_tells n.0.version n.2 (left_true _ _ rest);
      kept = lt_tells floor n.2 (left_true _ _ last);
      gone = elim (either (n.2 == not_stale) (nat_le n.2 head) (right_true _ _ last)) [ inl same ↦ inl (number_tells n.2 not_stale same) | inr low ↦ inr (le_tells n.2 head low) ];
    }

numbers-so : (floor head : ℕ) (n : NamedNode) → IsNumbered floor head n → has_numbers floor head n ≡ true
numbers-so floor head n is =
    ap₂ (λ a b. a && b) (le_so n.0.version head is.written)
    (ap₂ (λ a b. a && b) (lt_so n.0.version n.2 is.later) (ap₂ (λ a b. a && b) (lt_so floor n.2 is.kept)
    (or-so (n.2 == not_stale) (nat_le n.2 head) (elim is.gone [ inl same ↦ inl (same_number n.2 not_stale same) | inr low ↦ inr (le_so n.2 head low) ]))))

pub all-numbered : (floor head : ℕ) (ns : List NamedNode) → list_all (has_numbers floor head) ns ≡ true → AllByRecursion (IsNumbered floor head) ns
all-numbered floor head [] is = tt
all-numbered floor head (n ∷ ns) is = (numbers-tell floor head n (left_true _ _ is), all-numbered floor head ns (right_true (has_numbers floor head n) _ is))

pub numbered-all : (floor head : ℕ) (ns : List NamedNode) → AllByRecursion (IsNumbered floor head) ns → list_all (has_numbers floor head) ns ≡ true
numbered-all floor head [] h = refl
numbered-all floor head (n ∷ ns) h = ap₂ (λ a b. a && b) (numbers-so floor head n h.0) (numbered-all floor head ns h.1)

-- if one element fails a test, not all pass
pub one-fails : {X : Type 0} (test : X → Bool) (xs : List X) (i : ℕ) (d : X) → i < length xs → test (get_or xs i d) ≡ false → list_all test xs ≡ false
one-fails test [] i d lt is = absurd (omega arith)
one-fails test (x ∷ xs) zero d lt is = ap (λ b. b && list_all test xs) is
one-fails test (x ∷ xs) (suc i) d lt is = ap (λ b. test x && b) (one-fails test xs i d (omega arith) is) ∙ none (test x)
  where
    none : (b : Bool) → (b && false) ≡ false
    none true = refl
    none false = refl
