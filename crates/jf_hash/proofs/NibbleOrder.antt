-- The order of keys is that of their nibbles.
use Rattle.std.proofs.Common.{◌≡◌, ℕ, ◌<◌, List, ◌*◌, ◌/◌, slice_index, ap, ◌∙◌, arith, ◌+◌, ◌%◌, inl, inr, sym, ◌≤◌, refl, Less, eq-or-lt_of_le, subst}
use Rattle.std.proofs.lemmas.Bool.{cases_eq, cases_lt}
use Rattle.jf_path.specs.Nibbles.{nibble}
use Rattle.jf_path.specs.Keys.{IsKey, key_cmp}
use Rattle.jf_path.proofs.NibbleLaws.{nibble-even, nibble-odd}
use Rattle.jf_hash.proofs.Bits.{first_differ}

-- the first nibble in which two keys differ
pub record FirstNibble (a b : List ℕ) (i : ℕ) : Type 0 where
  pub within : i < 64
  pub before : (j : ℕ) → j < i → nibble a j ≡ nibble b j
  pub less : nibble a i < nibble b i

even : (a : List ℕ) (p j : ℕ) → IsKey a → j ≡ 2 * p → nibble a j ≡ slice_index a p / 16
even a p j key e =
    let half : j / 2 ≡ p = omega arith in
    nibble-even a j (key.bytes (j / 2)) (omega arith) ∙ ap (λ q. slice_index a q / 16) half

odd : (a : List ℕ) (p j : ℕ) → j ≡ 2 * p + 1 → nibble a j ≡ slice_index a p % 16
odd a p j e =
    let half : j / 2 ≡ p = omega arith in
    nibble-odd a j (omega arith) ∙ ap (λ q. slice_index a q % 16) half

-- keys with the same byte at a place have the same nibbles there
same_half : (j : ℕ) (a b : List ℕ) → IsKey a → IsKey b → slice_index a (j / 2) ≡ slice_index b (j / 2) → nibble a j ≡ nibble b j
same_half j a b ka kb e = elim (cases_eq (j % 2) 0) [
  | inl here ↦ nibble-even a j (ka.bytes (j / 2)) here ∙ ap (λ v. v / 16) e ∙ sym (nibble-even b j (kb.bytes (j / 2)) here)
  | inr other ↦ let one : j % 2 ≡ 1 = omega arith in nibble-odd a j one ∙ ap (λ v. v % 16) e ∙ sym (nibble-odd b j one)
]

-- at the first nibble in which two keys differ, the lesser key has the lesser nibble
pub first_nibble : (a b : List ℕ) → IsKey a → IsKey b → key_cmp a b ≡ Less → (i : ℕ) × FirstNibble a b i
first_nibble a b ka kb is =
    let d = first_differ a b (ka.long ∙ sym kb.long) is in
    let p = d.0 in
    let w = d.1.within in
    let long = ka.long in
    let no_more : slice_index a p / 16 ≤ slice_index b p / 16 = omega (arith, d.1.at) in
    elim (eq-or-lt_of_le no_more) [
      | inr up ↦ (
        2 * p,
        record {
          within = omega arith;
          before = λ j lt. same_half j a b ka kb (d.1.before (j / 2) (omega arith));
          less = omega (arith, even a p (2 * p) ka refl, even b p (2 * p) kb refl);
        },
      )
      | inl same ↦ (
        2 * p + 1,
        record {
          within = omega arith;
          before = λ j lt. let no_later : j ≤ 2 * p = omega arith in elim (eq-or-lt_of_le no_later) [
            | inr earlier ↦ same_half j a b ka kb (d.1.before (j / 2) (omega arith))
            | inl here ↦ even a p j ka here ∙ same ∙ sym (even b p j kb here)
          ];
          less = omega (arith, d.1.at, odd a p (2 * p + 1) refl, odd b p (2 * p + 1) refl);
        },
      )
    ]

-- two keys that agree up to a place differ only later
pub apart_at_nibble : (d : ℕ) (a b : List ℕ) (path : ℕ → ℕ) → IsKey a → IsKey b → key_cmp a b ≡ Less → ((i : ℕ) → i < d → nibble a i ≡ path i) → ((i : ℕ) → i < d → nibble b i ≡ path i) → (i : ℕ) × (d ≤ i) × FirstNibble a b i
apart_at_nibble d a b path ka kb lt pa pb =
    let f = first_nibble a b ka kb lt in
    (f.0, elim (cases_lt f.0 d) [ inr le ↦ le | inl early ↦ absurd (let e : nibble a f.0 ≡ nibble b f.0 = pa f.0 early ∙ sym (pb f.0 early) in omega (arith, f.1.less)) ], f.1)

-- if two keys agree in their first d nibbles, the lesser key's next nibble is not the greater
pub rises : (d : ℕ) (a b : List ℕ) (path : ℕ → ℕ) → IsKey a → IsKey b → key_cmp a b ≡ Less → ((i : ℕ) → i < d → nibble a i ≡ path i) → ((i : ℕ) → i < d → nibble b i ≡ path i) → nibble a d ≤ nibble b d
rises d a b path ka kb lt pa pb =
    let f = apart_at_nibble d a b path ka kb lt pa pb in
    elim (eq-or-lt_of_le f.1) [
      | inl here ↦ let e : nibble a d < nibble b d = subst (λ i. nibble a i < nibble b i) (sym here) f.2.less in omega arith
      | inr later ↦ let e = f.2.before d later in omega arith
    ]
