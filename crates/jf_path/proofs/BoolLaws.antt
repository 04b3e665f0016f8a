-- Tests at once, one of two tests, and what a test says as a type.
use Rattle.std.specs.Prelude.{◌≡◌, Bool, true, false, ◌&&◌, cond, not}
use Rattle.std.proofs.Common.{refl, sym, true≢false, T, if◌then◌else◌, ◌||◌, ◌∙◌}

-- two tests that both pass, with one of them known
pub and_true : (a : Bool) → (a && true) ≡ a
and_true true = refl
and_true false = refl

pub and_absorbed : (a b : Bool) → (b ≡ true → a ≡ true) → (a && b) ≡ b
and_absorbed true b h = refl
and_absorbed false true h = h refl
and_absorbed false false h = refl

-- if both pass, the first does, and the second
pub left_true : (a b : Bool) → (a && b) ≡ true → a ≡ true
left_true true b h = refl
left_true false b h = h

pub right_true : (a b : Bool) → (a && b) ≡ true → b ≡ true
right_true true b h = h
right_true false b h = absurd (true≢false (sym h))

-- the same as types, and back
pub left_so : (a b : Bool) → T (a && b) → T a
left_so true b h = tt
left_so false b h = absurd h

pub right_so : (a b : Bool) → T (a && b) → T b
right_so true b h = h
right_so false b h = absurd h

pub both_so : (a b : Bool) → T a → T b → T (a && b)
both_so true b p q = q
both_so false b p q = p

-- the same of tests that are written as a choice
pub both_pass : (s t : Bool) → (if s then t else false) ≡ true → (s ≡ true) × (t ≡ true)
both_pass true t h = (refl, h)
both_pass false t h = cc h

pub not_and_passes : (s t : Bool) → (if s then false else t) ≡ true → (s ≡ false) × (t ≡ true)
not_and_passes true t h = cc h
not_and_passes false t h = (refl, h)

-- one of two passes, or neither does
pub or_true : (a : Bool) → (a || true) ≡ true
or_true true = refl
or_true false = refl

pub or_true_left : (a b : Bool) → b ≡ false → (a || b) ≡ true → a ≡ true
or_true_left true b f h = refl
or_true_left false b f h = sym f ∙ h

pub or_false_left : (a b : Bool) → (a || b) ≡ false → a ≡ false
or_false_left true b h = h
or_false_left false b h = refl

pub or_false_right : (a b : Bool) → (a || b) ≡ false → b ≡ false
or_false_right true b h = absurd (true≢false h)
or_false_right false b h = h

pub neither : (a b : Bool) → (a || b) ≡ false → (a ≡ false) × (b ≡ false)
neither true b h = absurd (cc)
neither false b h = (refl, h)

-- a choice by a test turned round
pub cond-not : {A : Type 0} (b : Bool) (x y : A) → cond (not b) x y ≡ cond b y x
cond-not true x y = refl
cond-not false x y = refl

-- a test as a type
pub T_from_not_false : (b : Bool) → not b ≡ false → T b
T_from_not_false true h = tt
T_from_not_false false h = absurd (cc)

pub true_from_T : (b : Bool) → T b → b ≡ true
true_from_T true h = refl
true_from_T false h = absurd h

pub not_so : (b : Bool) → (T b → ⊥) → false ≡ b
not_so true h = absurd (h tt)
not_so false h = refl

-- a test whose opposite fails
pub not_false : (b : Bool) → not b ≡ false → b ≡ true
not_false true e = refl
not_false false e = absurd (cc)

-- two tests that imply each other are equal
pub same_test : (a b : Bool) → (a ≡ true → b ≡ true) → (b ≡ true → a ≡ true) → a ≡ b
same_test true b h k = sym (h refl)
same_test false true h k = k refl
same_test false false h k = refl
