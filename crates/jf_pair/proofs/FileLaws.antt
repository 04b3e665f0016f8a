-- Which records two files hold, and that they hold some exactly if they aren't damaged.
use Rattle.std.specs.Prelude.{◌≡◌, false, List, [], ◌∷◌, true, Ok, ◌<◌, length, ◌≢◌, ◌≤◌, nat_lt, ◌++◌, ℕ, Result, Bool, if◌then◌else◌, Option, Some, None, Err}
use Rattle.std.proofs.Common.{inl, inr, refl, arith, ne_eqb, ap, cond, lt-ltb, le-ltb, sym, ◌∙◌, ltb-true, ltb-false, eq-eqb, true≢false, ap₂}
use Rattle.jf_disk.specs.Disk.{Files, bytes_of}
use Rattle.jf_disk.specs.declared.side.Side.{Side}
use Rattle.jf_disk.specs.Crashes.{opposite}
use Rattle.jf_disk.specs.declared.side.Side.TheVariants as side
use Rattle.jf_frame.specs.Framed.{LogRecord}
use Rattle.jf_frame.specs.Framing.{records}
use Rattle.jf_pair.specs.Files.{are_level, IsOlder, records_of, live_records, is_begun, HoldsLive, live_side, generation_of, damage_in, outer_damage}

-- ---- a side and one of a lesser generation
apart_of : (rs others : List LogRecord) → IsOlder others rs → (are_level rs others ≡ false) × (are_level others rs ≡ false)
apart_of [] [] older = (refl, refl)
apart_of [] (o ∷ os) older = (refl, refl)
apart_of (r ∷ rs) [] older = (refl, refl)
apart_of (r ∷ rs) (o ∷ os) (inl none) = absurd (cc)
apart_of (r ∷ rs) (o ∷ os) (inr lt) = (ne_eqb _ _ (λ e. absurd (omega arith)), ne_eqb _ _ (λ e. absurd (omega arith)))

live_left : (rs others : List LogRecord) → IsOlder others rs → live_records rs others ≡ rs
live_left [] [] older = refl
live_left [] (o ∷ os) (inl none) = absurd (cc)
live_left [] (o ∷ os) (inr lt) = absurd (omega arith)
live_left (r ∷ rs) [] older = refl
live_left (r ∷ rs) (o ∷ os) (inl none) = absurd (cc)
live_left (r ∷ rs) (o ∷ os) (inr lt) = ap (λ b. records_of (cond b side.A side.B) (r ∷ rs) (o ∷ os)) (lt-ltb _ _ lt)

live_right : (rs others : List LogRecord) → IsOlder others rs → live_records others rs ≡ rs
live_right rs [] older = refl
live_right [] (o ∷ os) (inl none) = absurd (cc)
live_right [] (o ∷ os) (inr lt) = absurd (omega arith)
live_right (r ∷ rs) (o ∷ os) (inl none) = absurd (cc)
live_right (r ∷ rs) (o ∷ os) (inr lt) = ap (λ b. records_of (cond b side.A side.B) (o ∷ os) (r ∷ rs)) (le-ltb _ _ (omega arith))

-- the live records are those of the side whose generation is greater
pub holds_of : (w : Side) (f : Files) (rs others : List LogRecord) → records (bytes_of w f) ≡ Ok rs → records (bytes_of (opposite w) f) ≡ Ok others → is_begun rs ≡ true → is_begun others ≡ true → IsOlder others rs → HoldsLive f rs
holds_of side.A f rs others held other begun other_begun older = record {
  a_records = rs;
  b_records = others;
  a_held = held;
  b_held = other;
  a_begun = begun;
  b_begun = other_begun;
  apart = (apart_of rs others older).0;
  live = live_left rs others older;
}
holds_of side.B f rs others held other begun other_begun older = record {
  a_records = others;
  b_records = rs;
  a_held = other;
  b_held = held;
  a_begun = other_begun;
  b_begun = begun;
  apart = (apart_of rs others older).1;
  live = live_right rs others older;
}

-- the side whose generation is greater is the live one
pub live_side_of : (w : Side) (rs others : List LogRecord) → IsOlder others rs → 0 < length rs → live_side (records_of w rs others) (records_of w others rs) ≡ w
live_side_of w [] others older some = absurd (omega arith)
live_side_of side.A (r ∷ rs) [] older some = refl
live_side_of side.A (r ∷ rs) (o ∷ os) (inl none) some = absurd (cc)
live_side_of side.A (r ∷ rs) (o ∷ os) (inr lt) some = ap (λ b. cond b side.A side.B) (lt-ltb _ _ lt)
live_side_of side.B (r ∷ rs) [] older some = refl
live_side_of side.B (r ∷ rs) (o ∷ os) (inl none) some = absurd (cc)
live_side_of side.B (r ∷ rs) (o ∷ os) (inr lt) some = ap (λ b. cond b side.A side.B) (le-ltb _ _ (omega arith))

-- side A is live only if it has records
pub live_a_some : (left right : List LogRecord) → live_side left right ≡ side.A → 0 < length left
live_a_some [] right is = absurd (cc)
live_a_some (a ∷ left) right is = omega arith

-- of two sides that don't have one generation, the one that isn't live is older
pub older_of : (left right : List LogRecord) → are_level left right ≡ false → IsOlder (records_of (opposite (live_side left right)) left right) (live_records left right)
older_of [] right apart = inl refl
older_of (a ∷ left) [] apart = inl refl
older_of (a ∷ left) (b ∷ right) apart =
    let m = generation_of (a ∷ left) in
    let n = generation_of (b ∷ right) in
    let differ : m ≢ n = λ e. true≢false (sym (eq-eqb m n e) ∙ apart) in
    elim (nat_lt n m) as (λ t. nat_lt n m ≡ t → IsOlder (records_of (opposite (cond t side.A side.B)) (a ∷ left) (b ∷ right)) (records_of (cond t side.A side.B) (a ∷ left) (b ∷ right))) [
      | true ↦ λ lt. inr (ltb-true _ _ lt)
      | false ↦ λ ge. let le : m ≤ n = ltb-false _ _ ge in inr (omega arith)
    ] refl

-- one more record keeps an initialised side initialised
pub begun_push : (rs : List LogRecord) (r : LogRecord) → 0 < length rs → is_begun (rs ++ r ∷ []) ≡ is_begun rs
begun_push [] r some = absurd (omega arith)
begun_push (x ∷ rs) r some = refl

pub generation_push : (rs : List LogRecord) (r : LogRecord) → 0 < length rs → generation_of (rs ++ r ∷ []) ≡ generation_of rs
generation_push [] r some = absurd (omega arith)
generation_push (x ∷ rs) r some = refl

-- ---- one list of live records, or damage
pub same_ok : (xs ys : List LogRecord) (x : Result (List LogRecord) ℕ) → x ≡ Ok xs → x ≡ Ok ys → xs ≡ ys
same_ok xs ys x a b = let e : Ok xs ≡ Ok ys = sym a ∙ b in cc

-- two files hold at most one list of live records
pub holds_one : (f : Files) (rs rs' : List LogRecord) → HoldsLive f rs → HoldsLive f rs' → rs ≡ rs'
holds_one f rs rs' h h' = sym h.live ∙ ap₂ live_records (same_ok _ _ (records f.a) h.a_held h'.a_held) (same_ok _ _ (records f.b) h.b_held h'.b_held) ∙ h'.live

-- the first place of damage in first records
abbrev first_damage : Bool → Bool → Bool → Option (Side × ℕ)
first_damage a b level = if a then (if b then (if level then Some (side.B, 0) else None) else Some (side.B, 0)) else Some (side.A, 0)

-- files that hold live records aren't damaged
pub holds_undamaged : (f : Files) (rs : List LogRecord) → HoldsLive f rs → outer_damage f ≡ None
holds_undamaged f rs h =
    ap₂ damage_in h.a_held h.b_held
    ∙ ap (λ t. first_damage t (is_begun h.b_records) (are_level h.a_records h.b_records)) h.a_begun
    ∙ ap (λ t. first_damage true t (are_level h.a_records h.b_records)) h.b_begun
    ∙ ap (λ t. first_damage true true t) h.apart

sound_first : (a b level : Bool) → first_damage a b level ≡ None → (a ≡ true) × (b ≡ true) × (level ≡ false)
sound_first false b level none = absurd (cc)
sound_first true false level none = absurd (cc)
sound_first true true true none = absurd (cc)
sound_first true true false none = (refl, refl, refl)

sound_records : (x y : Result (List LogRecord) ℕ) → damage_in x y ≡ None → (left : List LogRecord) × (right : List LogRecord) × (x ≡ Ok left) × (y ≡ Ok right) × (first_damage (is_begun left) (is_begun right) (are_level left right) ≡ None)
sound_records (Err at) y none = absurd (cc)
sound_records (Ok left) (Err at) none = absurd (cc)
sound_records (Ok left) (Ok right) none = (left, right, refl, refl, none)

-- files that aren't damaged hold live records
pub undamaged_holds : (f : Files) → outer_damage f ≡ None → (rs : List LogRecord) × HoldsLive f rs
undamaged_holds f none =
    let x = sound_records (records f.a) (records f.b) none in
    let y = sound_first (is_begun x.0) (is_begun x.1) (are_level x.0 x.1) x.4 in
    (live_records x.0 x.1, record { a_records = x.0; b_records = x.1; a_held = x.2; b_held = x.3; a_begun = y.0; b_begun = y.1; apart = y.2; live = refl })
