-- Reading a field gives the field that was written, and only that.
use Rattle.std.proofs.Common.{◌≡◌, Result, Ok, Err, refl, Bool, true, false, cond, ℕ, ◌≤◌, ltb, List, length, take, drop, sym, subst, arith, ◌++◌, ◌<◌, ◌^◌, ap, ◌∙◌}
use Rattle.std.proofs.lemmas.Bool.{ltb-false, le-ltb}
use Rattle.std.proofs.lemmas.List.{take-append-drop, length-take, take_at, drop_at, length-append}
use Rattle.std.proofs.lemmas.Nat.{be_bytes_4, from_be_bytes-to_be_bytes_4, be_bytes_2, from_be_bytes-to_be_bytes_2, be_bytes_8, from_be_bytes-to_be_bytes_8}
use Rattle.std.specs.Int.{Width, byte_len, from_be_bytes, to_be_bytes, w32, w16, w64}
use Rattle.jf_path.specs.Numbers.{two_bytes, four_bytes, eight_bytes}
use Rattle.jf_path.proofs.ByteLaws.{AreBytes, AreBytes-drop, AreBytes-take, Takes}
use Rattle.jf_codec.specs.declared.fault.CodecFault.{CodecFault}
use Rattle.jf_codec.specs.Reading.{◌>>=◌, bytes_at, number_at, two_at, four_at, eight_at}
use Rattle.jf_codec.specs.declared.fault.CodecFault.TheVariants as fault

-- if two steps read something, the first one did
pub bind_ok : {A B : Type 0} (r : Result A CodecFault) (f : A → Result B CodecFault) (y : B) → (r >>= f) ≡ Ok y → (x : A) × (r ≡ Ok x) × (f x ≡ Ok y)
bind_ok (Ok x) f y e = (x, refl, e)
bind_ok (Err d) f y e = absurd cc

-- a check that let reading go on was false
pub guard_ok : {A : Type 0} (b : Bool) (d : CodecFault) (r : Result A CodecFault) (y : A) → cond b (Err d) r ≡ Ok y → (b ≡ false) × (r ≡ Ok y)
guard_ok true d r y e = absurd cc
guard_ok false d r y e = (refl, e)

abbrev done : {A : Type 0} → A → Result A CodecFault
done x = Ok x

pub ok_is : {A : Type 0} (x y : A) → done x ≡ done y → x ≡ y
ok_is x y e = cc

-- ---- a number of bytes
pub bytes_take : (n : ℕ) (bytes : List ℕ) (x : List ℕ × List ℕ) → AreBytes bytes → bytes_at n bytes ≡ Ok x → Takes bytes x.0 x.1 × (length x.0 ≡ n) × AreBytes x.0
bytes_take n bytes x fits e =
    let g = guard_ok (ltb (length bytes) n) fault.Short (Ok (take n bytes, drop n bytes)) x e in
    let long : n ≤ length bytes = ltb-false _ _ g.0 in
    subst (λ (y : List ℕ × List ℕ). Takes bytes y.0 y.1 × (length y.0 ≡ n) × AreBytes y.0) (ok_is (take n bytes, drop n bytes) x g.1)
    (record { parts = sym (take-append-drop n bytes); rest_fits = AreBytes-drop n bytes fits }, omega (arith, length-take n bytes), AreBytes-take n bytes fits)

pub bytes_again : (n : ℕ) (text rest : List ℕ) → length text ≡ n → bytes_at n (text ++ rest) ≡ Ok (text, rest)
bytes_again n text rest len =
    let long : ltb (length (text ++ rest)) n ≡ false = le-ltb _ _ (omega (arith, length-append text rest)) in
    rw (long, take_at text rest n len, drop_at text rest n len) refl

-- ---- numbers
record IsWide (w : Width) (limit : ℕ) : Type 0 where
  len : (n : ℕ) → length (to_be_bytes w n) ≡ byte_len w
  back : (bytes : List ℕ) → length bytes ≡ byte_len w → AreBytes bytes → to_be_bytes w (from_be_bytes w bytes) ≡ bytes
  again : (n : ℕ) → n < limit → from_be_bytes w (to_be_bytes w n) ≡ n
  below : (bytes : List ℕ) → AreBytes bytes → from_be_bytes w bytes < limit

wide32 : IsWide w32 (2 ^ 32)
wide32 = record {
  len = λ n. refl;
  back = λ bytes len fits. be_bytes_4 bytes _ len fits refl;
  again = λ n lt. from_be_bytes-to_be_bytes_4 n lt;
  below = λ bytes fits. omega (arith, fits 0, fits 1, fits 2, fits 3);
}

wide16 : IsWide w16 (2 ^ 16)
wide16 = record {
  len = λ n. refl;
  back = λ bytes len fits. be_bytes_2 bytes _ len fits refl;
  again = λ n lt. from_be_bytes-to_be_bytes_2 n lt;
  below = λ bytes fits. omega (arith, fits 0, fits 1);
}

wide64 : IsWide w64 (2 ^ 64)
wide64 = record {
  len = λ n. refl;
  back = λ bytes len fits. be_bytes_8 bytes _ len fits refl;
  again = λ n lt. from_be_bytes-to_be_bytes_8 n lt;
  below = λ bytes fits. omega (arith, fits 0, fits 1, fits 2, fits 3, fits 4, fits 5, fits 6, fits 7);
}

number_takes : (w : Width) (limit : ℕ) (wide : IsWide w limit) (bytes : List ℕ) (x : ℕ × List ℕ) → AreBytes bytes → number_at w bytes ≡ Ok x → Takes bytes (to_be_bytes w x.0) x.1 × (x.0 < limit)
number_takes w limit wide bytes x fits e =
    let n = byte_len w in
    let g = guard_ok (ltb (length bytes) n) fault.Short (Ok (from_be_bytes w (take n bytes), drop n bytes)) x e in
    let long : n ≤ length bytes = ltb-false _ _ g.0 in
    let front : to_be_bytes w (from_be_bytes w (take n bytes)) ≡ take n bytes = wide.back (take n bytes) (omega (arith, length-take n bytes)) (AreBytes-take n bytes fits) in
    subst (λ (y : ℕ × List ℕ). Takes bytes (to_be_bytes w y.0) y.1 × (y.0 < limit)) (ok_is (from_be_bytes w (take n bytes), drop n bytes) x g.1)
    (record { parts = sym (take-append-drop n bytes) ∙ ap (λ (t : List ℕ). t ++ drop n bytes) (sym front); rest_fits = AreBytes-drop n bytes fits }, wide.below (take n bytes) (AreBytes-take n bytes fits))

number_again : (w : Width) (limit : ℕ) (wide : IsWide w limit) (n : ℕ) (rest : List ℕ) → n < limit → number_at w (to_be_bytes w n ++ rest) ≡ Ok (n, rest)
number_again w limit wide n rest lt =
    let len = wide.len n in
    let long : ltb (length (to_be_bytes w n ++ rest)) (byte_len w) ≡ false = le-ltb _ _ (omega (arith, length-append (to_be_bytes w n) rest)) in
    rw (long, take_at (to_be_bytes w n) rest (byte_len w) len, drop_at (to_be_bytes w n) rest (byte_len w) len, wide.again n lt) refl

pub two_takes : (bytes : List ℕ) (x : ℕ × List ℕ) → AreBytes bytes → two_at bytes ≡ Ok x → Takes bytes (two_bytes x.0) x.1 × (x.0 < 2 ^ 16)
unfolding two_at two_bytes
two_takes bytes x fits e = number_takes w16 (2 ^ 16) wide16 bytes x fits e

pub two_again : (n : ℕ) (rest : List ℕ) → n < 2 ^ 16 → two_at (two_bytes n ++ rest) ≡ Ok (n, rest)
unfolding two_at two_bytes
two_again n rest lt = number_again w16 (2 ^ 16) wide16 n rest lt

pub four_takes : (bytes : List ℕ) (x : ℕ × List ℕ) → AreBytes bytes → four_at bytes ≡ Ok x → Takes bytes (four_bytes x.0) x.1 × (x.0 < 2 ^ 32)
unfolding four_at four_bytes
four_takes bytes x fits e = number_takes w32 (2 ^ 32) wide32 bytes x fits e

pub four_again : (n : ℕ) (rest : List ℕ) → n < 2 ^ 32 → four_at (four_bytes n ++ rest) ≡ Ok (n, rest)
unfolding four_at four_bytes
four_again n rest lt = number_again w32 (2 ^ 32) wide32 n rest lt

pub eight_takes : (bytes : List ℕ) (x : ℕ × List ℕ) → AreBytes bytes → eight_at bytes ≡ Ok x → Takes bytes (eight_bytes x.0) x.1 × (x.0 < 2 ^ 64)
unfolding eight_at eight_bytes
eight_takes bytes x fits e = number_takes w64 (2 ^ 64) wide64 bytes x fits e

pub eight_again : (n : ℕ) (rest : List ℕ) → n < 2 ^ 64 → eight_at (eight_bytes n ++ rest) ≡ Ok (n, rest)
unfolding eight_at eight_bytes
eight_again n rest lt = number_again w64 (2 ^ 64) wide64 n rest lt
