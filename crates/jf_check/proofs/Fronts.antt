-- Numbers at the front of bytes.
use Rattle.std.proofs.Common.{◌≡◌, ℕ, ◌+◌, ◌≤◌, ◌<◌, ◌^◌, List, ◌++◌, length, drop, ap, sym, ◌∙◌, arith, take_at, length-append, drop-drop}
use Rattle.std.proofs.lemmas.List.{drop_at}
use Rattle.std.proofs.lemmas.Nat.{from_be_bytes-to_be_bytes_8}
use Rattle.std.specs.Int.{from_be_bytes, w64}
use Rattle.jf_path.specs.Numbers.{eight_bytes}
use Rattle.jf_frame.specs.Framing.{number_of}
use Rattle.jf_frame.proofs.Spelling.{length-eight}

eight_back : (n : ℕ) → n < 2 ^ 64 → from_be_bytes w64 (eight_bytes n) ≡ n
unfolding eight_bytes
eight_back n fits = from_be_bytes-to_be_bytes_8 n fits

-- a number in eight bytes is at the front of these and of all that comes after them
pub number_of-eight : (n : ℕ) (rest : List ℕ) → n < 2 ^ 64 → number_of (eight_bytes n ++ rest) ≡ n
unfolding number_of
number_of-eight n rest fits = ap (from_be_bytes w64) (take_at (eight_bytes n) rest 8 (length-eight n)) ∙ eight_back n fits

pub drop-eight : (n : ℕ) (rest : List ℕ) → drop 8 (eight_bytes n ++ rest) ≡ rest
drop-eight n rest = drop_at (eight_bytes n) rest 8 (length-eight n)

pub length-eight_front : (n : ℕ) (rest : List ℕ) → length (eight_bytes n ++ rest) ≡ 8 + length rest
length-eight_front n rest = omega (arith, length-append (eight_bytes n) rest, length-eight n)

-- bytes that begin with four numbers
pub record HasFour (p : List ℕ) (g b f h : ℕ) : Type 0 where
  pub one : number_of p ≡ g
  pub two : number_of (drop 8 p) ≡ b
  pub three : number_of (drop 16 p) ≡ f
  pub four : number_of (drop 24 p) ≡ h
  pub long : 32 ≤ length p

pub four_numbers : (g b f h : ℕ) (rest : List ℕ) → g < 2 ^ 64 → b < 2 ^ 64 → f < 2 ^ 64 → h < 2 ^ 64 → HasFour (eight_bytes g ++ (eight_bytes b ++ (eight_bytes f ++ (eight_bytes h ++ rest)))) g b f h
four_numbers g b f h rest gs bs fs hs =
    let p3 = eight_bytes h ++ rest in
    let p2 = eight_bytes f ++ p3 in
    let p1 = eight_bytes b ++ p2 in
    let p = eight_bytes g ++ p1 in
    let d8 : drop 8 p ≡ p1 = drop-eight g p1 in
    let d16 : drop 16 p ≡ p2 = sym (drop-drop 8 8 p) ∙ ap (drop 8) d8 ∙ drop-eight b p2 in
    let d24 : drop 24 p ≡ p3 = sym (drop-drop 8 16 p) ∙ ap (drop 8) d16 ∙ drop-eight f p3 in
    record {
      one = number_of-eight g p1 gs;
      two = ap number_of d8 ∙ number_of-eight b p2 bs;
      three = ap number_of d16 ∙ number_of-eight f p3 fs;
      four = ap number_of d24 ∙ number_of-eight h rest hs;
      long = omega (arith, length-eight_front g p1, length-eight_front b p2, length-eight_front f p3, length-eight_front h rest);
    }
