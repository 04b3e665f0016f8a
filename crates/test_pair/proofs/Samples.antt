-- The frames that the tests of pairs write, and that they are frames.
use Rattle.std.proofs.Common.{List, ℕ, [], ◌∷◌, refl, arith, ◌≡◌, ◌≤◌, length, true, subst, ap}
use Rattle.jf_path.specs.Numbers.{eight_bytes}
use Rattle.jf_frame.specs.Framing.{IsFrame, number_of}
use Rattle.jf_frame.proofs.FramingLaws.{frame_is_of_one}
use Rattle.jf_pair.specs.Files.{is_checkpoint}

-- a number below 256 in eight bytes, as the payload of a checkpoint
abbrev pub number : ℕ → List ℕ
number n = 0 ∷ 0 ∷ 0 ∷ 0 ∷ 0 ∷ 0 ∷ 0 ∷ n ∷ []

pub first : IsFrame (4 ∷ 0 ∷ 0 ∷ 0 ∷ 0 ∷ 0 ∷ 0 ∷ 0 ∷ 8 ∷ 0 ∷ 0 ∷ 0 ∷ 0 ∷ 0 ∷ 0 ∷ 0 ∷ 1 ∷ 0 ∷ []) 4 (number 1)
unfolding eight_bytes
first = record { is = refl; kind_fits = omega arith; length_fits = omega arith }

pub second : IsFrame (5 ∷ 0 ∷ 0 ∷ 0 ∷ 0 ∷ 0 ∷ 0 ∷ 0 ∷ 8 ∷ 0 ∷ 0 ∷ 0 ∷ 0 ∷ 0 ∷ 0 ∷ 0 ∷ 2 ∷ 0 ∷ []) 5 (number 2)
unfolding eight_bytes
second = record { is = refl; kind_fits = omega arith; length_fits = omega arith }

pub more : IsFrame (7 ∷ 0 ∷ 0 ∷ 0 ∷ 0 ∷ 0 ∷ 0 ∷ 0 ∷ 3 ∷ 97 ∷ 98 ∷ 99 ∷ 0 ∷ []) 7 (97 ∷ 98 ∷ 99 ∷ [])
unfolding eight_bytes
more = record { is = refl; kind_fits = omega arith; length_fits = omega arith }

pub is_one : (bytes : List ℕ) (kind k n : ℕ) (payload : List ℕ) → IsFrame bytes kind (number n) → is_checkpoint kind ≡ true → IsFrame bytes k payload → (is_checkpoint k ≡ true) × (8 ≤ length payload)
is_one bytes kind k n payload known checkpoint is =
    let e = frame_is_of_one bytes kind k (number n) payload known is in
    let eight : 8 ≤ length (number n) = omega arith in
    (subst (λ k. is_checkpoint k ≡ true) e.0 checkpoint, subst (λ p. 8 ≤ length p) e.1 eight)

pub number_one : number_of (number 1) ≡ 1
unfolding number_of
number_one = refl

pub number_two : number_of (number 2) ≡ 2
unfolding number_of
number_two = refl

pub same_payload : (bytes : List ℕ) (kind k : ℕ) (p payload : List ℕ) → IsFrame bytes kind p → IsFrame bytes k payload → number_of p ≡ number_of payload
same_payload bytes kind k p payload known is = ap number_of (frame_is_of_one bytes kind k p payload known is).1
