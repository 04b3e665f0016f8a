-- What hexadecimal text writes is bytes.
use Rattle.std.specs.Prelude.{◌≡◌, ℕ, ◌+◌, ◌-◌, ◌*◌, ◌<◌, ◌≤◌, Bool, true, false, ◌&&◌, cond, nat_le, List, [], ◌∷◌, Option, Some, None, IfSome}
use Rattle.std.proofs.Common.{refl, subst, arith}
use Rattle.jf_path.specs.Keys.{IsBytes}
use Rattle.jf_text.specs.Words.{both, digit, byte_of, unhex}

last_so : (a : Bool) (m n : ℕ) → (a && nat_le m n) ≡ true → m ≤ n
last_so a m n e = grind (arith)

digit_chosen : (b : Bool) (n : ℕ) (o : Option ℕ) → (b ≡ true → n < 16) → IfSome o (λ d. d < 16) → IfSome (cond b (Some n) o) (λ d. d < 16)
digit_chosen true n o h k = h refl
digit_chosen false n o h k = k

digit_small : (c : ℕ) → IfSome (digit c) (λ d. d < 16)
digit_small c =
    digit_chosen (nat_le 48 c && nat_le c 57) (c - 48) _ (λ e. let most = last_so (nat_le 48 c) c 57 e in omega arith)
    (digit_chosen (nat_le 97 c && nat_le c 102) (c - 87) None (λ e. let most = last_so (nat_le 97 c) c 102 e in omega arith) tt)

byte_small : (o p : Option ℕ) → IfSome o (λ d. d < 16) → IfSome p (λ d. d < 16) → IfSome (both (λ h l. h * 16 + l) o p) (λ b. b < 256)
byte_small (Some h) (Some l) high low = omega arith
byte_small (Some h) None high low = tt
byte_small None p high low = tt

one_more : (o : Option ℕ) (p : Option (List ℕ)) → IfSome o (λ b. b < 256) → IfSome p IsBytes → IfSome (both ◌∷◌ o p) IsBytes
one_more (Some b) (Some bytes) first later = (first, later)
one_more (Some b) None first later = tt
one_more None p first later = tt

pub unhex-IsBytes : (w : List ℕ) → IfSome (unhex w) IsBytes
unfolding unhex
unhex-IsBytes [] = tt
unhex-IsBytes (high ∷ []) = tt
unhex-IsBytes (high ∷ low ∷ rest) = one_more (byte_of high low) (unhex rest) (byte_small (digit high) (digit low) (digit_small high) (digit_small low)) (unhex-IsBytes rest)

pub unhex-bytes : (w bytes : List ℕ) → unhex w ≡ Some bytes → IsBytes bytes
unhex-bytes w bytes is = subst (λ (o : Option (List ℕ)). IfSome o IsBytes) is (unhex-IsBytes w)
