-- A path has one spelling in bytes, and bytes with no fault spell a path.
use Rattle.std.proofs.Common.{◌≡◌, ℕ, ◌*◌, List, [], ◌∷◌, length, refl, arith, zero, suc, ◌/◌, get_or, ◌+◌, ◌%◌, ◌<◌, take, ap, sym, ap₂, ◌∙◌, drop}
use Rattle.std.proofs.lemmas.List.{take_all}
use Rattle.std.specs.List.{AllByRecursion}
use Rattle.jf_path.specs.Paths.{halves, packed_nibbles, path_bytes}
pub use Rattle.jf_path.specs.PackedPath.{length-halves}

pub get_or-halves-even : (bytes : List ℕ) (k i : ℕ) → i ≡ 2 * k → get_or (halves bytes) i 0 ≡ get_or bytes k 0 / 16
get_or-halves-even [] k i e = refl
get_or-halves-even (b ∷ bytes) zero i e = rw e refl
get_or-halves-even (b ∷ bytes) (suc k) i e = rw (let f : i ≡ suc (suc (2 * k)) = omega arith in f) (get_or-halves-even bytes k (2 * k) refl)

pub get_or-halves-odd : (bytes : List ℕ) (k i : ℕ) → i ≡ 2 * k + 1 → get_or (halves bytes) i 0 ≡ get_or bytes k 0 % 16
get_or-halves-odd [] k i e = refl
get_or-halves-odd (b ∷ bytes) zero i e = rw (let f : i ≡ 1 = omega arith in f) refl
get_or-halves-odd (b ∷ bytes) (suc k) i e = rw (let f : i ≡ suc (suc (2 * k + 1)) = omega arith in f) (get_or-halves-odd bytes k (2 * k + 1) refl)

pub length-packed : (path : List ℕ) → length (packed_nibbles path) ≡ (length path + 1) / 2
length-packed [] = refl
length-packed (n ∷ []) = refl
length-packed (n ∷ m ∷ path) = omega (arith, length-packed path)

pub length-path_bytes : (path : List ℕ) → length (path_bytes path) ≡ (length path + 1) / 2 + 1
unfolding path_bytes
length-path_bytes path = omega (arith, length-packed path)

-- byte j has nibbles 2 j and 2 j + 1
pub get_or-packed : (path : List ℕ) (j i k : ℕ) → i ≡ 2 * j → k ≡ 2 * j + 1 → get_or (packed_nibbles path) j 0 ≡ get_or path i 0 * 16 + get_or path k 0
get_or-packed [] j i k ei ek = refl
get_or-packed (n ∷ []) zero i k ei ek = rw (ei, ek) (omega arith)
get_or-packed (n ∷ []) (suc j) i k ei ek = rw (let f : i ≡ suc (suc (2 * j)) = omega arith in f, let g : k ≡ suc (suc (2 * j + 1)) = omega arith in g) refl
get_or-packed (n ∷ m ∷ path) zero i k ei ek = rw (ei, let g : k ≡ 1 = omega arith in g) refl
get_or-packed (n ∷ m ∷ path) (suc j) i k ei ek = rw (let f : i ≡ suc (suc (2 * j)) = omega arith in f, let g : k ≡ suc (suc (2 * j + 1)) = omega arith in g) (get_or-packed path j (2 * j) (2 * j + 1) refl refl)

-- a packed path has the path's own nibbles
pub take-halves-packed : (path : List ℕ) → AllByRecursion (λ n. n < 16) path → take (length path) (halves (packed_nibbles path)) ≡ path
take-halves-packed [] all = refl
take-halves-packed (n ∷ []) all = ap (λ h. h ∷ []) (omega arith)
take-halves-packed (n ∷ m ∷ path) all =
    let small = all.1.0 in
    let high : (n * 16 + m) / 16 ≡ n = omega arith in
    let low : (n * 16 + m) % 16 ≡ m = omega arith in
    rw (high, low) (ap (λ (xs : List ℕ). n ∷ m ∷ xs) (take-halves-packed path all.1.1))

-- packing the first n halves of bytes gives back the bytes, if nothing but zero was cut from the last
pub packed-front : (n : ℕ) (bytes : List ℕ) → (n % 2 ≡ 1 → get_or bytes (n / 2) 0 % 16 ≡ 0) → packed_nibbles (take n (halves bytes)) ≡ take ((n + 1) / 2) bytes
packed-front zero bytes end = refl
packed-front (suc n) [] end = rw (let f : (suc n + 1) / 2 ≡ suc (n / 2) = omega arith in f) refl
packed-front (suc zero) (b ∷ bytes) end = ap (λ c. c ∷ []) (let z = end refl in omega arith)
packed-front (suc (suc n)) (b ∷ bytes) end =
    let half : suc (suc n) / 2 ≡ suc (n / 2) = omega arith in
    rw (let f : (suc (suc n) + 1) / 2 ≡ suc ((n + 1) / 2) = omega arith in f)
    (ap₂ (λ (c : ℕ) (xs : List ℕ). c ∷ xs) (omega arith) (packed-front n bytes (λ odd. ap (λ k. get_or (b ∷ bytes) k 0 % 16) (sym half) ∙ end (omega arith))))

-- bytes for n nibbles, with zero padding if n is odd, are their nibbles packed
pub packed-take-halves : (n : ℕ) (bytes : List ℕ) → length bytes ≡ (n + 1) / 2 → (n % 2 ≡ 1 → get_or bytes (n / 2) 0 % 16 ≡ 0) → packed_nibbles (take n (halves bytes)) ≡ bytes
packed-take-halves n bytes long end = packed-front n bytes end ∙ take_all ((n + 1) / 2) bytes (omega arith)

-- no two paths have the same bytes
pub path_bytes-exact : (p q : List ℕ) → AllByRecursion (λ n. n < 16) p → AllByRecursion (λ n. n < 16) q → path_bytes p ≡ path_bytes q → p ≡ q
unfolding path_bytes
path_bytes-exact p q nibbles_p nibbles_q same =
    let long : length p ≡ length q = ap (λ (bs : List ℕ). get_or bs 0 0) same in
    let rest : packed_nibbles p ≡ packed_nibbles q = ap (λ (bs : List ℕ). drop 1 bs) same in
    sym (take-halves-packed p nibbles_p) ∙ ap₂ (λ n (bs : List ℕ). take n (halves bs)) long rest ∙ take-halves-packed q nibbles_q
