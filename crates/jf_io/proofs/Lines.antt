-- The first line feed of a list, sought from a later offset, or after bytes were moved or appended.
use lib.Dec.{ltb}
use Rattle.std.specs.Prelude.{unwrap_or, option_map, IfSome}
use Rattle.std.proofs.Common.{◌≡◌, ℕ, suc, ◌+◌, ◌≤◌, Bool, true, false, cond, arith, Some, None, zero, not, List, [], ◌∷◌, drop, ◌-◌, ◌++◌, ap, length, length-take, take, sym, ◌∙◌, length-drop, Option, append_assoc, refl, inl, inr, eq-or-lt_of_le, ◌<◌}
use Rattle.std.proofs.lemmas.Bool.Decides.{nat_tests}
use Rattle.std.proofs.lemmas.List.{drop-drop, take-append-drop, take_all, take-append-le}
use Rattle.std.proofs.lemmas.List.Sums.{prefix_len-le-length}
use Rattle.std.specs.List.{position_or_len, position}
use Rattle.jf_io.specs.LineReader.{is_line_feed, IsSearched}

cond_from : (b : Bool) (k r s : ℕ) → suc k ≤ cond b (1 + r) 0 → (k ≤ r → r ≡ k + s) → cond b (1 + r) 0 ≡ suc k + s
cond_from true k r s h e = let same : r ≡ k + s = e (omega arith) in omega arith
cond_from false k r s h e = absurd (omega arith)

cond_le : (b : Bool) (r s : ℕ) → r ≤ s → cond b (1 + r) 0 ≤ cond b (1 + s) 0
cond_le true r s h = omega arith
cond_le false r s h = omega arith

or_len : (place size : ℕ) → place ≤ size → unwrap_or (cond (ltb place size) (Some place) None) size ≡ place
or_len place size h = grind (arith, nat_tests)

-- the first passing place, sought from a place k before which no place passes
pub position_or_len_from : (p : ℕ → Bool) (xs : List ℕ) (k : ℕ) → k ≤ position_or_len p xs → position_or_len p xs ≡ k + position_or_len p (drop k xs)
position_or_len_from p xs zero h = omega arith
position_or_len_from p [] (suc k) h = absurd (omega arith)
position_or_len_from p (x ∷ xs) (suc k) h = cond_from (not (p x)) k (position_or_len p xs) (position_or_len p (drop k xs)) h (position_or_len_from p xs k)

-- appending bytes moves the first passing place no further to the front
pub position_or_len-append-le : (p : ℕ → Bool) (xs ys : List ℕ) → position_or_len p xs ≤ position_or_len p (xs ++ ys)
position_or_len-append-le p [] ys = omega arith
position_or_len-append-le p (x ∷ xs) ys = cond_le (not (p x)) (position_or_len p xs) (position_or_len p (xs ++ ys)) (position_or_len-append-le p xs ys)

-- the first line feed from `start` on is the first one from `searched` on
pub first_line_feed_from : (bytes : List ℕ) (start searched : ℕ) → IsSearched bytes start searched
    → searched + position_or_len is_line_feed (drop searched bytes) ≡ start + position_or_len is_line_feed (drop start bytes)
first_line_feed_from bytes start searched s =
    let k = searched - start in
    let same : start + k ≡ searched = omega (arith, s.from_start) in
    let near : k ≤ position_or_len is_line_feed (drop start bytes) = omega (arith, s.without_feed) in
    let held : position_or_len is_line_feed (drop start bytes) ≡ k + position_or_len is_line_feed (drop (start + k) bytes) =
    rw (← drop-drop k start bytes) (position_or_len_from is_line_feed (drop start bytes) k near) in
    let there : position_or_len is_line_feed (drop (start + k) bytes) ≡ position_or_len is_line_feed (drop searched bytes) = ap (λ (i : ℕ). position_or_len is_line_feed (drop i bytes)) same in
    omega (arith, s.from_start)

-- what `position` returns, or the length if it returns `None`
pub position-or_len : (p : ℕ → Bool) (xs : List ℕ) → unwrap_or (position p xs) (length xs) ≡ position_or_len p xs
position-or_len p xs = or_len (position_or_len p xs) (length xs) (prefix_len-le-length (λ x. not (p x)) xs)

-- how far held bytes are searched, after they moved to the front and more were appended
pub is_searched-moved : (bytes held new : List ℕ) (start searched : ℕ) → IsSearched bytes start searched → held ≡ drop start bytes
    → take (length held) new ≡ held → IsSearched new 0 (searched - start)
is_searched-moved bytes held new start searched s same front =
    let long : length held ≤ length new = omega (arith, ap length front, length-take (length held) new) in
    let size : length held ≡ length (drop start bytes) = ap length same in
    let place : position_or_len is_line_feed held ≡ position_or_len is_line_feed (drop start bytes) = ap (position_or_len is_line_feed) same in
    let whole : held ++ drop (length held) new ≡ new = ap (λ (h : List ℕ). h ++ drop (length held) new) (sym front) ∙ take-append-drop (length held) new in
    let further : position_or_len is_line_feed held ≤ position_or_len is_line_feed new =
    rw whole at (position_or_len-append-le is_line_feed held (drop (length held) new)) in
    record {
      from_start = omega arith;
      within = omega (arith, s.within, length-drop start bytes);
      without_feed = omega (arith, s.without_feed);
    }

-- a piece appended to held bytes, given by a source whose bytes are known
pub kept_after : (before after : Option (List ℕ)) (held items buf room rest : List ℕ) (n : ℕ) → before ≡ Some rest
    → after ≡ option_map (drop n) before → IfSome before (λ all. (n ≤ length all) × (buf ≡ take n all ++ drop n room)) → items ≡ held ++ take n buf
    → (left : List ℕ) × (after ≡ Some left) × (items ++ left ≡ held ++ rest)
kept_after before after held items buf room rest n told moved given put =
    let now : (n ≤ length rest) × (buf ≡ take n rest ++ drop n room) = rw told at given in
    let fits : n ≤ length rest = now.0 in
    let front : take n buf ≡ take n rest = rw (now.1, take-append-le n (take n rest) (drop n room) (omega (arith, length-take n rest)), take_all n (take n rest) (omega (arith, length-take n rest))) refl in (
      drop n rest,
      moved ∙ ap (option_map (drop n)) told,
      rw (put, front, append_assoc, take-append-drop) refl,
    )

-- a list that equals one in which no place passes
pub nowhere : (p : ℕ → Bool) (xs ys : List ℕ) → (position_or_len p xs < length xs → ⊥) → ys ≡ xs → position_or_len p ys ≡ length ys
nowhere p xs ys none same =
    rw same (elim (eq-or-lt_of_le (prefix_len-le-length (λ x. not (p x)) xs)) [ inl all ↦ all | inr some ↦ absurd (none some) ])
