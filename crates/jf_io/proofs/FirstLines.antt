-- How far an input was read: the lines that are done, the bytes held after them, and the bytes still to come.
use Rattle.std.proofs.Common.{◌≡◌, ℕ, zero, suc, ◌<◌, ◌≤◌, true, false, cond, List, [], ◌∷◌, ◌++◌, take, length, refl, sym, ap, ◌∙◌, subst, arith, le_refl, append_assoc, append-nil, length-append, take_all, take_at}
use Rattle.std.specs.Prelude.{◌==◌}
use Rattle.std.specs.List.{AllByRecursion}
use Rattle.jf_io.specs.Lines.{lines, whole_lines}
use Rattle.jf_io.specs.Inputs.{IsPlain, text_of_lines}
use Rattle.jf_io.specs.LinesRead.{lines_read, AreFirst}
use Rattle.jf_io.proofs.EndedLines.{ended-more, lines_front, last_lines, whole_none, whole_front}

take_front : (ls ms : List (List ℕ)) (n : ℕ) → length ls ≤ n → take (length ls) (take n (ls ++ ms)) ≡ ls
take_front [] ms n le = refl
take_front (l ∷ ls) ms zero le = absurd (omega arith)
take_front (l ∷ ls) ms (suc n) le = ap (λ t. l ∷ t) (take_front ls ms n (omega arith))

enough_front : (ls ms : List (List ℕ)) (n : ℕ) → length ls ≤ n → length ls ≤ length (take n (ls ++ ms))
enough_front [] ms n le = omega arith
enough_front (l ∷ ls) ms zero le = absurd (omega arith)
enough_front (l ∷ ls) ms (suc n) le = omega (arith, enough_front ls ms n (omega arith))

-- lines that were taken with their line feeds are the first lines read
first_parts : (ls : List (List ℕ)) (held left : List ℕ) → AllByRecursion IsPlain ls → (length ls ≤ length (lines_read (text_of_lines ls ++ held) left)) × (take (length ls) (lines_read (text_of_lines ls ++ held) left) ≡ ls)
first_parts ls held left p =
    let all = text_of_lines ls ++ held in
    let is = lines_front ls held p in
    elim (length left == 0) as (λ t. (length ls ≤ length (cond t (lines all) (take (whole_lines all) (lines all)))) × (take (length ls) (cond t (lines all) (take (whole_lines all) (lines all))) ≡ ls)) [
      | true ↦ (rw is (omega (arith, length-append ls (lines held))), rw is (take_at ls (lines held) (length ls) refl))
      | false ↦ let far : length ls ≤ whole_lines all = omega (arith, whole_front ls held p) in
          (rw is (enough_front ls (lines held) (whole_lines all) far), rw is (take_front ls (lines held) (whole_lines all) far))
    ]

pub first_lines : (ls : List (List ℕ)) (held left : List ℕ) → AllByRecursion IsPlain ls → AreFirst (text_of_lines ls ++ held) left ls
first_lines ls held left p = let both = first_parts ls held left p in record { enough = both.0; are = both.1 }

-- if no byte is still to come, all lines taken are the first lines of the input
pub all_first : (taken : List ℕ) (ls : List (List ℕ)) → lines taken ≡ ls → AreFirst taken [] ls
all_first taken ls e = record { enough = omega (arith, ap length e); are = rw e (take_all (length ls) ls (le_refl (length ls))) }

-- if no line feed is held, the lines done are all that end with one
pub whole_taken : (ls : List (List ℕ)) (held : List ℕ) → AllByRecursion IsPlain ls → IsPlain held → length ls ≡ whole_lines (text_of_lines ls ++ held)
whole_taken ls held plain p = omega (arith, whole_front ls held plain, whole_none held p)

-- what was taken, after one more line that ends with its line feed
pub next_taken : (ls : List (List ℕ)) (held l behind : List ℕ) → held ≡ l ++ 10 ∷ behind → text_of_lines ls ++ held ≡ text_of_lines (ls ++ l ∷ []) ++ behind
next_taken ls held l behind cut =
    ap (λ t. text_of_lines ls ++ t) (cut ∙ sym (append_assoc l (10 ∷ []) behind)) ∙ sym (append_assoc (text_of_lines ls) (l ++ 10 ∷ []) behind) ∙ ap (λ t. t ++ behind) (sym (ended-more ls l))

module _ (all : List ℕ) (ls : List (List ℕ)) (held left : List ℕ) (plain : AllByRecursion IsPlain ls) (is : all ≡ text_of_lines ls ++ held ++ left) where
  -- after the lines done come those of the bytes held and still to come
  pub lines_to_come : lines all ≡ ls ++ lines (held ++ left)
  lines_to_come = ap lines (is ∙ append_assoc (text_of_lines ls) held left) ∙ lines_front ls (held ++ left) plain

  -- one more line is done, with its line feed
  pub next_line : (l behind : List ℕ) → held ≡ l ++ 10 ∷ behind → all ≡ text_of_lines (ls ++ l ∷ []) ++ behind ++ left
  next_line l behind cut = is ∙ ap (λ t. t ++ left) (next_taken ls held l behind cut)

  -- the last line, without one
  module _ (p : IsPlain held) (some : 0 < length held) (over : left ≡ []) where
    -- the lines done and the last are all
    pub with_last : lines all ≡ ls ++ held ∷ []
    with_last = ap lines (is ∙ ap (λ l. text_of_lines ls ++ held ++ l) over ∙ append-nil (text_of_lines ls ++ held)) ∙ last_lines ls held plain p some

    pub last_first : AreFirst (text_of_lines ls ++ held) left (ls ++ held ∷ [])
    last_first = subst (λ (l : List ℕ). AreFirst (text_of_lines ls ++ held) l (ls ++ held ∷ [])) (sym over) (all_first (text_of_lines ls ++ held) (ls ++ held ∷ []) (last_lines ls held plain p some))
