-- Bytes are cut at the lines that begin sessions.
use Rattle.std.proofs.Common.{◌≡◌, ℕ, ◌-◌, ◌<◌, ◌≤◌, true, false, inl, inr, List, [], ◌∷◌, ◌++◌, take, drop, length, refl, sym, ap, ◌∙◌, subst, arith, le_refl, if◌then◌else◌, map, append_assoc, take-append-drop, length-append, length-drop, take_all, take_at, eq-or-lt_of_le}
use Rattle.std.specs.List.{AllByRecursion, onto_first, position_or_len, before_first, after_first}
use Rattle.std.proofs.lemmas.List.{length-map}
use Rattle.jf_path.proofs.ListLaws.{All-append}
use Rattle.jf_io.specs.LineReader.{is_line_feed}
use Rattle.jf_io.specs.Lines.{lines}
use Rattle.jf_io.proofs.Found.{after_whole, lines-split}
use Rattle.jf_io.proofs.Plain.{place_le, front_split, front_plain}
use Rattle.jf_io.proofs.EndedLines.{lines-none, lines_one}
use Rattle.jf_io.proofs.WholeLines.{lines-append}
use Rattle.jf_serve.specs.SessionScripts.{cut_at_sessions, is_session_line, scripts_among, scripts_in}

-- no bytes are one session without lines
pub scripts_in-none : (input : List ℕ) → input ≡ [] → cut_at_sessions (lines input) ≡ scripts_in input
scripts_in-none input e = rw (e, lines-none) refl

-- ---- there is a script
onto-some : (l : List ℕ) (parts : List (List (List ℕ))) → 1 ≤ length (onto_first l parts)
onto-some l [] = omega arith
onto-some l (part ∷ parts) = omega arith

pub cut-some : (ls : List (List ℕ)) → 1 ≤ length (cut_at_sessions ls)
cut-some [] = omega arith
cut-some (l ∷ ls) = elim (is_session_line l) as (λ b. 1 ≤ length (if b then [] ∷ cut_at_sessions ls else onto_first l (cut_at_sessions ls))) [
  | true ↦ omega arith
  | false ↦ onto-some l (cut_at_sessions ls)
]

scripts_among-some : (ls : List (List ℕ)) → 1 ≤ length (scripts_among ls)
scripts_among-some [] = omega arith
scripts_among-some (l ∷ ls) = cut-some (if is_session_line l then ls else l ∷ ls)

-- all scripts of an input: one at least
pub scripts-some : (scripts : List (List ℕ)) (input : List ℕ) → map lines scripts ++ [] ≡ scripts_in input → 1 ≤ length scripts
scripts-some scripts input e = omega (arith, ap length e, length-append (map lines scripts) [], length-map scripts lines, scripts_among-some (lines input))

-- scripts of an input from which bytes are left: not all
pub scripts-more : (scripts : List (List ℕ)) (input rest : List ℕ) → map lines scripts ++ cut_at_sessions (lines rest) ≡ scripts_in input → length scripts < length (scripts_in input)
scripts-more scripts input rest e = omega (arith, ap length e, length-append (map lines scripts) (cut_at_sessions (lines rest)), length-map scripts lines, cut-some (lines rest))

-- ---- lines that begin no session
abbrev pub HasNoSession : List (List ℕ) → Type 0
HasNoSession ls = AllByRecursion (λ l. is_session_line l ≡ false) ls

-- they are one script
pub cut-none : (ls : List (List ℕ)) → HasNoSession ls → cut_at_sessions ls ≡ ls ∷ []
cut-none [] h = refl
cut-none (l ∷ ls) h = rw (h.0, cut-none ls h.1) refl

-- and the first script, if a session begins after them
pub cut-first : (ls ms : List (List ℕ)) (l : List ℕ) → HasNoSession ls → is_session_line l ≡ true → cut_at_sessions (ls ++ l ∷ ms) ≡ ls ∷ cut_at_sessions ms
cut-first [] ms l h e = rw e refl
cut-first (k ∷ ls) ms l h e = rw (h.0, cut-first ls ms l h.1 e) refl

-- ---- bytes up to a place
-- the lines before `start` begin no session, and unless all bytes stand there, whatever comes after them begins a line
pub record IsBeforeSession (bytes : List ℕ) (start : ℕ) : Type 0 where
  pub within : start ≤ length bytes
  pub others : HasNoSession (lines (take start bytes))
  pub goes_on : start < length bytes → (more : List ℕ) → lines (take start bytes ++ more) ≡ lines (take start bytes) ++ lines more

-- no byte
pub before-none : (bytes : List ℕ) → IsBeforeSession bytes 0
unfolding lines
before-none bytes = record { within = omega arith; others = tt; goes_on = λ lt more. refl }

-- the bytes from a place on
pub rest_is : (bytes : List ℕ) (start : ℕ) → take (length bytes - start) (drop start bytes) ≡ drop start bytes
rest_is bytes start = take_all (length bytes - start) (drop start bytes) (omega (arith, length-drop start bytes))

end_of : (bytes xs ys : List ℕ) → bytes ≡ xs ++ ys → take (length bytes - length ys) bytes ≡ xs
end_of bytes xs ys e =
    let n : length xs ≡ length bytes - length ys = omega (arith, ap length e, length-append xs ys) in
    ap (take (length bytes - length ys)) e ∙ take_at xs ys (length bytes - length ys) n

module _ (bytes : List ℕ) (start : ℕ) (before : IsBeforeSession bytes start) where
  -- all bytes are one script
  pub cut_all : start ≡ length bytes → cut_at_sessions (lines bytes) ≡ lines bytes ∷ []
  cut_all e = cut-none (lines bytes) (subst (λ (xs : List ℕ). HasNoSession (lines xs)) (take_all start bytes (omega (arith, e))) before.others)

  module _ (lt : start < length bytes) where
    -- the lines before and after the place
    lines-at : lines bytes ≡ lines (take start bytes) ++ lines (drop start bytes)
    lines-at = ap lines (sym (take-append-drop start bytes)) ∙ before.goes_on lt (drop start bytes)

    -- a session begins at the place
    pub cut_there : (line after : List ℕ) → lines (drop start bytes) ≡ line ∷ lines after → is_session_line line ≡ true → cut_at_sessions (lines bytes) ≡ lines (take start bytes) ∷ cut_at_sessions (lines after)
    cut_there line after e is = rw (lines-at, e) (cut-first (lines (take start bytes)) (lines after) line before.others is)

    -- one more line before the place
    lines_more : (front line : List ℕ) → lines front ≡ lines (take start bytes) ++ line ∷ [] → is_session_line line ≡ false → HasNoSession (lines front)
    lines_more front line e other = rw e (All-append (λ l. is_session_line l ≡ false) (lines (take start bytes)) (line ∷ []) before.others (other, tt))

    -- the first line there has no line feed
    last_more : is_session_line (before_first is_line_feed (drop start bytes)) ≡ false → position_or_len is_line_feed (drop start bytes) ≡ length (drop start bytes)
        → IsBeforeSession bytes (length bytes - length (after_first is_line_feed (drop start bytes)))
    last_more other whole =
        let rest = drop start bytes in
        let line = before_first is_line_feed rest in
        let none = after_whole rest whole in
        let end : length bytes - length (after_first is_line_feed rest) ≡ length bytes = omega (arith, ap length none) in
        let one : lines rest ≡ line ∷ [] = lines-split rest (omega (arith, length-drop start bytes)) ∙ ap (λ ls. line ∷ ls) (ap lines none ∙ lines-none) in
        let all : lines bytes ≡ lines (take start bytes) ++ line ∷ [] = lines-at ∙ ap (λ ls. lines (take start bytes) ++ ls) one in
        record {
          within = omega arith;
          others = rw (end, take_all (length bytes) bytes (le_refl (length bytes))) (lines_more bytes line all other);
          goes_on = λ below. absurd (omega (arith, end));
        }

    -- it ends with one
    fed_more : is_session_line (before_first is_line_feed (drop start bytes)) ≡ false → position_or_len is_line_feed (drop start bytes) < length (drop start bytes)
        → IsBeforeSession bytes (length bytes - length (after_first is_line_feed (drop start bytes)))
    fed_more other cut =
        let front = take start bytes in
        let rest = drop start bytes in
        let line = before_first is_line_feed rest in
        let after = after_first is_line_feed rest in
        let fed = front ++ (line ++ 10 ∷ []) in
        let whole : bytes ≡ fed ++ after =
        sym (take-append-drop start bytes) ∙ ap (λ r. front ++ r) (front_split rest cut ∙ sym (append_assoc line (10 ∷ []) after)) ∙ sym (append_assoc front (line ++ 10 ∷ []) after) in
        let is : take (length bytes - length after) bytes ≡ fed = end_of bytes fed after whole in
        let one : lines fed ≡ lines front ++ line ∷ [] =
        before.goes_on lt (line ++ 10 ∷ []) ∙ ap (λ ls. lines front ++ ls) (lines_one line [] (front_plain rest) ∙ ap (λ ls. line ∷ ls) lines-none) in
        record {
          within = omega arith;
          others = rw is (lines_more fed line one other);
          goes_on = λ below more. rw is (
              ap lines (append_assoc front (line ++ 10 ∷ []) more ∙ ap (λ t. front ++ t) (append_assoc line (10 ∷ []) more) ∙ sym (append_assoc front line (10 ∷ more)))
              ∙ lines-append (front ++ line) more ∙ ap (λ t. lines t ++ lines more) (append_assoc front line (10 ∷ []))
              );
        }

    -- the place after the first line there, if that begins no session
    pub before-more : is_session_line (before_first is_line_feed (drop start bytes)) ≡ false → IsBeforeSession bytes (length bytes - length (after_first is_line_feed (drop start bytes)))
    before-more other = elim (eq-or-lt_of_le (place_le (drop start bytes))) [ inl whole ↦ last_more other whole | inr cut ↦ fed_more other cut ]
