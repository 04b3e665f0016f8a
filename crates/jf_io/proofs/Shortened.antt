-- A text whose first line is held shortened: what follows for the text from what is held.
use Rattle.std.proofs.Common.{ℕ, ◌≤◌, Bool, not, List, length, ◌≡◌, suc, ◌+◌, true, false, cond, arith, [], ◌∷◌, ◌++◌, refl, take, drop, ◌∙◌, ap, length-take, length-drop, length-append, ◌<◌, sym, ◌⊎◌, inl, inr, append-nil, append_assoc, zero, Option, subst, Some}
use Rattle.std.proofs.lemmas.List.{take-append-drop, drop-take, take-append-le, take-take}
use Rattle.std.proofs.lemmas.List.Sums.{prefix_len-le-length}
use Rattle.std.specs.List.{position_or_len, after_first, before_first}
use Rattle.jf_io.specs.LineReader.{is_line_feed, IsSearched, IsShortened, IsFetched, ReaderState}

place_le : (p : ℕ → Bool) (xs : List ℕ) → position_or_len p xs ≤ length xs
place_le p xs = prefix_len-le-length (λ x. not (p x)) xs

-- ---- lists in which no place passes
after_plain : (b : Bool) (n r s t : ℕ) → cond b (1 + r) 0 ≡ suc n → (r ≡ n → s ≡ n + t) → cond b (1 + s) 0 ≡ suc n + t
after_plain true n r s t h f = let same : s ≡ n + t = f (omega arith) in omega arith
after_plain false n r s t h f = absurd (omega arith)

-- the first passing place of xs ++ ys, if no place of xs passes, is found in ys
pub position_or_len-append : (p : ℕ → Bool) (xs ys : List ℕ) → position_or_len p xs ≡ length xs → position_or_len p (xs ++ ys) ≡ length xs + position_or_len p ys
position_or_len-append p [] ys h = omega arith
position_or_len-append p (x ∷ xs) ys h =
    after_plain (not (p x)) (length xs) (position_or_len p xs) (position_or_len p (xs ++ ys)) (position_or_len p ys) h (position_or_len-append p xs ys)

front_cond : (b : Bool) (n r s : ℕ) → suc n ≤ cond b (1 + s) 0 → (n ≤ s → r ≡ n) → cond b (1 + r) 0 ≡ suc n
front_cond true n r s h f = let same : r ≡ n = f (omega arith) in omega arith
front_cond false n r s h f = absurd (omega arith)

-- no place of xs passes if the first one of xs ++ ys comes after xs
pub plain_front : (p : ℕ → Bool) (xs ys : List ℕ) → length xs ≤ position_or_len p (xs ++ ys) → position_or_len p xs ≡ length xs
plain_front p [] ys h = refl
plain_front p (x ∷ xs) ys h = front_cond (not (p x)) (length xs) (position_or_len p xs) (position_or_len p (xs ++ ys)) h (plain_front p xs ys)

-- a front of bytes without a line feed has no line feed
pub take_plain : (n : ℕ) (xs : List ℕ) → position_or_len is_line_feed xs ≡ length xs → position_or_len is_line_feed (take n xs) ≡ length (take n xs)
take_plain n xs h =
    let whole : position_or_len is_line_feed (take n xs ++ drop n xs) ≡ length xs = ap (position_or_len is_line_feed) (take-append-drop n xs) ∙ h in
    plain_front is_line_feed (take n xs) (drop n xs) (omega (arith, length-take n xs))

-- keeping limit + 1 bytes from start on keeps the first limit + 1 bytes of those after start
pub drop-short : (bytes new : List ℕ) (start limit : ℕ) → new ≡ take (start + limit + 1) bytes → drop start new ≡ take (limit + 1) (drop start bytes)
drop-short bytes new start limit is =
    ap (drop start) is ∙ ap (λ n. drop start (take n bytes)) (let e : start + limit + 1 ≡ start + (limit + 1) = omega arith in e) ∙ drop-take start (limit + 1) bytes

pub is_searched-short : (bytes new : List ℕ) (start limit searched : ℕ) → position_or_len is_line_feed (drop start bytes) ≡ length (drop start bytes)
    → start + limit + 1 ≤ length bytes → new ≡ take (start + limit + 1) bytes → searched ≡ length new → IsSearched new start searched
is_searched-short bytes new start limit searched plain fits is at =
    let size : length new ≡ start + limit + 1 = omega (arith, ap length is, length-take (start + limit + 1) bytes) in
    let cut = drop-short bytes new start limit is in
    let place : position_or_len is_line_feed (drop start new) ≡ length (take (limit + 1) (drop start bytes)) = ap (position_or_len is_line_feed) cut ∙ take_plain (limit + 1) (drop start bytes) plain in
    record {
      from_start = omega arith;
      within = omega arith;
      without_feed = omega (arith, length-take (limit + 1) (drop start bytes), length-drop start bytes);
    }

drop_after : (xs ys : List ℕ) (k : ℕ) → drop (length xs + k) (xs ++ ys) ≡ drop k ys
drop_after [] ys k = ap (λ n. drop n ys) (let e : 0 + k ≡ k = omega arith in e)
drop_after (x ∷ xs) ys k = ap (λ n. drop n (x ∷ xs ++ ys)) (let e : suc (length xs) + k ≡ suc (length xs + k) = omega arith in e) ∙ drop_after xs ys k

-- after the first line of bytes that begin without a line feed
pub after_after : (xs ys : List ℕ) → position_or_len is_line_feed xs ≡ length xs → after_first is_line_feed (xs ++ ys) ≡ after_first is_line_feed ys
after_after xs ys h =
    let place = position_or_len-append is_line_feed xs ys h in
    ap (λ n. drop n (xs ++ ys)) (let e : position_or_len is_line_feed (xs ++ ys) + 1 ≡ length xs + (position_or_len is_line_feed ys + 1) = omega arith in e)
    ∙ drop_after xs ys (position_or_len is_line_feed ys + 1)

-- ---- a text and what is held of it
-- a text held whole
pub is_shortened-whole : (limit : ℕ) (text : List ℕ) → IsShortened limit text text
is_shortened-whole limit text = record { front = []; gone = []; behind = text; text_is = refl; held_is = refl; is_plain = refl; is_long = λ some. absurd (omega arith) }

module _ (limit : ℕ) (text held : List ℕ) (s : IsShortened limit text held) where
  front_is_plain : position_or_len is_line_feed s.front ≡ length s.front
  front_is_plain = plain_front is_line_feed s.front s.gone (omega (arith, s.is_plain, length-append s.front s.gone))

  text_place : position_or_len is_line_feed text ≡ length (s.front ++ s.gone) + position_or_len is_line_feed s.behind
  text_place = ap (position_or_len is_line_feed) s.text_is ∙ position_or_len-append is_line_feed (s.front ++ s.gone) s.behind s.is_plain

  held_place : position_or_len is_line_feed held ≡ length s.front + position_or_len is_line_feed s.behind
  held_place = ap (position_or_len is_line_feed) s.held_is ∙ position_or_len-append is_line_feed s.front s.behind front_is_plain

  text_length : length text ≡ length (s.front ++ s.gone) + length s.behind
  text_length = ap length s.text_is ∙ length-append (s.front ++ s.gone) s.behind

  held_length : length held ≡ length s.front + length s.behind
  held_length = ap length s.held_is ∙ length-append s.front s.behind

  both_length : length (s.front ++ s.gone) ≡ length s.front + length s.gone
  both_length = length-append s.front s.gone

  -- if no line feed is held, the text has no line feed
  pub unfinished-text : position_or_len is_line_feed held ≡ length held → position_or_len is_line_feed text ≡ length text
  unfinished-text h = omega (arith, text_place, held_place, text_length, held_length, place_le is_line_feed s.behind)

  -- if a line feed is held, the text has one, and the bytes after it are held as they are
  pub finished-text : position_or_len is_line_feed held < length held → position_or_len is_line_feed text < length text
  finished-text h = omega (arith, text_place, held_place, text_length, held_length)

  pub after_first-text : after_first is_line_feed text ≡ after_first is_line_feed held
  after_first-text =
      ap (after_first is_line_feed) s.text_is ∙ after_after (s.front ++ s.gone) s.behind s.is_plain
      ∙ sym (ap (after_first is_line_feed) s.held_is ∙ after_after s.front s.behind front_is_plain)

  -- the first line is held whole, or both it and what is held of it are longer than the limit
  pub first_line-text : (before_first is_line_feed text ≡ before_first is_line_feed held) ⊎ ((limit < length (before_first is_line_feed text)) × (limit < length (before_first is_line_feed held)))
  first_line-text = by_gone s.gone refl
    where
      by_gone : (g : List ℕ) → s.gone ≡ g → (before_first is_line_feed text ≡ before_first is_line_feed held) ⊎ ((limit < length (before_first is_line_feed text)) × (limit < length (before_first is_line_feed held)))
      by_gone [] e = inl (ap (before_first is_line_feed) (s.text_is ∙ ap (λ g. s.front ++ g ++ s.behind) e ∙ ap (λ f. f ++ s.behind) (append-nil s.front) ∙ sym s.held_is))
      by_gone (b ∷ g) e =
          let long : limit < length s.front = s.is_long (omega (arith, ap length e)) in
          inr (
            omega (arith, length-take (position_or_len is_line_feed text) text, text_place, text_length, both_length),
            omega (arith, length-take (position_or_len is_line_feed held) held, held_place, held_length),
          )

  -- the first limit + 1 bytes held are those of the text
  fronts : take (limit + 1) held ≡ take (limit + 1) text
  fronts = by_gone s.gone refl
    where
      by_gone : (g : List ℕ) → s.gone ≡ g → take (limit + 1) held ≡ take (limit + 1) text
      by_gone [] e = ap (take (limit + 1)) (s.held_is ∙ sym (s.text_is ∙ ap (λ g. s.front ++ g ++ s.behind) e ∙ ap (λ f. f ++ s.behind) (append-nil s.front)))
      by_gone (b ∷ g) e =
          let long : limit < length s.front = s.is_long (omega (arith, ap length e)) in
          ap (take (limit + 1)) s.held_is ∙ take-append-le (limit + 1) s.front s.behind (omega arith)
          ∙ sym (ap (take (limit + 1)) (s.text_is ∙ append_assoc s.front s.gone s.behind) ∙ take-append-le (limit + 1) s.front (s.gone ++ s.behind) (omega arith))

  -- the first limit + 1 bytes of the first line held are those of the text's first line
  pub line_front-text : take (limit + 1) (before_first is_line_feed held) ≡ take (limit + 1) (before_first is_line_feed text)
  line_front-text = elim first_line-text [ inl same ↦ ap (take (limit + 1)) (sym same) | inr long ↦ both_long long.0 long.1 ]
    where
      both_long : limit < length (before_first is_line_feed text) → limit < length (before_first is_line_feed held)
          → take (limit + 1) (before_first is_line_feed held) ≡ take (limit + 1) (before_first is_line_feed text)
      both_long far near =
          take-take (limit + 1) (position_or_len is_line_feed held) held (omega (arith, length-take (position_or_len is_line_feed held) held)) ∙ fronts
          ∙ sym (take-take (limit + 1) (position_or_len is_line_feed text) text (omega (arith, length-take (position_or_len is_line_feed text) text)))

  -- if something is held, the text isn't empty
  pub some-text : 0 < length held → 0 < length text
  some-text h = omega (arith, text_length, held_length, both_length)

  pub none-text : held ≡ [] → text ≡ []
  none-text h = nothing text (no_bytes (length s.gone) refl)
    where
      no_bytes : (n : ℕ) → length s.gone ≡ n → length text ≡ 0
      no_bytes zero e = omega (arith, text_length, held_length, both_length, ap length h)
      no_bytes (suc n) e = let long : limit < length s.front = s.is_long (omega arith) in absurd (omega (arith, held_length, ap length h))

      nothing : (xs : List ℕ) → length xs ≡ 0 → xs ≡ []
      nothing [] e = refl
      nothing (x ∷ xs) e = absurd (omega arith)

  -- an unfinished line is shortened, and taken bytes are put after it
  pub is_shortened-taken : position_or_len is_line_feed held ≡ length held → (taken : List ℕ) → IsShortened limit (text ++ taken) (take (limit + 1) held ++ taken)
  is_shortened-taken plain taken =
      let whole : take (limit + 1) text ++ drop (limit + 1) text ≡ text = take-append-drop (limit + 1) text in
      record {
        front = take (limit + 1) text;
        gone = drop (limit + 1) text;
        behind = taken;
        text_is = ap (λ t. t ++ taken) (sym whole);
        held_is = ap (λ t. t ++ taken) fronts;
        is_plain = ap (position_or_len is_line_feed) whole ∙ unfinished-text plain ∙ sym (ap length whole);
        is_long = λ some. omega (arith, length-drop (limit + 1) text, length-take (limit + 1) text);
      }

-- ---- pieces taken from a source
same_after : (xs a b : List ℕ) → xs ++ a ≡ xs ++ b → a ≡ b
same_after xs a b e = sym (drop_after xs a 0) ∙ ap (drop (length xs + 0)) e ∙ drop_after xs b 0

-- no piece was taken yet
pub is_fetched-none : (limit : ℕ) (text held : List ℕ) (source : Option (List ℕ)) → IsShortened limit text held → IsFetched limit text held source source
is_fetched-none limit text held source s =
    record { taken = []; shortened = subst (λ t. IsShortened limit t held) (sym (append-nil text)) s; given = λ rest told. (rest, told, refl) }

-- one more piece is taken, after an unfinished line was shortened
pub is_fetched-more : (limit : ℕ) (text held held' : List ℕ) (before mid after : Option (List ℕ)) → IsFetched limit text held before mid
    → position_or_len is_line_feed held ≡ length held → take (length (take (limit + 1) held)) held' ≡ take (limit + 1) held
    → ((rest : List ℕ) → mid ≡ Some rest → (left : List ℕ) × (after ≡ Some left) × (held' ++ left ≡ take (limit + 1) held ++ rest))
    → IsFetched limit text held' before after
is_fetched-more limit text held held' before mid after f plain front kept =
    let short = take (limit + 1) held in
    let more = drop (length short) held' in
    let whole : short ++ more ≡ held' = ap (λ t. t ++ more) (sym front) ∙ take-append-drop (length short) held' in
    record {
      taken = f.taken ++ more;
      shortened = subst (λ t. IsShortened limit t held') (append_assoc text f.taken more)
          (subst (λ h. IsShortened limit (text ++ f.taken ++ more) h) whole (is_shortened-taken limit (text ++ f.taken) held f.shortened plain more));
      given = λ rest told.
          let i = f.given rest told in
          let k = kept i.0 i.1 in
          let cut : more ++ k.0 ≡ i.0 = same_after short (more ++ k.0) i.0 (sym (append_assoc short more k.0) ∙ ap (λ t. t ++ k.0) whole ∙ k.2) in
          (k.0, k.1, i.2 ∙ ap (λ t. f.taken ++ t) (sym cut) ∙ sym (append_assoc f.taken more k.0));
    }

-- one more piece in the steps of a reader: it finds no line, shortens what it holds, and takes a piece
pub is_fetched-step : (limit : ℕ) (text : List ℕ) (held found short new : ReaderState) (before mid after : Option (List ℕ)) → IsFetched limit text held.bytes before mid → held.limit ≡ limit
    → found ≡ held → position_or_len is_line_feed found.bytes ≡ length found.bytes → short ≡ record found { bytes = take (found.limit + 1) found.bytes }
    → take (length short.bytes) new.bytes ≡ short.bytes → ((rest : List ℕ) → mid ≡ Some rest → (left : List ℕ) × (after ≡ Some left) × (new.bytes ++ left ≡ short.bytes ++ rest))
    → IsFetched limit text new.bytes before after
is_fetched-step limit text held found short new before mid after f most same plain cut front kept =
    let e : short.bytes ≡ take (limit + 1) held.bytes =
    ap (λ (h : ReaderState). h.bytes) cut ∙ ap (λ (h : ReaderState). take (h.limit + 1) h.bytes) same ∙ ap (λ n. take (n + 1) held.bytes) most in
    is_fetched-more limit text held.bytes new.bytes before mid after f (subst (λ (h : ReaderState). position_or_len is_line_feed h.bytes ≡ length h.bytes) same plain)
    (subst (λ (b : List ℕ). take (length b) new.bytes ≡ b) e front) (λ rest told. let k = kept rest told in (k.0, k.1, k.2 ∙ ap (λ b. b ++ rest) e))

-- bytes without a line feed have none after they are shortened
pub short_is_plain : (found short new : ReaderState) → position_or_len is_line_feed found.bytes ≡ length found.bytes → short ≡ record found { bytes = take (found.limit + 1) found.bytes } → new ≡ short
    → position_or_len is_line_feed new.bytes ≡ length new.bytes
short_is_plain found short new plain cut same =
    subst (λ (h : ReaderState). position_or_len is_line_feed h.bytes ≡ length h.bytes) (sym (same ∙ cut)) (take_plain (found.limit + 1) found.bytes plain)
