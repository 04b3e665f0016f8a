-- An input of which lines were taken so far, where what is held of a line may be shortened, and how it ends.
use Rattle.std.specs.Prelude.{Result, Ok}
use Rattle.std.proofs.Common.{◌≡◌, ℕ, ◌+◌, List, ◌++◌, Option, Some, [], ◌∷◌, refl, sym, ap, ◌∙◌, subst, append_assoc, append-nil, inl, length, ◌<◌, inr, take}
use Rattle.std.specs.List.{AllByRecursion, position_or_len, before_first, after_first}
use Rattle.jf_io.specs.LineReader.{ReaderState, IsShortened, IsFetched, is_line_feed}
use Rattle.jf_io.specs.Inputs.{IsPlain, text_of_lines, IsLineFound}
use Rattle.jf_io.specs.Lines.{lines, bytes_after}
use Rattle.jf_io.specs.LinesRead.{AreFirst}
use Rattle.jf_io.specs.Sink.{IsCutShort}
use Rattle.jf_io.proofs.Shortened.{is_shortened-whole, unfinished-text, none-text, line_front-text, finished-text, after_first-text}
use Rattle.jf_io.proofs.FirstLines.{first_lines, lines_to_come, whole_taken, next_taken, last_first, next_line, with_last}
use Rattle.jf_io.proofs.Plain.{held_plain, front_split, front_plain, front_whole}
use Rattle.jf_io.proofs.EndedLines.{lines-none, plain_more}
use Rattle.jf_io.proofs.AfterLines.{bytes_after-next}
use Rattle.jf_io.proofs.Found.{where_of, found_whole, lines_found, cut_of, last_of}
use Rattle.jf_input.specs.Feeds.{Appends, HandsOn, Gathers, IsGathered, StopsGathering, ReadsAll, HasRead, HasFed, ReadsLinesOf, ReadsFew, front_of_line, EndsAfter}
use Rattle.jf_input.specs.declared.feeding.Feeding.{Feeding}
use Rattle.jf_input.specs.declared.feeding.Feeding.TheVariants as feeding
use Rattle.jf_input.proofs.Gathering.{Keeps, Written, KeptCut, keeps_none, keeps_handed, keeps_line, keeps_cut, is_gathered_line, written_none, written_all}

-- ---- the input alone
-- these lines were taken, and of the bytes after them this is held
pub record Reads (source source' : Option (List ℕ)) (held : ReaderState) (ls : List (List ℕ)) : Type 0 where
  pub plain : AllByRecursion IsPlain ls
  pub limit : held.limit ≡ 8500
  pub whole : List ℕ
  pub shortened : IsShortened 8500 whole held.bytes
  pub input : (input : List ℕ) → source ≡ Some input → (left : List ℕ) × (source' ≡ Some left) × (input ≡ text_of_lines ls ++ whole ++ left)

reads_none : {source : Option (List ℕ)} {piece : ℕ} (held : ReaderState) → held ≡ record { limit = 8500; piece = piece; bytes = [] } → Reads source source held []
reads_none held is = record {
  plain = tt;
  limit = ap (λ (h : ReaderState). h.limit) is;
  whole = [];
  shortened = subst (λ (h : ReaderState). IsShortened 8500 [] h.bytes) (sym is) (is_shortened-whole 8500 []);
  input = λ input is. (input, is, refl);
}

-- bytes were taken
reads_fetched : {source source' source'' : Option (List ℕ)} {held held' : ReaderState} {ls : List (List ℕ)} → Reads source source' held ls → held'.limit ≡ held.limit
    → ((whole : List ℕ) → IsShortened held.limit whole held.bytes → IsFetched held.limit whole held'.bytes source' source'') → Reads source source'' held' ls
reads_fetched {source' = source'} {source'' = source''} {held = held} {held' = held'} {ls = ls} f same kept =
    let k = subst (λ (n : ℕ). IsFetched n f.whole held'.bytes source' source'') f.limit (kept f.whole (subst (λ (n : ℕ). IsShortened n f.whole held.bytes) (sym f.limit) f.shortened)) in
    record {
      plain = f.plain;
      limit = same ∙ f.limit;
      whole = f.whole ++ k.taken;
      shortened = k.shortened;
      input = λ input is.
          let i = f.input input is in
          let g = k.given i.0 i.1 in (
            g.0,
            g.1,
            i.2 ∙ ap (λ t. text_of_lines ls ++ f.whole ++ t) g.2 ∙ sym (append_assoc (text_of_lines ls ++ f.whole) k.taken g.0) ∙ ap (λ t. t ++ g.0) (append_assoc (text_of_lines ls) f.whole k.taken),
          );
    }

module _ {source source' : Option (List ℕ)} {held : ReaderState} {ls : List (List ℕ)} (f : Reads source source' held ls) where
  abbrev read_so_far : (input left : List ℕ) → input ≡ text_of_lines ls ++ f.whole ++ left → HasRead input left ls
  read_so_far input left is = record {
    taken = text_of_lines ls ++ f.whole;
    split = is;
    first = first_lines ls f.whole left f.plain;
    behind = lines (f.whole ++ left);
    lines_are = lines_to_come input ls f.whole left f.plain is;
  }

  reads_lines : ReadsLinesOf source source' ls
  reads_lines input is = let i = f.input input is in (i.0, i.1, read_so_far input i.0 i.2)

  -- nothing is held or left
  reads_all_none : (held.bytes ≡ []) × ((left : List ℕ) → source' ≡ Some left → left ≡ []) → ReadsAll source source' ls
  reads_all_none over input is =
      let i = f.input input is in
      let no_more : i.0 ≡ [] = over.1 i.0 i.1 in (
        i.1 ∙ ap (λ x. Some x) no_more,
        lines_to_come input ls f.whole i.0 f.plain i.2 ∙ ap (λ w. ls ++ lines (w ++ i.0)) (none-text 8500 f.whole held.bytes f.shortened over.0) ∙ ap (λ l. ls ++ lines l) no_more
            ∙ ap (λ ms. ls ++ ms) lines-none ∙ append-nil ls,
      )

  -- ---- at a line
  -- the whole of the line
  abbrev real : List ℕ
  real = before_first is_line_feed f.whole

  abbrev more : List (List ℕ)
  more = ls ++ real ∷ []

  cut_is : position_or_len is_line_feed f.whole < length f.whole → f.whole ≡ real ++ 10 ∷ after_first is_line_feed f.whole
  cut_is cut = front_split f.whole cut

  -- it was read to its end
  taken_first : IsLineFound f.whole source' → (input left : List ℕ) → source' ≡ Some left → input ≡ text_of_lines ls ++ f.whole ++ left → AreFirst (text_of_lines ls ++ f.whole) left more
  taken_first found input left left_is is = elim (where_of f.whole source' found) [
    | inl cut ↦
        let after = after_first is_line_feed f.whole in
        subst (λ (t : List ℕ). AreFirst t left more) (sym (next_taken ls f.whole real after (cut_is cut))) (first_lines more after left (plain_more ls real f.plain (front_plain f.whole)))
    | inr last ↦
        subst (λ (l : List ℕ). AreFirst (text_of_lines ls ++ f.whole) left (ls ++ l ∷ [])) (sym (front_whole f.whole last.0))
        (last_first input ls f.whole left f.plain is (held_plain f.whole last.0) last.1 (last.2 left left_is))
  ]

  abbrev read_to_line : IsLineFound held.bytes source' → (input left : List ℕ) → source' ≡ Some left → input ≡ text_of_lines ls ++ f.whole ++ left → HasRead input left more
  read_to_line found input left left_is is =
      let there : IsLineFound f.whole source' = found_whole 8500 source' f.whole held.bytes f.shortened found in
      let behind = lines (after_first is_line_feed f.whole ++ left) in
      record {
        taken = text_of_lines ls ++ f.whole;
        split = is;
        first = taken_first there input left left_is is;
        behind = behind;
        lines_are = lines_to_come input ls f.whole left f.plain is
            ∙ ap (λ ms. ls ++ ms) (lines_found f.whole left (subst (λ (s : Option (List ℕ)). IsLineFound f.whole s) left_is there)) ∙ sym (append_assoc ls (real ∷ []) behind);
      }

  read_line : IsLineFound held.bytes source' → ReadsLinesOf source source' more
  read_line found input is = let i = f.input input is in (i.0, i.1, read_to_line found input i.0 i.1 i.2)

  -- and no further than what is held after it
  read_few : {piece : ℕ} → IsLineFound held.bytes source' → length (after_first is_line_feed held.bytes) < piece → ReadsFew piece source source' more
  read_few {piece = piece} found few input is =
      let i = f.input input is in
      let after : bytes_after (length more) (text_of_lines ls ++ f.whole) ≡ after_first is_line_feed held.bytes = bytes_after-next ls real f.whole f.plain ∙ after_first-text 8500 f.whole held.bytes f.shortened in
      (i.0, i.1, record { read = read_to_line found input i.0 i.1 i.2; few = subst (λ (t : List ℕ). length t < piece) (sym after) few })

  given : (line : List ℕ) → line ≡ take (held.limit + 1) (before_first is_line_feed held.bytes) → line ≡ front_of_line real
  given line front = front ∙ ap (λ n. take (n + 1) (before_first is_line_feed held.bytes)) f.limit ∙ line_front-text 8500 f.whole held.bytes f.shortened

  -- it was taken with its line feed, and more may follow
  reads_line : {held' : ReaderState} → (position_or_len is_line_feed held.bytes ≡ length held.bytes → ⊥) → held' ≡ record held { bytes = after_first is_line_feed held.bytes } → Reads source source' held' more
  reads_line unlast advanced =
      let behind = after_first is_line_feed held.bytes in
      record {
        plain = plain_more ls real f.plain (front_plain f.whole);
        limit = ap (λ (h : ReaderState). h.limit) advanced ∙ f.limit;
        whole = behind;
        shortened = subst (λ (h : ReaderState). IsShortened 8500 behind h.bytes) (sym advanced) (is_shortened-whole 8500 behind);
        input = λ input told.
            let i = f.input input told in
            let cut : f.whole ≡ real ++ 10 ∷ behind =
            cut_is (finished-text 8500 f.whole held.bytes f.shortened (cut_of held.bytes unlast)) ∙ ap (λ b. real ++ 10 ∷ b) (after_first-text 8500 f.whole held.bytes f.shortened) in
            (i.0, i.1, next_line input ls f.whole i.0 f.plain i.2 real behind cut);
      }

  -- it was the last line
  reads_all_line : position_or_len is_line_feed held.bytes ≡ length held.bytes → IsLineFound held.bytes source' → ReadsAll source source' more
  reads_all_line unfinished found input told =
      let last = last_of f.whole source' (unfinished-text 8500 f.whole held.bytes f.shortened unfinished) (found_whole 8500 source' f.whole held.bytes f.shortened found) in
      let i = f.input input told in
      let no_more : i.0 ≡ [] = last.2 i.0 i.1 in (
        i.1 ∙ ap (λ x. Some x) no_more,
        with_last input ls f.whole i.0 f.plain i.2 (held_plain f.whole last.0) last.1 no_more ∙ ap (λ l. ls ++ l ∷ []) (sym (front_whole f.whole last.0)),
      )

-- ---- the machine and the text too
-- these lines were taken, what they add written but for what is gathered, and of the bytes after them this is held
pub record SoFar {M F : Type 0} (takes : M → List ℕ → M → Result (List ℕ) F → Type 0) (quiet : M → M → Type 0) (old now : M) (source source' text text' : Option (List ℕ)) (held : ReaderState) (out : List ℕ) : Type 0 where
  pub ls : List (List ℕ)
  pub reads : Reads source source' held ls
  pub keeps : Keeps takes quiet old now text text' out ls

-- all lines were taken and what they add written, and nothing is left
pub record AtEnd {M F : Type 0} (takes : M → List ℕ → M → Result (List ℕ) F → Type 0) (old now : M) (source source' text text' : Option (List ℕ)) : Type 0 where
  pub ls : List (List ℕ)
  pub all : ReadsAll source source' ls
  pub written : Written takes old now text text' ls

pub so_far_none : {M F : Type 0} {takes : M → List ℕ → M → Result (List ℕ) F → Type 0} {quiet : M → M → Type 0} {m : M} {source text : Option (List ℕ)} {piece : ℕ} (held : ReaderState) (out : List ℕ) → held ≡ record { limit = 8500; piece = piece; bytes = [] } → out ≡ []
    → SoFar takes quiet m m source source text text held out
so_far_none {takes = takes} {quiet = quiet} {m = m} {text = text} held out is none = record {
  ls = [];
  reads = reads_none held is;
  keeps = subst (λ o. Keeps takes quiet m m text text o []) (sym none) keeps_none;
}

-- no more is gathered in a line that is cut
fed_cut_in : {M F : Type 0} {takes : M → List ℕ → M → Result (List ℕ) F → Type 0} {ends : M → M → Result (List ℕ) F → Type 0} {quiet : M → M → Type 0} {old new : M} {source source' text text' : Option (List ℕ)} {piece : ℕ} {ls : List (List ℕ)}
    → KeptCut takes quiet old new text text' ls → ReadsLinesOf source source' ls → HasFed takes ends quiet piece feeding.WriteFault old new source source' text text'
fed_cut_in {source = source} {source' = source'} c reads = record {
  done = c.done;
  mid = c.mid;
  said = c.all.said;
  took = c.all.took;
  text_so_far = c.text_so_far;
  written = c.all.put;
  ended = inr (inl (c.line, c.later, c.ends, subst (λ (x : List (List ℕ)). ReadsLinesOf source source' x) c.lines_are reads));
}

-- the effect of a line on the machine, with what it adds gathered, for whatever line of which this is given
abbrev pub Step : {M F : Type 0} → (M → List ℕ → M → Result (List ℕ) F → Type 0) → (M → M → Type 0) → M → List ℕ → M → Option (List ℕ) → Option (List ℕ) → List ℕ → List ℕ → Type 0
Step takes quiet now line next text text' out out' = (whole : List ℕ) → line ≡ front_of_line whole → (t : List ℕ) × takes now whole next (Ok t) × Gathers quiet now next text text' out out' t

module _ {M F : Type 0} {takes : M → List ℕ → M → Result (List ℕ) F → Type 0} {quiet : M → M → Type 0} {old now : M} {source source' text text' : Option (List ℕ)} {held : ReaderState} {out : List ℕ} (f : SoFar takes quiet old now source source' text text' held out) where
  -- ---- between two lines
  -- it was looked for the end of a line
  pub so_far_same : {held' : ReaderState} → held' ≡ held → SoFar takes quiet old now source source' text text' held' out
  so_far_same same = record { ls = f.ls; reads = subst (λ h. Reads source source' h f.ls) (sym same) f.reads; keeps = f.keeps }

  -- what was gathered was written, or nothing was
  pub so_far_handed : {text'' : Option (List ℕ)} {out' : List ℕ} → HandsOn text' text'' out out' → SoFar takes quiet old now source source' text text'' held out'
  so_far_handed on = record { ls = f.ls; reads = f.reads; keeps = keeps_handed f.keeps on }

  -- bytes were taken
  pub so_far_fetched : {source'' : Option (List ℕ)} {held' : ReaderState} → held'.limit ≡ held.limit → ((whole : List ℕ) → IsShortened held.limit whole held.bytes → IsFetched held.limit whole held'.bytes source' source'')
      → SoFar takes quiet old now source source'' text text' held' out
  so_far_fetched same kept = record { ls = f.ls; reads = reads_fetched f.reads same kept; keeps = f.keeps }

  -- not all that was gathered could be written
  pub fed_cut : {ends : M → M → Result (List ℕ) F → Type 0} {piece : ℕ} {text'' : Option (List ℕ)} → IsCutShort text' text'' out → HasFed takes ends quiet piece feeding.WriteFault old now source source' text text''
  fed_cut {text'' = text''} c = fed_cut_in (keeps_cut [] f.keeps c refl) (subst (λ (x : List (List ℕ)). ReadsLinesOf source source' x) (sym (append-nil f.ls)) (reads_lines f.reads))

  -- the source failed, and no line is held whole
  pub fed_unread : {ends : M → M → Result (List ℕ) F → Type 0} {piece : ℕ} → out ≡ [] → position_or_len is_line_feed held.bytes ≡ length held.bytes → HasFed takes ends quiet piece feeding.ReadFault old now source source' text text'
  fed_unread none unfinished =
      let w = written_none f.keeps none in
      let r = f.reads in
      record {
        done = f.ls;
        mid = now;
        said = w.said;
        took = w.took;
        text_so_far = text';
        written = w.put;
        ended = inl (
          refl,
          refl,
          λ input is.
              let i = r.input input is in
              (i.0, i.1, read_so_far r input i.0 i.2, whole_taken f.ls r.whole r.plain (held_plain r.whole (unfinished-text 8500 r.whole held.bytes r.shortened unfinished))),
        );
      }

  -- all that was gathered is written, and there is no memory for the next line
  pub fed_wanting : {ends : M → M → Result (List ℕ) F → Type 0} {piece : ℕ} {text'' : Option (List ℕ)} → Appends text' text'' out → HasFed takes ends quiet piece feeding.Memory old now source source' text text''
  fed_wanting {text'' = text''} put =
      let w = written_all f.keeps put in
      record {
        done = f.ls;
        mid = now;
        said = w.said;
        took = w.took;
        text_so_far = text'';
        written = w.put;
        ended = inl (refl, refl, reads_lines f.reads);
      }

  -- the same, where nothing is gathered
  pub fed_wanting_none : {ends : M → M → Result (List ℕ) F → Type 0} {piece : ℕ} → out ≡ [] → HasFed takes ends quiet piece feeding.Memory old now source source' text text'
  fed_wanting_none none =
      let w = written_none f.keeps none in
      record {
        done = f.ls;
        mid = now;
        said = w.said;
        took = w.took;
        text_so_far = text';
        written = w.put;
        ended = inl (refl, refl, reads_lines f.reads);
      }

  -- nothing is held or left
  pub at_end_none : out ≡ [] → (held.bytes ≡ []) × ((left : List ℕ) → source' ≡ Some left → left ≡ []) → AtEnd takes old now source source' text text'
  at_end_none none over = record { ls = f.ls; all = reads_all_none f.reads over; written = written_none f.keeps none }

  -- ---- at a line
  module _ {line : List ℕ} (front : line ≡ take (held.limit + 1) (before_first is_line_feed held.bytes)) {next : M} {text'' : Option (List ℕ)} where
    keeps_next : {out' : List ℕ} → Step takes quiet now line next text' text'' out out' → Keeps takes quiet old next text text'' out' (more f.reads)
    keeps_next step = let s = step (real f.reads) (given f.reads line front) in keeps_line (real f.reads) s.0 f.keeps s.1 s.2

    -- it was taken, and more may follow
    pub so_far_line : {out' : List ℕ} {held' : ReaderState} → (position_or_len is_line_feed held.bytes ≡ length held.bytes → ⊥) → Step takes quiet now line next text' text'' out out' → held' ≡ record held { bytes = after_first is_line_feed held.bytes }
        → SoFar takes quiet old next source source' text text'' held' out'
    so_far_line unlast step advanced = record { ls = more f.reads; reads = reads_line f.reads unlast advanced; keeps = keeps_next step }

    -- and of what is gathered, what it adds comes last
    pub so_far_gathered : {out' : List ℕ} → Step takes quiet now line next text' text'' out out' → IsGathered takes next out'
    so_far_gathered step = let s = step (real f.reads) (given f.reads line front) in is_gathered_line takes quiet out (real f.reads) s.0 s.1 s.2

    -- it was the last line
    pub at_end_line : {out' : List ℕ} {text''' : Option (List ℕ)} → position_or_len is_line_feed held.bytes ≡ length held.bytes → IsLineFound held.bytes source' → Step takes quiet now line next text' text'' out out' → Appends text'' text''' out' → AtEnd takes old next source source' text text'''
    at_end_line unfinished found step put = record { ls = more f.reads; all = reads_all_line f.reads unfinished found; written = written_all (keeps_next step) put }

    -- it was the last line, and not all that was gathered could be written
    pub fed_cut_last : {ends : M → M → Result (List ℕ) F → Type 0} {piece : ℕ} {out' : List ℕ} {text''' : Option (List ℕ)} → IsLineFound held.bytes source' → Step takes quiet now line next text' text'' out out' → IsCutShort text'' text''' out' → HasFed takes ends quiet piece feeding.WriteFault old next source source' text text'''
    fed_cut_last found step c = fed_cut_in (keeps_cut [] (keeps_next step) c refl) (subst (λ (x : List (List ℕ)). ReadsLinesOf source source' x) (sym (append-nil (more f.reads))) (read_line f.reads found))

    -- it ends there
    pub fed_at_line : {ends : M → M → Result (List ℕ) F → Type 0} {piece : ℕ} (how : Feeding F) → IsLineFound held.bytes source' → length (after_first is_line_feed held.bytes) < piece → ((whole : List ℕ) → line ≡ front_of_line whole → StopsGathering takes quiet how now whole next text' text'' out)
        → HasFed takes ends quiet piece how old next source source' text text''
    fed_at_line {ends = ends} {piece = piece} feeding.WriteFault found few e =
        let s = e (real f.reads) (given f.reads line front) in
        elim s.1 [
          | inl same ↦ subst (λ (m : M). HasFed takes ends quiet piece feeding.WriteFault old m source source' text text'') (sym same) (fed_cut s.0)
          | inr on ↦ fed_cut_in (keeps_cut (real f.reads ∷ []) f.keeps s.0 (next, on.0, on.1, on.2, refl)) (read_line f.reads found)
        ]
    fed_at_line (feeding.Stopped why) found few e =
        let s = e (real f.reads) (given f.reads line front) in
        let w = written_all f.keeps s.1 in
        record {
          done = f.ls;
          mid = now;
          said = w.said;
          took = w.took;
          text_so_far = text'';
          written = w.put;
          ended = inr (inl (real f.reads, [], (s.0, refl, refl), read_few f.reads found few));
        }
    fed_at_line feeding.Done found few e = absurd (e (real f.reads) (given f.reads line front))
    fed_at_line feeding.ReadFault found few e = absurd (e (real f.reads) (given f.reads line front))
    fed_at_line feeding.Memory found few e = absurd (e (real f.reads) (given f.reads line front))

-- ---- all lines were taken
pub fed_behind : {M F : Type 0} {takes : M → List ℕ → M → Result (List ℕ) F → Type 0} {ends : M → M → Result (List ℕ) F → Type 0} {quiet : M → M → Type 0} {old now next : M} {source source' text text' text'' : Option (List ℕ)} {piece : ℕ} {how : Feeding F}
    → AtEnd takes old now source source' text text' → EndsAfter ends how now next text' text'' → HasFed takes ends quiet piece how old next source source' text text''
fed_behind {now = now} {text' = text'} f e = record {
  done = f.ls;
  mid = now;
  said = f.written.said;
  took = f.written.took;
  text_so_far = text';
  written = f.written.put;
  ended = inr (inr (e, f.all));
}
