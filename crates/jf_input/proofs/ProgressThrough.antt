-- An input of which lines were taken so far, where what they add is put into a sink until a fault cuts it, and how it ends.
-- What they add is stated as over a sink that takes all of it, whose text was empty at first.
use Rattle.std.specs.Prelude.{Result, Err, Bool, false}
use Rattle.std.proofs.Common.{◌≡◌, ◌⊎◌, ℕ, ◌+◌, List, ◌++◌, Option, Some, None, [], ◌∷◌, refl, sym, ◌∙◌, subst, append-nil, inl, inr, length, ◌<◌, take}
use Rattle.std.specs.List.{position_or_len, before_first, after_first}
use Rattle.jf_io.specs.LineReader.{ReaderState, IsShortened, IsFetched, is_line_feed}
use Rattle.jf_io.specs.Inputs.{IsLineFound}
use Rattle.jf_io.proofs.Written.{nothing_written}
use Rattle.jf_input.specs.Feeds.{HandsOn, IsGathered, HasFed, EndsBetween, EndsAtLine, EndsAfter, ReadsToLine, ReadsAll, front_of_line}
use Rattle.jf_input.specs.FeedsThrough.{IsPutThrough, IsPutNext, AddsAtEnd, GoesThrough}
use Rattle.jf_input.specs.declared.feeding.Feeding.{Feeding}
use Rattle.jf_input.specs.declared.feeding.Feeding.TheVariants as feeding
use Rattle.jf_input.proofs.Progress.{SoFar, AtEnd, Step, so_far_none, so_far_same, so_far_handed, so_far_fetched, so_far_line, so_far_gathered, fed_unread, fed_wanting, fed_wanting_none, at_end_none, at_end_line, fed_at_line, fed_behind}
use Rattle.jf_input.proofs.PutThrough.{put_through_next, hands_on_after, gathers_after, ends_after}

-- ---- how it ended, by what is known of a sink that takes all
-- nothing was said after some lines
no_more : {said all : List ℕ} → Some all ≡ Some said → all ≡ said ++ []
no_more {said = said} {all = all} same = let is : all ≡ said = cc in is ∙ sym (append-nil said)

module _ {M F : Type 0} (takes : M → List ℕ → M → Result (List ℕ) F → Type 0) (ends : M → M → Result (List ℕ) F → Type 0) (quiet : M → M → Type 0) (piece : ℕ) (new : M) (source source' : Option (List ℕ)) where
  -- it ended after these lines, at this text
  abbrev Ended : Feeding F → List (List ℕ) → M → Option (List ℕ) → Option (List ℕ) → Type 0
  Ended how done mid text_so_far text' = ((new ≡ mid) × (text' ≡ text_so_far) × EndsBetween how source source' done)
      ⊎ ((line : List ℕ) × (later : List (List ℕ)) × EndsAtLine takes quiet how mid line later new text_so_far text' × ReadsToLine how piece source source' (done ++ line ∷ later))
      ⊎ (EndsAfter ends how mid new text_so_far text' × ReadsAll source source' done)

  untold : (how : Feeding F) (done : List (List ℕ)) (mid : M) (said all : List ℕ) → (how ≡ feeding.WriteFault → ⊥) → Ended how done mid (Some said) (Some all)
      → (last : List ℕ) × AddsAtEnd ends how mid new last × (all ≡ said ++ last) × Ended how done mid None None
  untold feeding.Done done mid said all ok (inl e) = absurd e.2
  untold feeding.Done done mid said all ok (inr (inl e)) = absurd e.2
  untold feeding.Done done mid said all ok (inr (inr e)) =
      let is : all ≡ said ++ e.0.0 = let same = e.0.2 in cc in
      (e.0.0, e.0.1, is, inr (inr ((e.0.0, e.0.1, refl), e.1)))
  untold feeding.ReadFault done mid said all ok (inl e) = ([], refl, no_more e.1, inl (e.0, refl, e.2))
  untold feeding.ReadFault done mid said all ok (inr (inl e)) = absurd e.2
  untold feeding.ReadFault done mid said all ok (inr (inr e)) = absurd e.0
  untold feeding.WriteFault done mid said all ok e = absurd (ok refl)
  untold feeding.Memory done mid said all ok (inl e) = ([], refl, no_more e.1, inl (e.0, refl, e.2))
  untold feeding.Memory done mid said all ok (inr (inl e)) = absurd e.2
  untold feeding.Memory done mid said all ok (inr (inr e)) = absurd e.0
  untold (feeding.Stopped why) done mid said all ok (inl e) = absurd e.2
  untold (feeding.Stopped why) done mid said all ok (inr (inl e)) = ([], refl, no_more e.2.1, inr (inl (e.0, e.1, (e.2.0, refl, e.2.2), e.3)))
  untold (feeding.Stopped why) done mid said all ok (inr (inr e)) = ([], refl, no_more e.0.1, inr (inr ((e.0.0, refl), e.1)))

goes_through : {M F : Type 0} {takes : M → List ℕ → M → Result (List ℕ) F → Type 0} {ends : M → M → Result (List ℕ) F → Type 0} {quiet : M → M → Type 0} {piece : ℕ} {how : Feeding F} {old new : M} {source source' : Option (List ℕ)} {is_cut : Bool} {text text' : Option (List ℕ)} {all : List ℕ}
    → HasFed takes ends quiet piece how old new source source' (Some []) (Some all) → (how ≡ feeding.WriteFault → ⊥) → IsPutThrough is_cut text text' all → GoesThrough takes ends quiet piece how is_cut old new source source' text text'
goes_through {takes = takes} {ends = ends} {quiet = quiet} {piece = piece} {how = how} {new = new} {source = source} {source' = source'} {is_cut = is_cut} {text = text} {text' = text'} {all = all} f ok put =
    let u = untold takes ends quiet piece new source source' how f.done f.mid f.said all ok (subst (λ (t : Option (List ℕ)). Ended takes ends quiet piece new source source' how f.done f.mid t (Some all)) f.written f.ended) in
    record {
      fed = record { done = f.done; mid = f.mid; said = f.said; took = f.took; text_so_far = None; written = refl; ended = u.3 };
      last = u.0;
      at_end = u.1;
      written = subst (λ (t : List ℕ). IsPutThrough is_cut text text' t) u.2 put;
    }

-- ---- the machine, the input and the sink
-- these lines were taken, what they add put through but for what is gathered, and of the bytes after them this is held
pub record ThroughSoFar {M F : Type 0} (takes : M → List ℕ → M → Result (List ℕ) F → Type 0) (quiet : M → M → Type 0) (old now : M) (source source' : Option (List ℕ)) (held : ReaderState) (out : List ℕ) (is_cut : Bool) (text text' : Option (List ℕ)) : Type 0 where
  pub said : List ℕ
  pub so_far : SoFar takes quiet old now source source' (Some []) (Some said) held out
  pub put : IsPutThrough is_cut text text' said

-- all lines were taken and what they add put through, and nothing is left
pub record ThroughEnd {M F : Type 0} (takes : M → List ℕ → M → Result (List ℕ) F → Type 0) (old now : M) (source source' : Option (List ℕ)) (is_cut : Bool) (text text' : Option (List ℕ)) : Type 0 where
  pub said : List ℕ
  pub at_end : AtEnd takes old now source source' (Some []) (Some said)
  pub put : IsPutThrough is_cut text text' said

pub through_none : {M F : Type 0} {takes : M → List ℕ → M → Result (List ℕ) F → Type 0} {quiet : M → M → Type 0} {m : M} {source text : Option (List ℕ)} {piece : ℕ} (held : ReaderState) (out : List ℕ) → held ≡ record { limit = 8500; piece = piece; bytes = [] } → out ≡ []
    → ThroughSoFar takes quiet m m source source held out false text text
through_none {text = text} held out is none = record { said = []; so_far = so_far_none held out is none; put = nothing_written text }

module _ {M F : Type 0} {takes : M → List ℕ → M → Result (List ℕ) F → Type 0} {quiet : M → M → Type 0} {old now : M} {source source' : Option (List ℕ)} {held : ReaderState} {out : List ℕ} {was_cut : Bool} {text text' : Option (List ℕ)} (f : ThroughSoFar takes quiet old now source source' held out was_cut text text') where
  -- ---- between two lines
  -- what was gathered was put through, or nothing was, and then bytes were taken
  pub through_fetched : {found fetched : ReaderState} {source'' : Option (List ℕ)} {out' : List ℕ} {is_cut : Bool} {text'' : Option (List ℕ)} → found ≡ held → (put : List ℕ) × IsPutNext was_cut is_cut text' text'' put × HandsOn (Some []) (Some put) out out'
      → fetched.limit ≡ found.limit → ((whole : List ℕ) → IsShortened found.limit whole found.bytes → IsFetched found.limit whole fetched.bytes source' source'') → ThroughSoFar takes quiet old now source source'' fetched out' is_cut text text''
  through_fetched {is_cut = is_cut} {text'' = text''} same put limit kept = record {
    said = f.said ++ put.0;
    so_far = so_far_fetched (so_far_handed (so_far_same f.so_far same) (hands_on_after f.said put.0 put.2)) limit kept;
    put = put_through_next was_cut is_cut text text' text'' f.said put.0 f.put put.1;
  }

  -- the source failed, and no line is held whole
  pub through_unread : {ends : M → M → Result (List ℕ) F → Type 0} {piece : ℕ} → out ≡ [] → position_or_len is_line_feed held.bytes ≡ length held.bytes → GoesThrough takes ends quiet piece feeding.ReadFault was_cut old now source source' text text'
  through_unread none unfinished = goes_through (fed_unread f.so_far none unfinished) (λ e. absurd (cc)) f.put

  -- all that was gathered was put through, and there is no memory for the next line
  pub through_wanting : {ends : M → M → Result (List ℕ) F → Type 0} {piece : ℕ} {is_cut : Bool} {text'' : Option (List ℕ)} → IsPutNext was_cut is_cut text' text'' out → GoesThrough takes ends quiet piece feeding.Memory is_cut old now source source' text text''
  through_wanting {is_cut = is_cut} {text'' = text''} put = goes_through (fed_wanting f.so_far {text'' = Some (f.said ++ out)} refl) (λ e. absurd (cc)) (put_through_next was_cut is_cut text text' text'' f.said out f.put put)

  -- the same, where nothing is gathered
  pub through_wanting_none : {ends : M → M → Result (List ℕ) F → Type 0} {piece : ℕ} → out ≡ [] → GoesThrough takes ends quiet piece feeding.Memory was_cut old now source source' text text'
  through_wanting_none none = goes_through (fed_wanting_none f.so_far none) (λ e. absurd (cc)) f.put

  -- nothing is held or left
  pub through_end_none : out ≡ [] → (held.bytes ≡ []) × ((left : List ℕ) → source' ≡ Some left → left ≡ []) → ThroughEnd takes old now source source' was_cut text text'
  through_end_none none over = record { said = f.said; at_end = at_end_none f.so_far none over; put = f.put }

  -- ---- at a line
  module _ {line : List ℕ} (front : line ≡ take (held.limit + 1) (before_first is_line_feed held.bytes)) {next : M} where
    step_after : {out' : List ℕ} (put : List ℕ) → Step takes quiet now line next (Some []) (Some put) out out' → Step takes quiet now line next (Some f.said) (Some (f.said ++ put)) out out'
    step_after put step whole given = let s = step whole given in (s.0, s.1, gathers_after f.said put quiet s.2)

    -- it was taken, and more may follow
    pub through_line : {out' : List ℕ} {held' : ReaderState} {is_cut : Bool} {text'' : Option (List ℕ)} → (position_or_len is_line_feed held.bytes ≡ length held.bytes → ⊥) → (put : List ℕ) × IsPutNext was_cut is_cut text' text'' put × Step takes quiet now line next (Some []) (Some put) out out'
        → held' ≡ record held { bytes = after_first is_line_feed held.bytes } → ThroughSoFar takes quiet old next source source' held' out' is_cut text text''
    through_line {is_cut = is_cut} {text'' = text''} unlast put advanced = record {
      said = f.said ++ put.0;
      so_far = so_far_line f.so_far front unlast (step_after put.0 put.2) advanced;
      put = put_through_next was_cut is_cut text text' text'' f.said put.0 f.put put.1;
    }

    -- and of what is gathered, what it adds comes last
    pub through_gathered : {out' put : List ℕ} → Step takes quiet now line next (Some []) (Some put) out out' → IsGathered takes next out'
    through_gathered {put = put} step = so_far_gathered f.so_far front (step_after put step)

    -- it was the last line, and then all that is gathered was put through
    pub through_end_line : {out' : List ℕ} (mid_cut : Bool) {is_cut : Bool} (mid_text : Option (List ℕ)) {text'' : Option (List ℕ)} → position_or_len is_line_feed held.bytes ≡ length held.bytes → IsLineFound held.bytes source'
        → (put : List ℕ) × IsPutNext was_cut mid_cut text' mid_text put × Step takes quiet now line next (Some []) (Some put) out out' → IsPutNext mid_cut is_cut mid_text text'' out' → ThroughEnd takes old next source source' is_cut text text''
    through_end_line {out' = out'} mid_cut {is_cut = is_cut} mid_text {text'' = text''} unfinished found put rest =
        let said = f.said ++ put.0 in
        record {
          said = said ++ out';
          at_end = at_end_line f.so_far front {text''' = Some (said ++ out')} unfinished found (step_after put.0 put.2) refl;
          put = put_through_next mid_cut is_cut text mid_text text'' said out' (put_through_next was_cut mid_cut text text' mid_text f.said put.0 f.put put.1) rest;
        }

    -- the machine stopped in it, and all that was gathered before was put through
    pub through_stopped : {ends : M → M → Result (List ℕ) F → Type 0} {piece : ℕ} {why : F} {is_cut : Bool} {text'' : Option (List ℕ)} → IsLineFound held.bytes source' → length (after_first is_line_feed held.bytes) < piece
        → ((whole : List ℕ) → line ≡ front_of_line whole → takes now whole next (Err why)) → IsPutNext was_cut is_cut text' text'' out → GoesThrough takes ends quiet piece (feeding.Stopped why) is_cut old next source source' text text''
    through_stopped {why = why} {is_cut = is_cut} {text'' = text''} found few stops put =
        goes_through (fed_at_line f.so_far front {text'' = Some (f.said ++ out)} (feeding.Stopped why) found few (λ whole given. (stops whole given, refl))) (λ e. absurd (cc))
        (put_through_next was_cut is_cut text text' text'' f.said out f.put put)

-- ---- all lines were taken
-- and then the end
pub through_behind : {M F : Type 0} {takes : M → List ℕ → M → Result (List ℕ) F → Type 0} {ends : M → M → Result (List ℕ) F → Type 0} {quiet : M → M → Type 0} {piece : ℕ} {how : Feeding F} {old now new : M} {source source' : Option (List ℕ)} {was_cut is_cut : Bool} {text text' text'' : Option (List ℕ)}
    → ThroughEnd takes old now source source' was_cut text text' → (how ≡ feeding.WriteFault → ⊥) → (put : List ℕ) × IsPutNext was_cut is_cut text' text'' put × EndsAfter ends how now new (Some []) (Some put) → GoesThrough takes ends quiet piece how is_cut old new source source' text text''
through_behind {ends = ends} {how = how} {now = now} {new = new} {was_cut = was_cut} {is_cut = is_cut} {text = text} {text' = text'} {text'' = text''} f ok e =
    goes_through (fed_behind f.at_end (ends_after f.said e.0 ends how now new e.2)) ok (put_through_next was_cut is_cut text text' text'' f.said e.0 f.put e.1)
