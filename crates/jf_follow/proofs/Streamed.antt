-- The result of a source whose lines were taken as landing blocks.
use Rattle.std.proofs.Common.{◌≡◌, ◌⊎◌, false, inl, inr, ℕ, List, [], ◌∷◌, ◌++◌, length, Option, Some, None, Err, refl, ap, sym, ◌∙◌, subst, append-nil, arith}
use Rattle.std.specs.Prelude.{slice_get}
use Rattle.std.proofs.lemmas.List.{length-append}
use Rattle.jf_path.specs.Faults.{HasCause}
use Rattle.jf_io.specs.declared.piece.TheConstants.{USUAL_PIECE}
use Rattle.jf_io.proofs.FirstLines.{all_first}
use Rattle.jf_input.specs.Feeds.{TakesLines, ReadsAll, ReadsLinesOf, ReadsFew, HasFed}
use Rattle.jf_input.specs.declared.feeding.Feeding.{Feeding}
use Rattle.jf_input.specs.declared.feeding.Feeding.TheVariants as feeding
use Rattle.jf_input.proofs.FirstRead.{has_read_first}
use Rattle.jf_model.specs.declared.entries.Entry.{Entry}
use Rattle.jf_engine.specs.Engines.{Engine}
use Rattle.jf_lead.specs.declared.block.LandingBlock.{LandingBlock}
use Rattle.jf_lead.specs.declared.fault.LandingFault.{LandingFault}
use Rattle.jf_lead.specs.declared.fault.LandingFault.TheVariants as landing_fault
use Rattle.jf_lead.specs.Reading.{LandingBlocks, landing_blocks}
use Rattle.jf_lead.specs.Steps.{LandingReading, begun_reading, reading_after, reading_after_all, ended_block, ended_blocks, with_later, stage_refusal, refusal_at_end, bad_line}
use Rattle.jf_lead.proofs.LineByLine.{landing_blocks-lines}
use Rattle.jf_lead.proofs.Deciding.{stage_refusal-decided, ended_blocks-append, landing_blocks-append, reading_after_all-append}
use Rattle.jf_lead.proofs.Stages.{refused_no_block}
use Rattle.jf_follow.specs.Following.{judgement, whole_blocks}
use Rattle.jf_follow.specs.Streams.{LandInTurn, ReadsToBlock, FollowsBlocks, FollowsLines, HasNoBadLine, FollowsInput, HasFollowed, EndsFollowing}
use Rattle.jf_follow.specs.Lines.{FollowState, follow_state, IsUnmoved, TakesLandingLine, EndsLandingLines, followed_by_stop, EndsFed}
use Rattle.jf_follow.specs.declared.followed.Followed.{Followed}
use Rattle.jf_follow.specs.declared.followed.Followed.TheVariants as followed
use Rattle.jf_follow.specs.declared.followed.FollowRefused.TheVariants as refused
use Rattle.jf_follow.specs.declared.following.FollowStop.{FollowStop}
use Rattle.jf_follow.specs.declared.following.FollowStop.TheVariants as stop
use Rattle.jf_follow.proofs.Followings.{unnumbered, made, took_reading, took_good, took_number, took_next, took_shown}
use Rattle.jf_follow.proofs.Places.{ended_block-last, reading_after-bad, refusal_at_end-next}

-- before the first line
abbrev pub started : Engine → FollowState
started e = follow_state begun_reading e []

-- the whole blocks of lines are those that end with them
whole_after : (ls : List (List ℕ)) → whole_blocks ls ≡ unnumbered (ended_blocks begun_reading ls)
whole_after ls = ap (λ (x : LandingBlocks). unnumbered x.whole) (landing_blocks-lines ls)

-- the effect of lines on a store
pub lines_followed : (ls : List (List ℕ)) (old : Engine) (next : FollowState) (text : List ℕ) → TakesLines TakesLandingLine (started old) ls next text → FollowsLines old next.store next.entries ls
lines_followed ls old next text took =
    let m = made ls (started old) next text took in
    subst (λ es. FollowsBlocks old next.store (whole_blocks ls) es) (sym m.entries) (subst (λ bs. FollowsBlocks old next.store bs m.more) (sym (whole_after ls)) m.follows)

-- none of them is bad
pub no_bad_line : (ls : List (List ℕ)) (old : Engine) (next : FollowState) (text : List ℕ) → TakesLines TakesLandingLine (started old) ls next text → HasNoBadLine ls
no_bad_line ls old next text took =
    sym (stage_refusal-decided ls) ∙ ap (λ (r : LandingReading). stage_refusal r.stage) (sym (took_reading ls (started old) next text took)) ∙ took_good ls (started old) next text refl took

-- ---- one line more
-- the blocks that end with lines and one line more
one_more : (ls : List (List ℕ)) (line : List ℕ) (r : LandingReading) → r ≡ reading_after_all begun_reading ls → ended_blocks begun_reading (ls ++ line ∷ []) ≡ ended_blocks begun_reading ls ++ with_later (ended_block r line) []
unfolding ended_blocks
one_more ls line r is = ended_blocks-append begun_reading ls (line ∷ []) ∙ ap (λ (x : LandingReading). ended_blocks begun_reading ls ++ with_later (ended_block x line) []) (sym is)

-- if no block ends with the line
no_more : (ls : List (List ℕ)) (line : List ℕ) (r : LandingReading) → r ≡ reading_after_all begun_reading ls → ended_block r line ≡ None → whole_blocks (ls ++ line ∷ []) ≡ whole_blocks ls
no_more ls line r is none =
    whole_after (ls ++ line ∷ [])
    ∙ ap unnumbered (one_more ls line r is ∙ ap (λ o. ended_blocks begun_reading ls ++ with_later o []) none ∙ append-nil (ended_blocks begun_reading ls))
    ∙ sym (whole_after ls)

unnumbered-last : (bs : List (ℕ × LandingBlock)) (b : ℕ × LandingBlock) → unnumbered (bs ++ b ∷ []) ≡ unnumbered bs ++ b.1 ∷ []
unnumbered-last [] b = refl
unnumbered-last (x ∷ bs) b = ap (λ rest. x.1 ∷ rest) (unnumbered-last bs b)

at_last : (bs : List (ℕ × LandingBlock)) (b : ℕ × LandingBlock) → slice_get (bs ++ b ∷ []) (length (unnumbered bs)) ≡ Some b
at_last [] b = refl
at_last (x ∷ bs) b = at_last bs b

-- if a block ends with it
block_more : (ls : List (List ℕ)) (line : List ℕ) (r : LandingReading) (b : ℕ × LandingBlock) → r ≡ reading_after_all begun_reading ls → ended_block r line ≡ Some b
    → (whole_blocks (ls ++ line ∷ []) ≡ whole_blocks ls ++ b.1 ∷ []) × (slice_get (landing_blocks (ls ++ line ∷ [])).whole (length (whole_blocks ls)) ≡ Some b)
block_more ls line r b is some =
    let all : ended_blocks begun_reading (ls ++ line ∷ []) ≡ ended_blocks begun_reading ls ++ b ∷ [] = one_more ls line r is ∙ ap (λ o. ended_blocks begun_reading ls ++ with_later o []) some in (
      whole_after (ls ++ line ∷ []) ∙ ap unnumbered all ∙ unnumbered-last (ended_blocks begun_reading ls) b ∙ ap (λ bs. bs ++ b.1 ∷ []) (sym (whole_after ls)),
      ap (λ (x : LandingBlocks). slice_get x.whole (length (whole_blocks ls))) (landing_blocks-lines (ls ++ line ∷ []))
          ∙ ap (λ bs. slice_get bs (length (whole_blocks ls))) all
          ∙ ap (λ bs. slice_get (ended_blocks begun_reading ls ++ b ∷ []) (length bs)) (whole_after ls)
          ∙ at_last (ended_blocks begun_reading ls) b,
    )

-- ---- how far a source was read
read_all : (source source' : Option (List ℕ)) (ls : List (List ℕ)) → ReadsAll source source' ls → ReadsLinesOf source source' ls
read_all source source' ls reads input is =
    let r = reads input is in
    ([], r.0, record { taken = input; split = sym (append-nil input); first = all_first input ls r.1; behind = []; lines_are = r.1 ∙ sym (append-nil ls) })

read_before : (source source' : Option (List ℕ)) (ls : List (List ℕ)) (line : List ℕ) → ReadsFew USUAL_PIECE source source' (ls ++ line ∷ []) → ReadsLinesOf source source' ls
read_before source source' ls line reads input is = let r = reads input is in (r.0, r.1, has_read_first input r.0 ls (line ∷ []) r.2.read)

module _ (old : Engine) (source source' text text' : Option (List ℕ)) where
  -- how it ended
  abbrev Came : Followed → FollowState → Type 0
  Came how last = HasFollowed how old last.store last.entries source source' text text'

  -- the same versions, entries and store
  moved : (ls : List (List ℕ)) (mid last : FollowState) → IsUnmoved mid last → FollowsLines old mid.store mid.entries ls → FollowsLines old last.store last.entries ls
  moved ls mid last same f = subst (λ es. FollowsLines old last.store es ls) (sym same.1) (subst (λ (e : Engine). FollowsLines old e mid.entries ls) (sym same.0) f)

  module _ (ls : List (List ℕ)) (mid last : FollowState) (said : List ℕ) (took : TakesLines TakesLandingLine (started old) ls mid said) (line : List ℕ) (same_text : text' ≡ text) (reads : ReadsFew USUAL_PIECE source source' (ls ++ line ∷ [])) where
    follows : FollowsLines old mid.store mid.entries ls
    follows = lines_followed ls old mid said took

    place : mid.reading ≡ reading_after_all begun_reading ls
    place = took_reading ls (started old) mid said took

    stage_after : (why : LandingFault) → last.reading ≡ reading_after mid.reading line → stage_refusal last.reading.stage ≡ Some why → stage_refusal (reading_after_all begun_reading (ls ++ line ∷ [])).stage ≡ Some why
    unfolding reading_after_all
    stage_after why is refuses =
        ap (λ (r : LandingReading). stage_refusal r.stage) (reading_after_all-append begun_reading ls (line ∷ []) ∙ ap (λ (r : LandingReading). reading_after r line) (sym place) ∙ sym is) ∙ refuses

    good : stage_refusal mid.reading.stage ≡ None
    good = took_good ls (started old) mid said refl took

    -- the line is the last one
    counted : length (ls ++ line ∷ []) ≡ mid.reading.at
    counted = omega (arith, length-append ls (line ∷ []), took_number ls (started old) mid said refl took)

    bad_last : (at : ℕ) → last.reading ≡ reading_after mid.reading line → stage_refusal last.reading.stage ≡ Some (landing_fault.Line at) → (landing_blocks (ls ++ line ∷ [])).bad ≡ Some at
    bad_last at is refuses =
        ap (λ xs. (landing_blocks xs).bad) (sym (append-nil (ls ++ line ∷ [])))
        ∙ ap (λ (x : LandingBlocks). x.bad) (landing_blocks-append (ls ++ line ∷ []) [] at (stage_after (landing_fault.Line at) is refuses))

    -- a block ends with it
    to_block : (at : ℕ) (block : LandingBlock) → ended_block mid.reading line ≡ Some (at, block) → ReadsToBlock (ls ++ line ∷ []) (whole_blocks ls) at block source source'
    to_block at block ends =
        let more = block_more ls line mid.reading (at, block) place ends in
        record {
          whole = more.0;
          numbered = more.1;
          last = counted ∙ sym (ended_block-last mid.reading line at block (took_next ls (started old) mid said tt took) ends);
          soon = reads;
        }

    stops : (why : FollowStop) → TakesLandingLine mid line last (Err why) → Came (followed_by_stop why) last
    stops (stop.Refused (refused.Line at)) t =
        let none : ended_block mid.reading line ≡ None = refused_no_block mid.reading line (landing_fault.Line at) (ap (λ (r : LandingReading). stage_refusal r.stage) (sym t.0) ∙ t.1) in
        let same = no_more ls line mid.reading place none in (
          record {
            ls = ls ++ line ∷ [];
            bad = bad_last at t.0 t.1;
            follows = subst (λ bs. FollowsBlocks old last.store bs last.entries) (sym same) (moved ls mid last t.2 follows);
            soon = inl (sym (reading_after-bad mid.reading line at good (ap (λ (r : LandingReading). stage_refusal r.stage) (sym t.0) ∙ t.1) ∙ sym counted), reads);
          },
          same_text,
        )
    stops (stop.Refused (refused.Block at why)) t = (
      record {
        ls = ls ++ line ∷ [];
        before = whole_blocks ls;
        block = t.0;
        read = to_block at t.0 t.2;
        follows = moved ls mid last t.4 follows;
        refused = ap (λ (e : Engine). judgement e.versions t.0) t.4.0 ∙ t.3;
      },
      same_text,
    )
    stops stop.DiskFault t = (
      record {
        ls = ls ++ line ∷ [];
        before = whole_blocks ls;
        at = t.0;
        block = t.1;
        mid = mid.store;
        read = to_block t.0 t.1 t.3;
        follows = subst (λ es. FollowsBlocks old mid.store (whole_blocks ls) es) (sym t.5) follows;
        breaks = t.4;
      },
      same_text,
    )
    stops stop.Memory t = (ls, read_before source source' ls line reads, no_bad_line ls old mid said took, moved ls mid last t follows, same_text)

  -- ---- at the end of the input
  end_is : (ls : List (List ℕ)) (mid : FollowState) (said : List ℕ) → TakesLines TakesLandingLine (started old) ls mid said → (landing_blocks ls).bad ≡ bad_line (refusal_at_end mid.reading.at mid.reading.stage)
  end_is ls mid said took =
      ap (λ (x : LandingBlocks). x.bad) (landing_blocks-lines ls) ∙ ap (λ (r : LandingReading). bad_line (refusal_at_end r.at r.stage)) (sym (took_reading ls (started old) mid said took))

  no_bad : (ls : List (List ℕ)) (mid : FollowState) (said : List ℕ) → TakesLines TakesLandingLine (started old) ls mid said → refusal_at_end mid.reading.at mid.reading.stage ≡ None → (landing_blocks ls).bad ≡ None
  no_bad ls mid said took none = end_is ls mid said took ∙ ap bad_line none

  is_bad : (ls : List (List ℕ)) (mid : FollowState) (said : List ℕ) → TakesLines TakesLandingLine (started old) ls mid said → (at : ℕ) → refusal_at_end mid.reading.at mid.reading.stage ≡ Some (landing_fault.Line at) → (landing_blocks ls).bad ≡ Some at
  is_bad ls mid said took at e = end_is ls mid said took ∙ ap bad_line e

  input_followed : (ls : List (List ℕ)) (mid : FollowState) (said : List ℕ) → TakesLines TakesLandingLine (started old) ls mid said → ReadsAll source source' ls → refusal_at_end mid.reading.at mid.reading.stage ≡ None → FollowsInput old mid.store mid.entries source source'
  input_followed ls mid said took reads none = record { ls = ls; read = reads; good = no_bad ls mid said took none; follows = lines_followed ls old mid said took }

  ends : (ls : List (List ℕ)) (mid : FollowState) (said : List ℕ) → TakesLines TakesLandingLine (started old) ls mid said → ReadsAll source source' ls → (how : Followed) → EndsFollowing how mid.reading mid.store.versions text text' → Came how mid
  ends ls mid said took reads followed.Done e = (input_followed ls mid said took reads e.0, e.1)
  ends ls mid said took reads followed.WriteFault e = (input_followed ls mid said took reads e.0, e.1)
  ends ls mid said took reads followed.Memory e = (ls, read_all source source' ls reads, no_bad_line ls old mid said took, lines_followed ls old mid said took, e)
  ends ls mid said took reads followed.ReadFault e = absurd e
  ends ls mid said took reads followed.DiskFault e = absurd e
  ends ls mid said took reads (followed.Refused (refused.Block at why)) e = absurd e
  ends ls mid said took reads (followed.Refused (refused.Line at)) e =
      let missing = refusal_at_end-next mid.reading.at mid.reading.stage at (took_good ls (started old) mid said refl took) e.0 in
      let number = took_number ls (started old) mid said refl took in (
        record {
          ls = ls;
          bad = is_bad ls mid said took at e.0;
          follows = lines_followed ls old mid said took;
          soon = inr (omega (arith, missing, number), reads);
        },
        e.1,
      )

  -- ---- the lines of a source were fed to what shows such a state
  module _ {M : Type 0} (shown : M → FollowState) (first last : M) (is_started : shown first ≡ started old) where
    abbrev FedBy : Feeding FollowStop → Type 0
    FedBy how = HasFed (λ m line n r. TakesLandingLine (shown m) line (shown n) r) (λ m n r. EndsLandingLines (shown m) (shown n) r) (λ m n. Unit {0}) USUAL_PIECE how first last source source' None None

    took_of : (how : Feeding FollowStop) (f : FedBy how) → TakesLines TakesLandingLine (started old) f.done (shown f.mid) f.said
    took_of how f = subst (λ (s : FollowState). TakesLines TakesLandingLine s f.done (shown f.mid) f.said) is_started (took_shown shown f.done first f.mid f.said f.took)

    -- the lines were taken, and no more
    took_last : (how : Feeding FollowStop) (f : FedBy how) → last ≡ f.mid → TakesLines TakesLandingLine (started old) f.done (shown last) f.said
    took_last how f same = subst (λ (s : FollowState). TakesLines TakesLandingLine (started old) f.done s f.said) (ap shown (sym same)) (took_of how f)

    -- it stopped at a line
    pub fed_stopped : (why : FollowStop) → FedBy (feeding.Stopped why) → text' ≡ text → Came (followed_by_stop why) (shown last)
    fed_stopped why f same = elim f.ended [
      | inl b ↦ absurd b.2
      | inr e ↦ elim e [
        | inl l ↦ stops f.done (shown f.mid) (shown last) f.said (took_of (feeding.Stopped why) f) l.0 same (subst (λ (later : List (List ℕ)). ReadsFew USUAL_PIECE source source' (f.done ++ l.0 ∷ later)) l.2.2 l.3) why l.2.0
        | inr a ↦ absurd a.0.0
      ]
    ]

    -- it reached the end of the input
    pub fed_done : (how : Followed) → FedBy feeding.Done → EndsFollowing how (shown last).reading (shown last).store.versions text text' → Came how (shown last)
    fed_done how f end = elim f.ended [
      | inl b ↦ absurd b.2
      | inr e ↦ elim e [
        | inl l ↦ absurd l.2
        | inr a ↦ ends f.done (shown last) f.said (subst (λ (s : FollowState). TakesLines TakesLandingLine (started old) f.done s f.said) (sym a.0.1.0) (took_of feeding.Done f)) a.1 how end
      ]
    ]

    -- the source failed
    pub fed_read : FedBy feeding.ReadFault → text' ≡ text → Came followed.ReadFault (shown last)
    fed_read f same = elim f.ended [
      | inl b ↦ let took = took_last feeding.ReadFault f b.0 in (f.done, b.2, no_bad_line f.done old (shown last) f.said took, lines_followed f.done old (shown last) f.said took, same)
      | inr e ↦ elim e [
        | inl l ↦ absurd l.2
        | inr a ↦ absurd a.0
      ]
    ]

    -- there was no memory for a line
    pub fed_memory : FedBy feeding.Memory → text' ≡ text → Came followed.Memory (shown last)
    fed_memory f same = elim f.ended [
      | inl b ↦ let took = took_last feeding.Memory f b.0 in (f.done, b.2, no_bad_line f.done old (shown last) f.said took, lines_followed f.done old (shown last) f.said took, same)
      | inr e ↦ elim e [
        | inl l ↦ absurd l.2
        | inr a ↦ absurd a.0
      ]
    ]

    -- however it was fed
    pub fed_so : (fed : Feeding FollowStop) → FedBy fed → (fed ≡ feeding.WriteFault → ⊥) → (how : Followed) → EndsFed fed how (shown last).reading (shown last).store.versions text text' → Came how (shown last)
    fed_so feeding.Done f never how end = fed_done how f end
    fed_so feeding.ReadFault f never how end = subst (λ h. Came h (shown last)) (sym end.0) (fed_read f end.1)
    fed_so feeding.Memory f never how end = subst (λ h. Came h (shown last)) (sym end.0) (fed_memory f end.1)
    fed_so feeding.WriteFault f never how end = absurd (never refl)
    fed_so (feeding.Stopped why) f never how end = subst (λ h. Came h (shown last)) (sym end.0) (fed_stopped why f end.1)

-- a store and its landings are what was shown in the end
pub came_so : (how : Followed) (old e e' : Engine) (es es' : List Entry) (source source' text text' : Option (List ℕ)) → e' ≡ e → es' ≡ es → HasFollowed how old e es source source' text text' → HasFollowed how old e' es' source source' text text'
came_so how old e e' es es' source source' text text' same alike f =
    subst (λ x. HasFollowed how old e' x source source' text text') (sym alike) (subst (λ (x : Engine). HasFollowed how old x es source source' text text') (sym same) f)

-- ---- a whole store
-- landings leave a store whole
in_turn-whole : (es : List Entry) (old new : Engine) → old.broken ≡ false → LandInTurn old es new → new.broken ≡ false
in_turn-whole [] old new whole turn = ap (λ (e : Engine). e.broken) turn ∙ whole
in_turn-whole (e ∷ es) old new whole turn = in_turn-whole es turn.0 new turn.3.1.whole turn.4

-- and so does each end but one by a fault of the disk
pub followed_whole : (how : Followed) (old new : Engine) (es : List Entry) (source source' text text' : Option (List ℕ)) → old.broken ≡ false → HasFollowed how old new es source source' text text' → (how ≡ followed.DiskFault) ⊎ (new.broken ≡ false)
followed_whole followed.Done old new es source source' text text' whole f = inr (in_turn-whole es old new whole f.0.follows.landed)
followed_whole followed.WriteFault old new es source source' text text' whole f = inr (in_turn-whole es old new whole f.0.follows.landed)
followed_whole followed.ReadFault old new es source source' text text' whole f = inr (in_turn-whole es old new whole f.3.landed)
followed_whole followed.Memory old new es source source' text text' whole f = inr (in_turn-whole es old new whole f.3.landed)
followed_whole followed.DiskFault old new es source source' text text' whole f = inl refl
followed_whole (followed.Refused (refused.Line at)) old new es source source' text text' whole f = inr (in_turn-whole es old new whole f.0.follows.landed)
followed_whole (followed.Refused (refused.Block at why)) old new es source source' text text' whole f = inr (in_turn-whole es old new whole f.0.follows.landed)

-- ---- the call
-- a reader, a store and no landings, before the first line
pub starts : (old : Engine) (r : LandingReading) (e : Engine) (es : List Entry) → r ≡ begun_reading → e ≡ old → es ≡ [] → follow_state r e es ≡ started old
starts old r e es is same none = rw (is, same, none) refl

-- a count that stands at 0 has no cause
pub no_cause : HasCause 0 0 → ⊥
no_cause (inl lt) = absurd (omega arith)
no_cause (inr most) = absurd (omega arith)
