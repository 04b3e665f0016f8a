-- How an input is followed is decided by the input.
use Rattle.std.proofs.Common.{◌≡◌, inl, inr, ℕ, ◌+◌, ◌==◌, false, cond, arith, List, [], ◌∷◌, ◌++◌, length, Option, option_map, Some, None, refl, ap, ap₂, sym, ◌∙◌, drop, get_or, append_assoc, append-nil}
use Rattle.std.specs.Prelude.{slice_get}
use Rattle.std.proofs.lemmas.Bool.Decides.{nat_tests}
use Rattle.jf_io.specs.Lines.{lines}
use Rattle.jf_model.specs.Versions.{Versions, versions_after_landing}
use Rattle.jf_model.specs.declared.entries.Entry.{Entry}
use Rattle.jf_engine.specs.Engines.{Engine}
use Rattle.jf_lead.specs.declared.block.LandingBlock.{LandingBlock}
use Rattle.jf_lead.specs.Reading.{LandingBlocks, landing_blocks}
use Rattle.jf_lead.specs.Steps.{begun_reading, reading_after_all, ended_blocks, decided_refusal}
use Rattle.jf_lead.specs.declared.fault.LandingFault.TheVariants as landing_fault
use Rattle.jf_lead.proofs.LineByLine.{landing_blocks-lines}
use Rattle.jf_lead.proofs.Deciding.{ended_blocks-append, landing_blocks-append, stage_refusal-decided}
use Rattle.jf_follow.specs.declared.judging.Judgement.{Judgement}
use Rattle.jf_follow.specs.declared.judging.Judgement.TheVariants as judged
use Rattle.jf_follow.specs.Following.{judgement, follow}
use Rattle.jf_follow.specs.Laws.{refusal_over, refusal_of_lines, InputsDecide}
use Rattle.jf_follow.specs.Streams.{FollowsInput, ReadsToBadLine, EndsAtBadLine, EndsAtRefusedBlock}
use Rattle.jf_follow.specs.declared.fault.FollowFault.{FollowFault}
use Rattle.jf_follow.specs.declared.followed.Followed.TheVariants as followed
use Rattle.jf_follow.specs.declared.followed.FollowRefused.{FollowRefused}
use Rattle.jf_follow.specs.declared.followed.FollowRefused.TheVariants as refused
use Rattle.jf_follow.proofs.Histories.{after_judgement}
use Rattle.jf_follow.proofs.Followings.{unnumbered}

-- ---- blocks that are accepted
-- what is refused after a block that is judged so
abbrev refused_after : Versions → ℕ × LandingBlock → List (ℕ × LandingBlock) → Option ℕ → Judgement → Option FollowRefused
refused_after v b bs bad j =
    elim j as (λ x. Option FollowRefused) [
      | judged.Known ↦ refusal_over v bs bad
      | judged.Next ↦ refusal_over (versions_after_landing b.1.batch v) bs bad
      | judged.Refused why ↦ Some (refused.Block b.0 why)
    ]

module _ (b : ℕ × LandingBlock) (bs rest : List (ℕ × LandingBlock)) (bad : Option ℕ) (others : (v : Versions) → (follow v (unnumbered bs)).refused ≡ None → refusal_over v (bs ++ rest) bad ≡ refusal_over (follow v (unnumbered bs)).versions rest bad) where
  past_by : (v : Versions) (j : Judgement) → (after_judgement v b.1 (unnumbered bs) j).refused ≡ None → refused_after v b (bs ++ rest) bad j ≡ refusal_over (after_judgement v b.1 (unnumbered bs) j).versions rest bad
  past_by v judged.Known none = others v none
  past_by v judged.Next none = others (versions_after_landing b.1.batch v) none
  past_by v (judged.Refused why) none = absurd (cc)

-- blocks that are accepted are passed by
past : (bs rest : List (ℕ × LandingBlock)) (bad : Option ℕ) (v : Versions) → (follow v (unnumbered bs)).refused ≡ None → refusal_over v (bs ++ rest) bad ≡ refusal_over (follow v (unnumbered bs)).versions rest bad
unfolding follow refusal_over
past [] rest bad v none = refl
past (b ∷ bs) rest bad v none = past_by b bs rest bad (λ w h. past bs rest bad w h) v (judgement v b.1) none

-- all of them
all_past : (bs : List (ℕ × LandingBlock)) (bad : Option ℕ) (v : Versions) → (follow v (unnumbered bs)).refused ≡ None → refusal_over v bs bad ≡ option_map (λ at. refused.Line at) bad
unfolding refusal_over
all_past bs bad v none = ap (λ xs. refusal_over v xs bad) (sym (append-nil bs)) ∙ past bs [] bad v none

-- ---- the block that is refused
-- numbered blocks whose last one is this
record EndsIn (bs : List (ℕ × LandingBlock)) (before : List LandingBlock) (b : ℕ × LandingBlock) : Type 0 where
  first : List (ℕ × LandingBlock)
  parts : bs ≡ first ++ b ∷ []
  same : unnumbered first ≡ before

same_last : (x b : ℕ × LandingBlock) (bs : List (ℕ × LandingBlock)) → unnumbered bs ≡ [] → Some x ≡ Some b → (x ∷ bs) ≡ b ∷ []
same_last x b [] none e = let same : x ≡ b = cc in ap (λ y. y ∷ []) same
same_last x b (y ∷ bs) none e = absurd (cc)

ends_in : (before : List LandingBlock) (bs : List (ℕ × LandingBlock)) (at : ℕ) (block : LandingBlock) → unnumbered bs ≡ before ++ block ∷ [] → slice_get bs (length before) ≡ Some (at, block) → EndsIn bs before (at, block)
ends_in [] [] at block all here = absurd (cc)
ends_in [] (x ∷ bs) at block all here = record { first = []; parts = same_last x (at, block) bs (ap (λ xs. drop 1 xs) all) here; same = refl }
ends_in (y ∷ before) [] at block all here = absurd (cc)
ends_in (y ∷ before) (x ∷ bs) at block all here =
    let r = ends_in before bs at block (ap (λ xs. drop 1 xs) all) here in
    record { first = x ∷ r.first; parts = ap (λ xs. x ∷ xs) r.parts; same = ap₂ (λ z zs. z ∷ zs) (ap (λ xs. get_or xs 0 y) all) r.same }

refused_at : (v : Versions) (b : ℕ × LandingBlock) (rest : List (ℕ × LandingBlock)) (bad : Option ℕ) (why : FollowFault) → judgement v b.1 ≡ judged.Refused why → refusal_over v (b ∷ rest) bad ≡ Some (refused.Block b.0 why)
unfolding refusal_over
refused_at v b rest bad why is = ap (refused_after v b rest bad) is

-- ---- how it ended
-- a line among the first n is decided by them
is_decided : (at n : ℕ) → n ≡ at → decided_refusal n (Some at) ≡ Some (landing_fault.Line at)
is_decided at n h = let no : (at == n + 1) ≡ false = grind (arith, nat_tests) in ap (λ t. cond t None (Some (landing_fault.Line at))) no

module _ (old new : Engine) (es : List Entry) (input : List ℕ) (rest' text text' : Option (List ℕ)) where
  -- to the end, without a bad line
  decided_whole : FollowsInput old new es (Some input) rest' → refusal_of_lines old.versions (lines input) ≡ None
  decided_whole f =
      ap (refusal_of_lines old.versions) (f.read input refl).1
      ∙ all_past (landing_blocks f.ls).whole (landing_blocks f.ls).bad old.versions f.follows.accepted
      ∙ ap (option_map (λ at. refused.Line at)) f.good

  -- the result of the lines up to the bad one is the result of the input
  bad_input : (at : ℕ) (ls : List (List ℕ)) → (landing_blocks ls).bad ≡ Some at → ReadsToBadLine at ls (Some input) rest' → landing_blocks (lines input) ≡ landing_blocks ls
  bad_input at ls bad (inl soon) =
      let behind = (soon.1 input refl).2.read in
      ap landing_blocks behind.lines_are
      ∙ landing_blocks-append ls behind.behind at (stage_refusal-decided ls ∙ ap (decided_refusal (length ls)) bad ∙ is_decided at (length ls) soon.0)
      ∙ ap (λ o. record { whole = (landing_blocks ls).whole; bad = o }) (sym bad)
  bad_input at ls bad (inr soon) = ap landing_blocks (soon.1 input refl).1

  decided_line : (at : ℕ) → EndsAtBadLine old new es (Some input) rest' at → refusal_of_lines old.versions (lines input) ≡ Some (refused.Line at)
  decided_line at r =
      ap (λ (x : LandingBlocks). refusal_over old.versions x.whole x.bad) (bad_input at r.ls r.bad r.soon)
      ∙ all_past (landing_blocks r.ls).whole (landing_blocks r.ls).bad old.versions r.follows.accepted
      ∙ ap (option_map (λ n. refused.Line n)) r.bad

  -- the blocks of the lines that were read are the first of the input
  front : (ls behind : List (List ℕ)) → (landing_blocks (ls ++ behind)).whole ≡ (landing_blocks ls).whole ++ ended_blocks (reading_after_all begun_reading ls) behind
  front ls behind =
      ap (λ (x : LandingBlocks). x.whole) (landing_blocks-lines (ls ++ behind))
      ∙ ended_blocks-append begun_reading ls behind
      ∙ ap (λ bs. bs ++ ended_blocks (reading_after_all begun_reading ls) behind) (ap (λ (x : LandingBlocks). x.whole) (sym (landing_blocks-lines ls)))

  decided_block : (at : ℕ) (why : FollowFault) → EndsAtRefusedBlock old new es (Some input) rest' at why → refusal_of_lines old.versions (lines input) ≡ Some (refused.Block at why)
  decided_block at why r =
      let read = (r.read.soon input refl).2.read in
      let more : List (ℕ × LandingBlock) = ended_blocks (reading_after_all begun_reading r.ls) read.behind in
      let bad : Option ℕ = (landing_blocks (r.ls ++ read.behind)).bad in
      let e = ends_in r.before (landing_blocks r.ls).whole at r.block r.read.whole r.read.numbered in
      let accepted : (follow old.versions (unnumbered e.first)).refused ≡ None = ap (λ bs. (follow old.versions bs).refused) e.same ∙ r.follows.accepted in
      let came : (follow old.versions (unnumbered e.first)).versions ≡ new.versions = ap (λ bs. (follow old.versions bs).versions) e.same ∙ sym r.follows.versions in
      ap (refusal_of_lines old.versions) read.lines_are
      ∙ ap (λ bs. refusal_over old.versions bs bad) (front r.ls read.behind ∙ ap (λ bs. bs ++ more) e.parts ∙ append_assoc e.first ((at, r.block) ∷ []) more)
      ∙ past e.first ((at, r.block) ∷ more) bad old.versions accepted
      ∙ ap (λ v. refusal_over v ((at, r.block) ∷ more) bad) came
      ∙ refused_at new.versions (at, r.block) more bad why r.refused

pub inputs-decide : InputsDecide
inputs-decide followed.Done old new es input rest' text text' f = decided_whole old new es input rest' text text' f.0
inputs-decide followed.WriteFault old new es input rest' text text' f = decided_whole old new es input rest' text text' f.0
inputs-decide (followed.Refused (refused.Line at)) old new es input rest' text text' f = decided_line old new es input rest' text text' at f.0
inputs-decide (followed.Refused (refused.Block at why)) old new es input rest' text text' f = decided_block old new es input rest' text text' at why f.0
inputs-decide followed.ReadFault old new es input rest' text text' f = tt
inputs-decide followed.DiskFault old new es input rest' text text' f = tt
inputs-decide followed.Memory old new es input rest' text text' f = tt
