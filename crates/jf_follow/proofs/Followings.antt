-- Lines that were taken as landing blocks, and their effect on a store.
use Rattle.std.proofs.Common.{◌≡◌, inl, inr, ℕ, ◌+◌, List, [], ◌∷◌, ◌++◌, length, map, arith, Option, Some, None, refl, ap, sym, ◌∙◌, subst, append_assoc, append-nil}
use Rattle.jf_input.specs.Feeds.{TakesLines}
use Rattle.jf_model.specs.Versions.{versions_after_landing}
use Rattle.jf_model.specs.Entries.{timeless}
use Rattle.jf_model.specs.declared.entries.Entry.{Entry}
use Rattle.jf_engine.specs.Engines.{Engine}
use Rattle.jf_lead.specs.declared.block.LandingBlock.{LandingBlock}
use Rattle.jf_lead.specs.Steps.{LandingReading, reading_after, reading_after_all, ended_block, ended_blocks, with_later, stage_refusal}
use Rattle.jf_follow.specs.declared.judging.Judgement.TheVariants as judged
use Rattle.jf_follow.specs.Following.{dated_entry, judgement, follow}
use Rattle.jf_follow.specs.Takes.{LandsOn}
use Rattle.jf_follow.specs.Streams.{FollowsBlocks}
use Rattle.jf_follow.specs.Lines.{FollowState, KeepsEndedBlock, TakesLandingLine}
use Rattle.jf_follow.proofs.Histories.{after_judgement}
use Rattle.jf_follow.proofs.Places.{IsNextLine, reading_after-next, number_after-good}

-- ---- blocks
-- the blocks without their numbers
abbrev pub unnumbered : List (ℕ × LandingBlock) → List LandingBlock
unnumbered bs = map (λ (b : ℕ × LandingBlock). b.1) bs

pub no_blocks : (e : Engine) → FollowsBlocks e e [] []
unfolding follow
no_blocks e = record { accepted = refl; entries = refl; versions = refl; landed = refl }

-- a block that was there already, and those that follow it
pub block_there : (old new : Engine) (b : LandingBlock) (bs : List LandingBlock) (es : List Entry) → judgement old.versions b ≡ judged.Known → FollowsBlocks old new bs es → FollowsBlocks old new (b ∷ bs) es
unfolding follow
block_there old new b bs es is f = record {
  accepted = ap (λ j. (after_judgement old.versions b bs j).refused) is ∙ f.accepted;
  entries = f.entries ∙ ap (λ j. (after_judgement old.versions b bs j).entries) (sym is);
  versions = f.versions ∙ ap (λ j. (after_judgement old.versions b bs j).versions) (sym is);
  landed = f.landed;
}

-- a block that landed, and those that follow it
pub block_lands : (old mid new : Engine) (b : LandingBlock) (bs : List LandingBlock) (es : List Entry) → LandsOn b old mid → FollowsBlocks mid new bs es → FollowsBlocks old new (b ∷ bs) (dated_entry b mid.moment ∷ es)
unfolding follow
block_lands old mid new b bs es one f = record {
  accepted = ap (λ j. (after_judgement old.versions b bs j).refused) one.0 ∙ ap (λ v. (follow v bs).refused) (sym one.1.versions_are) ∙ f.accepted;
  entries = ap (λ xs. timeless (dated_entry b mid.moment) ∷ xs) (f.entries ∙ ap (λ v. (follow v bs).entries) one.1.versions_are) ∙ ap (λ j. (after_judgement old.versions b bs j).entries) (sym one.0);
  versions = f.versions ∙ ap (λ v. (follow v bs).versions) one.1.versions_are ∙ ap (λ j. (after_judgement old.versions b bs j).versions) (sym one.0);
  landed = (mid, b, refl, one, f.landed);
}

-- ---- lines
-- the effect of lines on a state: these landings more, by these blocks
pub record Made (s next : FollowState) (bs : List LandingBlock) : Type 0 where
  pub more : List Entry
  pub entries : next.entries ≡ s.entries ++ more
  pub follows : FollowsBlocks s.store next.store bs more

-- the block that ended with a line, if one did, in front of later ones
made_after : (s mid next : FollowState) (o : Option (ℕ × LandingBlock)) (bs : List (ℕ × LandingBlock)) → KeepsEndedBlock o s mid → Made mid next (unnumbered bs) → Made s next (unnumbered (with_later o bs))
made_after s mid next None bs taken m = record {
  more = m.more;
  entries = m.entries ∙ ap (λ es. es ++ m.more) taken.1;
  follows = subst (λ (e : Engine). FollowsBlocks e next.store (unnumbered bs) m.more) taken.0 m.follows;
}
made_after s mid next (Some b) bs (inl there) m = record {
  more = m.more;
  entries = m.entries ∙ ap (λ es. es ++ m.more) there.2;
  follows = block_there s.store next.store b.1 (unnumbered bs) m.more there.0 (subst (λ (e : Engine). FollowsBlocks e next.store (unnumbered bs) m.more) there.1 m.follows);
}
made_after s mid next (Some b) bs (inr landed) m = record {
  more = dated_entry b.1 mid.store.moment ∷ m.more;
  entries = m.entries ∙ ap (λ es. es ++ m.more) landed.1 ∙ append_assoc s.entries (dated_entry b.1 mid.store.moment ∷ []) m.more;
  follows = block_lands s.store mid.store next.store b.1 (unnumbered bs) m.more landed.0 m.follows;
}

pub made : (ls : List (List ℕ)) (s next : FollowState) (text : List ℕ) → TakesLines TakesLandingLine s ls next text → Made s next (unnumbered (ended_blocks s.reading ls))
unfolding ended_blocks
made [] s next text took = record {
  more = [];
  entries = ap (λ (x : FollowState). x.entries) took.0 ∙ sym (append-nil s.entries);
  follows = subst (λ (e : Engine). FollowsBlocks s.store e [] []) (ap (λ (x : FollowState). x.store) (sym took.0)) (no_blocks s.store);
}
made (line ∷ ls) s next text took =
    let mid : FollowState = took.0 in
    let later = made ls mid next took.2 took.4 in
    made_after s mid next (ended_block s.reading line) (ended_blocks (reading_after s.reading line) ls) took.3.2
    (subst (λ (r : LandingReading). Made mid next (unnumbered (ended_blocks r ls))) took.3.1.0 later)

-- how far the blocks are read after them
pub took_reading : (ls : List (List ℕ)) (s next : FollowState) (text : List ℕ) → TakesLines TakesLandingLine s ls next text → next.reading ≡ reading_after_all s.reading ls
unfolding reading_after_all
took_reading [] s next text took = ap (λ (x : FollowState). x.reading) took.0
took_reading (line ∷ ls) s next text took = took_reading ls took.0 next took.2 took.4 ∙ ap (λ r. reading_after_all r ls) took.3.1.0

-- and none of the lines is refused
pub took_good : (ls : List (List ℕ)) (s next : FollowState) (text : List ℕ) → stage_refusal s.reading.stage ≡ None → TakesLines TakesLandingLine s ls next text → stage_refusal next.reading.stage ≡ None
took_good [] s next text good took = ap (λ (x : FollowState). stage_refusal x.reading.stage) took.0 ∙ good
took_good (line ∷ ls) s next text good took = took_good ls took.0 next took.2 took.3.1.1 took.4

-- and the number of the next one is one more for each
pub took_number : (ls : List (List ℕ)) (s next : FollowState) (text : List ℕ) → stage_refusal s.reading.stage ≡ None → TakesLines TakesLandingLine s ls next text → next.reading.at ≡ s.reading.at + length ls
took_number [] s next text good took = let e : s.reading.at ≡ s.reading.at + 0 = omega arith in ap (λ (x : FollowState). x.reading.at) took.0 ∙ e
took_number (line ∷ ls) s next text good took =
    let mid : FollowState = took.0 in
    let one : mid.reading.at ≡ s.reading.at + 1 = ap (λ (r : LandingReading). r.at) took.3.1.0 ∙ number_after-good s.reading.at s.reading.stage good in
    let later = took_number ls mid next took.2 took.3.1.1 took.4 in
    omega (arith, one, later)

-- of a block that has started there is a line for each change
pub took_next : (ls : List (List ℕ)) (s next : FollowState) (text : List ℕ) → IsNextLine s.reading.at s.reading.stage → TakesLines TakesLandingLine s ls next text → IsNextLine next.reading.at next.reading.stage
took_next [] s next text h took = subst (λ (r : LandingReading). IsNextLine r.at r.stage) (ap (λ (x : FollowState). x.reading) (sym took.0)) h
took_next (line ∷ ls) s next text h took =
    took_next ls took.0 next took.2 (subst (λ (r : LandingReading). IsNextLine r.at r.stage) (sym took.3.1.0) (reading_after-next s.reading line h)) took.4

-- nothing is written before the end
pub took_nothing : (ls : List (List ℕ)) (s next : FollowState) (text : List ℕ) → TakesLines TakesLandingLine s ls next text → text ≡ []
took_nothing [] s next text took = took.1
took_nothing (line ∷ ls) s next text took = took.5 ∙ ap (λ t. t ++ took.2) took.3.0 ∙ took_nothing ls took.0 next took.2 took.4

-- the same of what shows a state
pub took_shown : {M : Type 0} (shown : M → FollowState) (ls : List (List ℕ)) (s next : M) (text : List ℕ) → TakesLines (λ m line n r. TakesLandingLine (shown m) line (shown n) r) s ls next text → TakesLines TakesLandingLine (shown s) ls (shown next) text
took_shown shown [] s next text took = (ap shown took.0, took.1)
took_shown shown (line ∷ ls) s next text took = (shown took.0, took.1, took.2, took.3, took_shown shown ls took.0 next took.2 took.4, took.5)
