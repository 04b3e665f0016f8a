-- A line that was done, as a machine's clauses say it.
use Rattle.std.proofs.Common.{◌≡◌, ◌∙◌, ◌⊎◌, inl, inr, ℕ, List, [], ◌++◌, append-nil, Some, None, Result, Ok, Err, false, refl, ap, sym, subst}
use Rattle.std.specs.Prelude.{OnOk, IfErr}
use denote.Ref.{Bor, MutBor}
use Rattle.jf_input.specs.Feeds.{front_of_line}
use Rattle.jf_input.proofs.Given.{given_alike}
use Rattle.jf_model.specs.declared.entries.Entry.{Entry}
use Rattle.jf_engine.specs.Engines.{Engine}
use Rattle.jf_lead.specs.declared.block.LandingBlock.{LandingBlock}
use Rattle.jf_lead.specs.declared.fault.LandingFault.TheVariants as landing_fault
use Rattle.jf_lead.specs.Steps.{LandingReading, reading_after, stopped_reading, ended_block, stage_refusal}
use Rattle.jf_lead.proofs.LongLines.{after-long}
use Rattle.jf_follow.specs.declared.followed.FollowRefused.TheVariants as refused
use Rattle.jf_follow.specs.declared.following.FollowStop.{FollowStop}
use Rattle.jf_follow.specs.declared.following.FollowStop.TheVariants as stop
use Rattle.jf_follow.specs.Lines.{FollowState, follow_state, KeepsBlock, DoesBlock, KeepsEndedBlock, TakesLandingLine, DoesLandingLine, MayFollow}

module _ (r : LandingReading) (line whole : List ℕ) (given : line ≡ front_of_line whole) where
  same_reading : reading_after r line ≡ reading_after r whole
  same_reading = ap (reading_after r) given ∙ given_alike (reading_after r) (λ l o h k. (after-long r l o h k).0) whole

  same_block : ended_block r line ≡ ended_block r whole
  same_block = ap (ended_block r) given ∙ given_alike (ended_block r) (λ l o h k. (after-long r l o h k).1) whole

-- the result for what is given of a line is the result for the line
pub takes_whole : (s next : FollowState) (line whole : List ℕ) (r : Result (List ℕ) FollowStop) → line ≡ front_of_line whole → TakesLandingLine s line next r → TakesLandingLine s whole next r
takes_whole s next line whole (Ok text) given t =
    (t.0, (t.1.0 ∙ same_reading s.reading line whole given, t.1.1), subst (λ o. KeepsEndedBlock o s next) (same_block s.reading line whole given) t.2)
takes_whole s next line whole (Err (stop.Refused (refused.Line at))) given t = (t.0 ∙ same_reading s.reading line whole given, t.1, t.2)
takes_whole s next line whole (Err (stop.Refused (refused.Block at why))) given t =
    (t.0, (t.1.0 ∙ same_reading s.reading line whole given, t.1.1), sym (same_block s.reading line whole given) ∙ t.2, t.3, t.4)
takes_whole s next line whole (Err stop.DiskFault) given t =
    (t.0, t.1, (t.2.0 ∙ same_reading s.reading line whole given, t.2.1), sym (same_block s.reading line whole given) ∙ t.3, t.4, t.5)
takes_whole s next line whole (Err stop.Memory) given t = t

pub took_ok : (s next : FollowState) (line out : List ℕ) (r : Result (Unit {0}) FollowStop) → DoesLandingLine s line r next
    → OnOk r ((t : List ℕ) × (out ≡ out ++ t) × ((whole : List ℕ) → line ≡ front_of_line whole → TakesLandingLine s whole next (Ok t)))
took_ok s next line out (Ok u) did = ([], sym (append-nil out), λ whole given. takes_whole s next line whole (Ok []) given did.0)
took_ok s next line out (Err why) did = tt

pub took_err : (s next : FollowState) (line whole : List ℕ) (r : Result (Unit {0}) FollowStop) → line ≡ front_of_line whole → DoesLandingLine s line r next → IfErr r (λ why. TakesLandingLine s whole next (Err why))
took_err s next line whole (Ok u) given did = tt
took_err s next line whole (Err why) given did = takes_whole s next line whole (Err why) given did.0

pub took_ready : {T : Type 0} (shown : T → FollowState) (s next : T) (pre : MutBor T → Bor (List ℕ) → Type 0) (post : MutBor T → Bor (List ℕ) → Result (Unit {0}) FollowStop → MutBor T → Type 0) (line : List ℕ) (r : Result (Unit {0}) FollowStop)
    → MayFollow shown s pre post → DoesLandingLine (shown s) line r (shown next) → OnOk r (MayFollow shown next pre post)
took_ready shown s next pre post line (Ok u) may did = record { whole = did.1 refl; steps = may.steps }
took_ready shown s next pre post line (Err why) may did = tt

-- ---- a line that was read
module _ (r r' : LandingReading) (line : List ℕ) (old new : Engine) (es es' : List Entry) (whole : old.broken ≡ false) where
  still_whole : (b : LandingBlock) → KeepsBlock b old new es es' → new.broken ≡ false
  still_whole b (inl there) = ap (λ (e : Engine). e.broken) there.1 ∙ whole
  still_whole b (inr landed) = landed.0.1.whole

  -- a block ended with it
  pub line_block : (b : ℕ × LandingBlock) (did : Result (Unit {0}) FollowStop) → Some b ≡ ended_block r line → r' ≡ reading_after r line → stage_refusal r'.stage ≡ None → DoesBlock b old new es es' did → DoesLandingLine (follow_state r old es) line did (follow_state r' new es')
  line_block b (Ok u) some is none d =
      ((refl, (is, none), subst (λ o. KeepsEndedBlock o (follow_state r old es) (follow_state r' new es')) some d), λ done. still_whole b.1 d)
  line_block b (Err (stop.Refused (refused.Line at))) some is none d = absurd d
  line_block b (Err (stop.Refused (refused.Block at why))) some is none d =
      ((b.1, (is, none), sym some ∙ ap (λ n. Some (n, b.1)) (sym d.0), d.1, (d.2, d.3)), λ done. absurd (cc))
  line_block b (Err stop.DiskFault) some is none d = ((b.0, b.1, (is, none), sym some, d.0, d.1), λ done. absurd (cc))
  line_block b (Err stop.Memory) some is none d = ((d.0, d.1), λ done. absurd (cc))

-- no block ended with it
pub line_none : (r r' : LandingReading) (line : List ℕ) (e : Engine) (es : List Entry) → e.broken ≡ false → None ≡ ended_block r line → r' ≡ reading_after r line → stage_refusal r'.stage ≡ None → DoesLandingLine (follow_state r e es) line (Ok tt) (follow_state r' e es)
line_none r r' line e es whole none is fine = ((refl, (is, fine), subst (λ o. KeepsEndedBlock o (follow_state r e es) (follow_state r' e es)) none (refl, refl)), λ done. whole)

-- it was refused
pub line_refused : (r r' : LandingReading) (line : List ℕ) (e : Engine) (es : List Entry) (at : ℕ) → stage_refusal r'.stage ≡ Some (landing_fault.Line at) → ((r' ≡ reading_after r line) ⊎ ((stage_refusal r.stage ≡ None) × (r' ≡ stopped_reading r)))
    → DoesLandingLine (follow_state r e es) line (Err (stop.Refused (refused.Line at))) (follow_state r' e es)
line_refused r r' line e es at why (inl is) = ((is, why, (refl, refl)), λ done. absurd (cc))
line_refused r r' line e es at why (inr stopped) =
    let e : Some landing_fault.Memory ≡ Some (landing_fault.Line at) = ap (λ (x : LandingReading). stage_refusal x.stage) (sym stopped.1) ∙ why in absurd (cc)

-- memory ran out
pub line_memory : (r r' : LandingReading) (line : List ℕ) (e : Engine) (es : List Entry) → DoesLandingLine (follow_state r e es) line (Err stop.Memory) (follow_state r' e es)
line_memory r r' line e es = ((refl, refl), λ done. absurd (cc))
