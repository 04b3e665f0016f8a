-- What the landings of a follower keep: the images that a crash may leave, by the laws on the steps of a store.
use Rattle.std.proofs.Common.{◌≡◌, ◌≤◌, ◌<◌, ◌^◌, ◌+◌, ◌*◌, ℕ, List, [], ◌∷◌, ◌++◌, length, Option, None, Some, false, refl, sym, ap, ◌∙◌, subst, append-nil, append_assoc, arith, le_refl}
use Rattle.std.specs.Prelude.{IfSome}
use Rattle.std.specs.List.{AllByRecursion}
use Rattle.jf_disk.specs.Disk.{History}
use Rattle.jf_disk.specs.Moments.{ExtendsHistory}
use Rattle.jf_disk.proofs.MomentLaws.{extends_further, same_extends}
use Rattle.jf_hash.specs.Maps.{IsBatch}
use Rattle.jf_model.specs.Versions.{Versions, IsVersions}
use Rattle.jf_model.specs.States.{State, IsState, state_when_opened}
use Rattle.jf_model.specs.Entries.{after, replay, AreLegal, IsLegal}
use Rattle.jf_model.specs.declared.entries.Entry.{Entry}
use Rattle.jf_model.specs.declared.entries.Landing.TheVariants as landing
use Rattle.jf_model.proofs.EntryLaws.{after-IsState, replay-count, replay-push, replay-IsState}
use Rattle.jf_model.proofs.StateLaws.{opened-IsState, versions-opened}
use Rattle.jf_files.specs.Steps.{Lands}
use Rattle.jf_engine.specs.Engines.{Engine, IsSettledOn}
use Rattle.jf_engine.specs.EngineSteps.{IsDatedEngine}
use Rattle.jf_store.specs.Starts.{Start}
use Rattle.jf_store.specs.Images.{IsDatedAt}
use Rattle.jf_store.specs.Kept.{IsKept}
use Rattle.jf_store.proofs.EntrySteps.{IsStepOf, IsStepOf-landed}
use Rattle.jf_store.proofs.EntryTimes.{OutlastsEach-none}
use Rattle.jf_store.proofs.Keeping.{IsKept-step, IsKept-stop, HasStepped-grows, HasStopped-grows}
use Rattle.jf_lead.specs.declared.block.LandingBlock.{LandingBlock}
use Rattle.jf_follow.specs.declared.judging.Judgement.TheVariants as judged
use Rattle.jf_follow.specs.Following.{dated_entry, follow, judgement}
use Rattle.jf_follow.specs.Streams.{LandInTurn, FollowsBlocks}
use Rattle.jf_follow.specs.Takes.{BreaksAt}
use Rattle.jf_follow.specs.Laws.{FollowedIsHistory, FollowingIsLegal}
use Rattle.jf_follow.proofs.Histories.{after_judgement}
use Rattle.jf_run.proofs.RunsLaws.{beginning, none_outlasted}

-- ---- landings in turn
-- the landing of a block is a step of the files
step_of : (b : LandingBlock) (moment : ℕ) (s : State) → IsState s → IsStepOf (Lands (b.batch ∷ [])) (dated_entry b moment) s
step_of b moment s sound = IsStepOf-landed 0 b.version moment (landing.Direct b.batch) b.root s sound

-- they keep what the store kept before them
pub kept_in_turn : (fs es : List Entry) (start : Start) (old new : Engine) → IsKept start es None old → IsState (replay start.state es) → AreLegal (replay start.state es) fs → LandInTurn old fs new → IsKept start (es ++ fs) None new
kept_in_turn [] es start old new kept sound legal same =
    subst (λ (xs : List Entry). IsKept start xs None new) (sym (append-nil es)) (subst (λ (e : Engine). IsKept start es None e) (sym same) kept)
kept_in_turn (f ∷ fs) es start old new kept sound legal turn =
    let mid : Engine = turn.0 in
    let b : LandingBlock = turn.1 in
    let s = replay start.state es in
    let is : IsStepOf (Lands (b.batch ∷ [])) f s = subst (λ (x : Entry). IsStepOf (Lands (b.batch ∷ [])) x s) (sym turn.2) (step_of b mid.moment s sound) in
    let step = IsKept-step start es f old kept (Lands (b.batch ∷ [])) mid is (subst (λ (x : Entry). IsDatedAt mid.moment x) (sym turn.2) (refl, tt)) turn.3.1 in
    let next : after f s ≡ replay start.state (es ++ f ∷ []) = sym (replay-push start.state es f) in
    subst (λ (xs : List Entry). IsKept start xs None new) (append_assoc es (f ∷ []) fs)
    (kept_in_turn fs (es ++ f ∷ []) start mid new step (subst (λ (x : State). IsState x) next (after-IsState s f sound legal.0)) (subst (λ (x : State). AreLegal x fs) next legal.1) turn.4)

-- they extend the history of the disk
pub grown_in_turn : (fs : List Entry) (old new : Engine) → LandInTurn old fs new → (h : History) → old.history ≡ Some h → (g : History) × (new.history ≡ Some g) × ExtendsHistory h g
grown_in_turn [] old new same h told = (h, ap (λ (e : Engine). e.history) same ∙ told, same_extends h)
grown_in_turn (f ∷ fs) old new turn h told =
    let mid : Engine = turn.0 in
    let one = HasStepped-grows (Lands (turn.1.batch ∷ [])) old mid turn.3.1 h told in
    let more = grown_in_turn fs mid new turn.4 one.0 one.1 in
    (more.0, more.1, extends_further h one.0 more.0 one.2 more.2)

-- each takes four calls of the disk
pub moments_in_turn : (fs : List Entry) (old new : Engine) → LandInTurn old fs new → old.moment + 4 * length fs ≤ new.moment
moments_in_turn [] old new same = let here = ap (λ (e : Engine). e.moment) same in omega (arith, here)
moments_in_turn (f ∷ fs) old new turn =
    let mid : Engine = turn.0 in
    let one = turn.3.1.least in
    let more = moments_in_turn fs mid new turn.4 in
    omega (arith, one, more)

-- ---- blocks that were followed
-- a store that was opened, whose disk is settled on its versions
pub record IsSettledEngine (e : Engine) : Type 0 where
  pub sound : IsVersions e.versions
  pub dated : IsDatedEngine e
  pub settled : (h : History) → e.history ≡ Some h → IsSettledOn h e.versions e.generation
  pub whole : e.broken ≡ false

-- it keeps no entries
begun_kept : (e : Engine) → IsSettledEngine e → IsKept (beginning e) [] None e
unfolding replay
begun_kept e fresh = record {
  sound = opened-IsState e.versions e.generation fresh.sound;
  versions_are = sym (versions-opened e.versions e.generation fresh.sound);
  generation_is = refl;
  dated = le_refl e.moment;
  moment = le_refl e.moment;
  faults = le_refl e.faults;
  calm = λ untried. refl;
  broken = fresh.whole;
  cause = λ some. absurd (cc);
  outlasts = λ h told. none_outlasted e h fresh.sound (fresh.dated h told) (fresh.settled h told);
  each = λ h told. OutlastsEach-none (beginning e) h (fresh.dated h told) (none_outlasted e h fresh.sound (fresh.dated h told) (fresh.settled h told));
  idle = λ untried none. refl;
}

-- the result of entries and an attempt over such a store
pub record KeepsLandings (old new : Engine) (es : List Entry) (attempt : Option Entry) : Type 0 where
  pub legal : AreLegal (state_when_opened old.versions old.generation) es
  pub tried : IfSome attempt (IsLegal (replay (state_when_opened old.versions old.generation) es))
  pub leads : new.versions ≡ (replay (state_when_opened old.versions old.generation) es).all
  pub kept : IsKept (beginning old) es attempt new
  pub grows : (h : History) → old.history ≡ Some h → (g : History) × (new.history ≡ Some g) × ExtendsHistory h g

-- a block alone that is the next version is landed
followed_alone : (v : Versions) (b : LandingBlock) → judgement v b ≡ judged.Next → (follow v (b ∷ [])).entries ≡ dated_entry b 0 ∷ []
unfolding follow
followed_alone v b next = ap (λ j. (after_judgement v b [] j).entries) next

module _ (old : Engine) (fresh : IsSettledEngine old) (history : FollowedIsHistory) where
  abbrev s : State
  s = state_when_opened old.versions old.generation

  -- blocks that were followed
  pub followed_keep : (bs : List LandingBlock) (es : List Entry) (new : Engine) → FollowsBlocks old new bs es → AllByRecursion (λ (b : LandingBlock). IsBatch b.batch) bs → new.moment < 2 ^ 64 → KeepsLandings old new es None
  unfolding replay
  followed_keep bs es new follows sound early =
      let long = moments_in_turn es old new follows.landed in
      let past = history s old new bs es follows refl sound (omega (arith, long, early)) in
      record {
        legal = past.0.each;
        tried = tt;
        leads = sym past.1;
        kept = kept_in_turn es [] (beginning old) old new (begun_kept old fresh) (opened-IsState old.versions old.generation fresh.sound) past.0.each follows.landed;
        grows = grown_in_turn es old new follows.landed;
      }

  -- blocks that were followed before the disk failed in the landing of one more
  module _ (block : LandingBlock) (mid new : Engine) (breaks : BreaksAt block mid new) where
    abbrev reached : List Entry → State
    reached es = replay s es

    -- one more landing would have been legal
    next_legal : FollowingIsLegal → (es : List Entry) → length es < 2 ^ 62 → mid.versions ≡ (reached es).all → IsBatch block.batch → IsLegal (reached es) (dated_entry block 0)
    next_legal legal es few leads batch =
        let next : judgement (reached es).all block ≡ judged.Next = ap (λ (v : Versions). judgement v block) (sym leads) ∙ breaks.0 in
        let one = followed_alone (reached es).all block next in
        let count : (reached es).count ≡ 0 + length es = replay-count s es in
        (subst (λ (xs : List Entry). AreLegal (reached es) xs) one (legal (reached es) (block ∷ []) (batch, tt) (omega (arith, few, count, ap (λ (xs : List Entry). length xs) one)))).0

    pub stopped_keep : FollowingIsLegal → (bs : List LandingBlock) (es : List Entry) → FollowsBlocks old mid bs es → AllByRecursion (λ (b : LandingBlock). IsBatch b.batch) bs → IsBatch block.batch → new.moment < 2 ^ 64 → KeepsLandings old new es (Some (dated_entry block 0))
    stopped_keep legal bs es follows sound batch early =
        let stop = breaks.1 in
        let long = moments_in_turn es old mid follows.landed in
        let k = followed_keep bs es mid follows sound (omega (arith, early, stop.later)) in
        let here : IsState (reached es) = replay-IsState s es (opened-IsState old.versions old.generation fresh.sound) k.legal in
        record {
          legal = k.legal;
          tried = next_legal legal es (omega (arith, long, early, stop.later)) k.leads batch;
          leads = stop.versions_are ∙ k.leads;
          kept = IsKept-stop (beginning old) es (dated_entry block 0) mid k.kept (Lands (block.batch ∷ [])) new (step_of block 0 (reached es) here) stop;
          grows = λ h told.
              let before = k.grows h told in
              let after = HasStopped-grows (Lands (block.batch ∷ [])) mid new stop before.0 before.1 in
              (after.0, after.1, extends_further h before.0 after.0 before.2 after.2);
        }
