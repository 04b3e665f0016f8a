-- The results of the calls of a pass that land, each for its command, with what is written of it.
use Rattle.std.proofs.Common.{◌≡◌, ◌∙◌, ℕ, Bool, false, List, [], ◌∷◌, ◌++◌, refl, sym, ap, subst, append-nil}
use Rattle.std.specs.Prelude.{Result, OnOk, IfErr}
use Rattle.std.specs.List.{AllByRecursion}
use Rattle.jf_hash.specs.Maps.{Batch}
use Rattle.jf_model.specs.States.{IsState}
use Rattle.jf_model.specs.declared.entries.Landing.TheVariants as landing
use Rattle.jf_lead.specs.declared.block.LandingBlock.{LandingBlock}
use Rattle.jf_lead.specs.Landings.{landing_text, landings_text}
use Rattle.jf_lead.specs.Laws.{IsLandingBlock}
use Rattle.jf_engine.specs.declared.landed.Landed.{Landed}
use Rattle.jf_store.specs.declared.fault.StoreFault.{StoreFault}
use Rattle.jf_store.specs.declared.landed_chain.LandedChain.{LandedChain}
use Rattle.jf_store.specs.Events.{landing_entry}
use Rattle.jf_store.specs.Landings.{HasLandedChain}
use Rattle.jf_store.specs.Starts.{Start}
use Rattle.jf_store.specs.Ledgers.{AreEvents, state_after_events}
use Rattle.jf_store.specs.Passes.{Pass, HasLanded}
use Rattle.jf_script.specs.declared.command.Command.{Command}
use Rattle.jf_script.specs.declared.command.Command.TheVariants as command
use Rattle.jf_script.specs.declared.command.Change.TheVariants as change
use Rattle.jf_script.specs.declared.reply.Reply.{Reply}
use Rattle.jf_answers.specs.OwnLines.{is_own_command}
use Rattle.jf_history.specs.Sessions.{Session}
use Rattle.jf_session.specs.declared.stop.Stop.{Stop}
use Rattle.jf_session.specs.declared.stop.Stop.TheVariants as stop
use Rattle.jf_session.specs.Refusing.{TellsFault}
use Rattle.jf_session.specs.Steps.{session_of}
use Rattle.jf_session.specs.Leading.{HasLandedMore}
use Rattle.jf_session.specs.Telling.{chain_blocks, HasLandedPending, LandsNothing, without_reply, IsLedAs}
use Rattle.jf_session.proofs.Entering.{IsObeyed-entered}
use Rattle.jf_session.proofs.Changes.{Enters-commit, Enters-land}
use Rattle.jf_session.proofs.RefusedCalls.{Fails, IsObeyed-failed}
use Rattle.jf_session.proofs.OwnLandings.{landed_own, last_own}
use Rattle.jf_session.proofs.LandedBlocks.{block_of, commit_block, chain_blocks-are}
use Rattle.jf_session.proofs.Untold.{landed_failed, led_told, led_dropped}

module _ (start : Start) (old new : Session) where
  -- the block of what was pending is told
  pub commit_led : (l : Landed) (b : Batch) → HasLandedPending start old new l b → IsLandingBlock (block_of l.version l.root b) → (told told' : List ℕ) (o : Result (Unit {0}) Stop)
      → OnOk o (told' ≡ told ++ landing_text l.version l.root b) → IfErr o (λ why. (why ≡ stop.Memory) × (told' ≡ told)) → IsLedAs start old new (command.Change change.Commit) told told' o
  commit_led l b h block told told' o ok err =
      let before = h.landed.before in
      let blocks = block_of l.version l.root b ∷ [] in
      let e = landing_entry old.pass.number (state_after_events start before) (landing.Direct b) l.moment in
      let are = commit_block start old.pass new.pass b l h.landed in
      let more = landed_own start old.pass new.pass before e h.landed.adds refl blocks are (block, tt) in
      let last = last_own start old.pass new.pass before e h.landed.adds blocks are in
      let text : landings_text blocks ≡ landing_text l.version l.root b = append-nil (landing_text l.version l.root b) in
      led_told start old new (command.Change change.Commit) _ h.done.0 h.done.1 blocks more last told told' o (subst (λ t. OnOk o (told' ≡ told ++ t)) (sym text) ok) err

  -- nothing is told of what landed nothing
  pub refused_led : (c : Command) (r : Result Reply Stop) → LandsNothing start old new c r → (told : List ℕ) (o : Result (Unit {0}) Stop) → o ≡ without_reply r → IsLedAs start old new c told told o
  refused_led c r h told o is = subst (λ (x : Result (Unit {0}) Stop). IsLedAs start old new c told told x) (sym is) (led_dropped start old new c r h.obeyed h.landed told)

module _ (start : Start) (p p' : Pass) (pending : Batch) (over : Bool) (old : Session) (view : session_of p pending over ≡ old) (goes : old.over ≡ false) where
  -- a session's pass is what was landed over
  landed_over : (blocks : List LandingBlock) → HasLandedMore start p p' blocks → HasLandedMore start old.pass p' blocks
  landed_over blocks h = subst (λ (s : Session). HasLandedMore start s.pass p' blocks) view h

  module _ (are : AreEvents start p'.seen) (sound : IsState start.state) where
    pub commit_lands : (b : Batch) → b ≡ pending → (l : Landed) → HasLanded start (landing.Direct b) p p' l → (none : Batch) → none ≡ [] → HasLandedPending start old (session_of p' none over) l b
    commit_lands b same l h none is = record {
      done = IsObeyed-entered start p p' pending none over over old view (command.Change change.Commit) goes refl _ (Enters-commit start p p' pending are sound b same l h none is);
      pending = same ∙ ap (λ (s : Session). s.own.pending) view;
      landed = subst (λ (s : Session). HasLanded start (landing.Direct b) s.pass p' l) view h;
    }

    pub land_led : (id : ℕ) (t : LandedChain) → HasLandedChain start id p p' t → AllByRecursion IsLandingBlock (chain_blocks t) → (told told' : List ℕ) (o : Result (Unit {0}) Stop)
        → OnOk o (told' ≡ told ++ landings_text (chain_blocks t)) → IfErr o (λ why. (why ≡ stop.Memory) × (told' ≡ told)) → IsLedAs start old (session_of p' pending over) (command.Change (change.Land id)) told told' o
    land_led id t h blocks told told' o ok err =
        let c = command.Change (change.Land id) in
        let done = IsObeyed-entered start p p' pending pending over over old view c goes refl _ (Enters-land start p p' pending are sound id t.landed h.landed) in
        let e = landing_entry p.number (state_after_events start h.landed.before) (landing.Fork id) t.landed.moment in
        let more = landed_own start p p' h.landed.before e h.landed.adds refl (chain_blocks t) (chain_blocks-are start p p' id t h) blocks in
        let last = last_own start p p' h.landed.before e h.landed.adds (chain_blocks t) (chain_blocks-are start p p' id t h) in
        led_told start old (session_of p' pending over) c _ done.0 done.1 (chain_blocks t) (landed_over (chain_blocks t) more) last told told' o ok err

  -- a call that failed landed nothing
  pub failed_lands : (c : Command) (f : StoreFault) → Fails start p p' pending c f → is_own_command c ≡ false → (over' : Bool) (r : Result Reply Stop) → TellsFault f over over' r → LandsNothing start old (session_of p' pending over') c r
  failed_lands c f fails asks over' r t = record {
    obeyed = IsObeyed-failed start p p' pending over over' c f fails old view asks goes r t;
    landed = landed_over [] (landed_failed start p p' pending c f fails);
  }

  pub failed_led : (c : Command) (f : StoreFault) → Fails start p p' pending c f → is_own_command c ≡ false → (over' : Bool) (r : Result Reply Stop) → TellsFault f over over' r → (told : List ℕ) (o : Result (Unit {0}) Stop) → o ≡ without_reply r
      → IsLedAs start old (session_of p' pending over') c told told o
  failed_led c f fails asks over' r t = refused_led start old (session_of p' pending over') c r (failed_lands c f fails asks over' r t)
