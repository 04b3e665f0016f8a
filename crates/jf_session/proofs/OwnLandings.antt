-- The landings of one session among those of a history, and of a pass that has seen more.
use Rattle.std.proofs.Common.{◌≡◌, inr, ℕ, suc, true, false, cond, List, [], ◌∷◌, ◌++◌, drop, length, refl, sym, ap, ap₂, ◌∙◌, subst, append-nil, append_assoc}
use Rattle.std.specs.Prelude.{◌==◌}
use Rattle.std.specs.List.{AllByRecursion}
use Rattle.std.proofs.lemmas.Bool.{eqb-true, eq-eqb}
use Rattle.std.proofs.Math.Seq.{drop-append_seam}
use Rattle.jf_path.proofs.ListLaws.{All-append}
use Rattle.jf_model.specs.States.{State}
use Rattle.jf_model.specs.Entries.{after, replay, owner_of}
use Rattle.jf_model.specs.declared.entries.Entry.{Entry}
use Rattle.jf_lead.specs.declared.block.LandingBlock.{LandingBlock}
use Rattle.jf_lead.specs.Landings.{entry_blocks, landings}
use Rattle.jf_lead.specs.Laws.{IsLandingBlock}
use Rattle.jf_turn.specs.Lists.{HasElement, StartsWith}
use Rattle.jf_store.specs.declared.event.Event.{Event}
use Rattle.jf_store.specs.declared.event.Event.TheVariants.{Done, Mark}
use Rattle.jf_store.specs.Events.{pass_named_by, entries_among}
use Rattle.jf_store.specs.Starts.{Start}
use Rattle.jf_store.specs.Ledgers.{state_after_events}
use Rattle.jf_store.specs.Passes.{Pass, OthersAlone, SeesOwn}
use Rattle.jf_store.proofs.EventLaws.{entries_of-append, entries_of-done, entries_of-mark}
use Rattle.jf_history.specs.Sessions.{seen_by}
use Rattle.jf_session.specs.Leading.{own_landings, HasLandedMore, AreOfLast}

-- ---- of a history
-- the landings of a history that goes on
pub own_landings-append : (n : ℕ) (s : State) (es fs : List Entry) → own_landings n s (es ++ fs) ≡ own_landings n s es ++ own_landings n (replay s es) fs
unfolding own_landings replay
own_landings-append n s [] fs = refl
own_landings-append n s (e ∷ es) fs =
    let own = cond (owner_of e == n) (entry_blocks s e) [] in
    ap (λ bs. own ++ bs) (own_landings-append n (after e s) es fs) ∙ sym (append_assoc own (own_landings n (after e s) es) (own_landings n (replay (after e s) es) fs))

-- one more entry of the session adds its own blocks
pub own_landings-push : (n : ℕ) (s : State) (es : List Entry) (e : Entry) → owner_of e ≡ n → own_landings n s (es ++ e ∷ []) ≡ own_landings n s es ++ entry_blocks (replay s es) e
unfolding own_landings
own_landings-push n s es e owned =
    let blocks = entry_blocks (replay s es) e in
    own_landings-append n s es (e ∷ []) ∙ ap (λ b. own_landings n s es ++ (cond b blocks [] ++ [])) (eq-eqb (owner_of e) n owned) ∙ ap (λ bs. own_landings n s es ++ bs) (append-nil blocks)

-- events of others add none
own_landings-others : (n : ℕ) (s : State) (xs : List Event) → ((x : Event) → HasElement xs x → pass_named_by x ≡ n → ⊥) → own_landings n s (entries_among xs) ≡ []
unfolding own_landings
own_landings-others n s [] none = refl
own_landings-others n s (Done e ∷ xs) none =
    let rest = own_landings-others n (after e s) xs (λ x has. none x (suc has.0, has.1)) in
    elim (owner_of e == n) as (λ b. (owner_of e == n) ≡ b → cond b (entry_blocks s e) [] ++ own_landings n (after e s) (entries_among xs) ≡ []) [
      | true ↦ λ same. absurd (none (Done e) (0, refl) (eqb-true (owner_of e) n same))
      | false ↦ λ other. rest
    ] refl
own_landings-others n s (Mark pass e ∷ xs) none = own_landings-others n s xs (λ x has. none x (suc has.0, has.1))

-- if all events are of the session, so are all landings
pub own_landings-all : (n : ℕ) (s : State) (xs : List Event) → AllByRecursion (λ x. pass_named_by x ≡ n) xs → own_landings n s (entries_among xs) ≡ landings s (entries_among xs)
unfolding own_landings landings
own_landings-all n s [] named = refl
own_landings-all n s (Done e ∷ xs) named = ap₂ (λ b bs. cond b (entry_blocks s e) [] ++ bs) (eq-eqb (owner_of e) n named.0) (own_landings-all n (after e s) xs named.1)
own_landings-all n s (Mark pass e ∷ xs) named = own_landings-all n s xs named.1

-- ---- of a pass
own_landings-on : (s : State) (p : Pass) (events : List Event) → StartsWith events p.seen → OthersAlone p events → own_landings p.number s (entries_among events) ≡ own_landings p.number s (entries_among p.seen)
own_landings-on s p events begins others =
    let rest : drop (length p.seen) events ≡ begins.0 = ap (drop (length p.seen)) begins.1 ∙ drop-append_seam p.seen begins.0 in
    let none = own_landings-others p.number (replay s (entries_among p.seen)) begins.0 (λ x has. others x (subst (λ (xs : List Event). HasElement xs x) (sym rest) has)) in
    ap (λ (xs : List Event). own_landings p.number s (entries_among xs)) begins.1 ∙ ap (own_landings p.number s) (entries_of-append p.seen begins.0)
    ∙ own_landings-append p.number s (entries_among p.seen) (entries_among begins.0) ∙ ap (λ bs. own_landings p.number s (entries_among p.seen) ++ bs) none ∙ append-nil (own_landings p.number s (entries_among p.seen))

module _ (start : Start) where
  landed_none : (old new : Pass) → own_landings new.number start.state (seen_by new) ≡ own_landings old.number start.state (seen_by old) → HasLandedMore start old new []
  landed_none old new same = record { all = same ∙ sym (append-nil (own_landings old.number start.state (seen_by old))); sound = tt }

  pub landed_same : (p : Pass) → HasLandedMore start p p []
  landed_same p = landed_none p p refl

  -- it has seen nothing more of its own
  pub landed_others : (old new : Pass) → new.number ≡ old.number → StartsWith new.seen old.seen → OthersAlone old new.seen → HasLandedMore start old new []
  landed_others old new number begins others = landed_none old new (ap (λ n. own_landings n start.state (seen_by new)) number ∙ own_landings-on start.state old new.seen begins others)

  -- or a mark of its own
  pub landed_mark : (old new : Pass) (before : List Event) (n : ℕ) (e : Entry) → SeesOwn old new before (Mark n e) → HasLandedMore start old new []
  landed_mark old new before n e sees =
      landed_none old new (
      ap (λ (p : Pass). own_landings p.number start.state (seen_by p)) sees.last ∙ ap (own_landings old.number start.state) (entries_of-mark before n e) ∙ own_landings-on start.state old before sees.begins sees.others)

  -- or an entry of its own, of which these are the blocks
  pub landed_own : (old new : Pass) (before : List Event) (e : Entry) → SeesOwn old new before (Done e) → owner_of e ≡ old.number → (blocks : List LandingBlock) → blocks ≡ entry_blocks (state_after_events start before) e
      → AllByRecursion IsLandingBlock blocks → HasLandedMore start old new blocks
  landed_own old new before e sees owned blocks are sound = record {
    all = ap (λ (p : Pass). own_landings p.number start.state (seen_by p)) sees.last ∙ ap (own_landings old.number start.state) (entries_of-done before e)
        ∙ own_landings-push old.number start.state (entries_among before) e owned ∙ ap₂ (λ xs ys. xs ++ ys) (own_landings-on start.state old before sees.begins sees.others) (sym are);
    sound = sound;
  }

  -- and that is the last entry that it has seen
  pub last_own : (old new : Pass) (before : List Event) (e : Entry) → SeesOwn old new before (Done e) → (blocks : List LandingBlock) → blocks ≡ entry_blocks (state_after_events start before) e → AreOfLast start.state (seen_by new) blocks
  last_own old new before e sees blocks are = inr (entries_among before, e, ap (λ (p : Pass). seen_by p) sees.last ∙ entries_of-done before e, are)

  -- more and then still more
  pub landed_further : (old mid new : Pass) (bs cs : List LandingBlock) → HasLandedMore start old mid bs → HasLandedMore start mid new cs → HasLandedMore start old new (bs ++ cs)
  landed_further old mid new bs cs h k = record {
    all = k.all ∙ ap (λ xs. xs ++ cs) h.all ∙ append_assoc (own_landings old.number start.state (seen_by old)) bs cs;
    sound = All-append IsLandingBlock bs cs h.sound k.sound;
  }
