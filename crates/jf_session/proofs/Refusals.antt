-- A refusal of the store is that of the command.
use Rattle.std.proofs.Common.{◌≡◌, ◌⊎◌, inl, inr, Bool, true, false, cond, List, [], ◌∷◌, ◌++◌, Option, Some, None, refl, sym, ap, ◌∙◌}
use Rattle.std.specs.Prelude.{Ok, Err, unwrap_or}
use Rattle.jf_path.specs.Checks.{first_of}
use Rattle.jf_store.specs.declared.event.Event.{Event}
use Rattle.jf_store.specs.declared.fault.StoreFault.{StoreFault}
use Rattle.jf_store.specs.declared.fault.StoreFault.TheVariants as store_fault
use Rattle.jf_store.specs.Events.{is_marked}
use Rattle.jf_store.specs.Refusals.{StoreFaults, IsRefusal, broken_faults}
use Rattle.jf_script.specs.declared.reply.Refusal.{Refusal}
use Rattle.jf_answers.specs.Refusals.{Causes}
use Rattle.jf_session.specs.Refusing.{refusal_or_stop}
use Rattle.jf_session.specs.declared.stop.Stop.TheVariants as stop

-- the same tests in the same order, each fault told as the refusal beside its test
abbrev pub AreTold : StoreFaults → Causes → Type 0
AreTold [] [] = Unit {0}
AreTold [] (c ∷ cs) = ⊥
AreTold (f ∷ fs) [] = ⊥
AreTold (f ∷ fs) (c ∷ cs) = (f.0 ≡ c.0) × (refusal_or_stop f.1 ≡ Ok c.1) × AreTold fs cs

-- what the first test that holds is reported as
pub record IsToldAs (causes : Causes) (f : StoreFault) : Type 0 where
  pub why : Refusal
  pub first : first_of causes ≡ Some why
  pub is_told : refusal_or_stop f ≡ Ok why

-- ---- lists of faults
pub AreTold-append : (fs gs : StoreFaults) (cs ds : Causes) → AreTold fs cs → AreTold gs ds → AreTold (fs ++ gs) (cs ++ ds)
AreTold-append [] gs [] ds a b = b
AreTold-append [] gs (c ∷ cs) ds a b = absurd a
AreTold-append (f ∷ fs) gs [] ds a b = absurd a
AreTold-append (f ∷ fs) gs (c ∷ cs) ds a b = (a.0, a.1, AreTold-append fs gs cs ds a.2 b)

-- ---- the first test that holds
-- if none of the faults holds, none of the causes does
pub granted_alike : (fs : StoreFaults) (cs : Causes) → AreTold fs cs → first_of fs ≡ None → first_of cs ≡ None
granted_alike [] [] a none = refl
granted_alike [] (c ∷ cs) a none = absurd a
granted_alike (f ∷ fs) [] a none = absurd a
granted_alike (f ∷ fs) (c ∷ cs) a none = by (λ rest. granted_alike fs cs a.2 rest) f.0 refl
  where
    by : (first_of fs ≡ None → first_of cs ≡ None) → (b : Bool) → f.0 ≡ b → first_of (c ∷ cs) ≡ None
    by more true is = absurd (let e : Some f.1 ≡ None = ap (λ b. cond b (Some f.1) (first_of fs)) (sym is) ∙ none in cc)
    by more false is =
        let rest : first_of fs ≡ None = ap (λ b. cond b (Some f.1) (first_of fs)) (sym is) ∙ none in
        ap (λ b. cond b (Some c.1) (first_of cs)) (sym a.0 ∙ is) ∙ more rest

-- if a fault is the first that holds, so is what it is reported as
pub refused_alike : (fs : StoreFaults) (cs : Causes) (f : StoreFault) → AreTold fs cs → first_of fs ≡ Some f → IsToldAs cs f
refused_alike [] [] f a some = absurd (cc)
refused_alike [] (c ∷ cs) f a some = absurd a
refused_alike (g ∷ fs) [] f a some = absurd a
refused_alike (g ∷ fs) (c ∷ cs) f a some = by (λ rest. refused_alike fs cs f a.2 rest) g.0 refl
  where
    by : (first_of fs ≡ Some f → IsToldAs cs f) → (b : Bool) → g.0 ≡ b → IsToldAs (c ∷ cs) f
    by further true is =
        let here : Some g.1 ≡ Some f = ap (λ b. cond b (Some g.1) (first_of fs)) (sym is) ∙ some in
        let same : g.1 ≡ f = cc in
        record { why = c.1; first = ap (λ b. cond b (Some c.1) (first_of cs)) (sym a.0 ∙ is); is_told = ap refusal_or_stop (sym same) ∙ a.1 }
    by further false is =
        let rest : first_of fs ≡ Some f = ap (λ b. cond b (Some g.1) (first_of fs)) (sym is) ∙ some in
        let more = further rest in
        record { why = more.why; first = ap (λ b. cond b (Some c.1) (first_of cs)) (sym a.0 ∙ is) ∙ more.first; is_told = more.is_told }

-- ---- refusals of a call
-- why a call was refused: the disk failed before, or memory ran out, or the command has this refusal
abbrev pub WhyRefused : List Event → Causes → StoreFault → Type 0
WhyRefused events cs f = ((f ≡ store_fault.Broken) × (is_marked events ≡ true)) ⊎ ((f ≡ store_fault.Memory) ⊎ ((is_marked events ≡ false) × IsToldAs cs f))

unmarked-refused : (fs : StoreFaults) (cs : Causes) (f : StoreFault) → AreTold fs cs → IsRefusal fs f → (f ≡ store_fault.Memory) ⊎ IsToldAs cs f
unmarked-refused fs cs f a is = by (first_of fs) refl
  where
    by : (o : Option StoreFault) → first_of fs ≡ o → (f ≡ store_fault.Memory) ⊎ IsToldAs cs f
    by None e = inl (is ∙ ap (λ o. unwrap_or o store_fault.Memory) e)
    by (Some g) e = inr (refused_alike fs cs f a (e ∙ ap Some (sym (is ∙ ap (λ o. unwrap_or o store_fault.Memory) e))))

-- of a call that is refused after the mark of an earlier one
pub why_refused : (events : List Event) (rest : StoreFaults) (cs : Causes) (f : StoreFault) → AreTold rest cs → IsRefusal (broken_faults events ++ rest) f → WhyRefused events cs f
why_refused events rest cs f a is = by (is_marked events) refl
  where
    later : is_marked events ≡ false → (f ≡ store_fault.Memory) ⊎ IsToldAs cs f → WhyRefused events cs f
    later clear (inl memory) = inr (inl memory)
    later clear (inr it) = inr (inr (clear, it))

    by : (b : Bool) → is_marked events ≡ b → WhyRefused events cs f
    by true marked = inl (is ∙ ap (λ b. unwrap_or (cond b (Some store_fault.Broken) (first_of rest)) store_fault.Memory) marked, marked)
    by false clear = later clear (unmarked-refused rest cs f a (is ∙ ap (λ b. unwrap_or (cond b (Some store_fault.Broken) (first_of rest)) store_fault.Memory) clear))

-- a refusal that is reported in a reply is the command's
pub told-reply : (events : List Event) (rest : StoreFaults) (cs : Causes) (f : StoreFault) (why : Refusal) → AreTold rest cs → IsRefusal (broken_faults events ++ rest) f → refusal_or_stop f ≡ Ok why
    → (is_marked events ≡ false) × (first_of cs ≡ Some why)
told-reply events rest cs f why a is tells = by (why_refused events rest cs f a is)
  where
    by : WhyRefused events cs f → (is_marked events ≡ false) × (first_of cs ≡ Some why)
    by (inl broken) = let e : Err stop.Broken ≡ Ok why = sym (ap refusal_or_stop broken.0) ∙ tells in absurd (cc)
    by (inr (inl memory)) = let e : Err stop.Memory ≡ Ok why = sym (ap refusal_or_stop memory) ∙ tells in absurd (cc)
    by (inr (inr it)) =
        let e : Ok it.1.why ≡ Ok why = sym it.1.is_told ∙ tells in
        let same : it.1.why ≡ why = cc in
        (it.0, it.1.first ∙ ap Some same)

-- a call that finds the store broken has seen a mark
pub told-broken : (events : List Event) (rest : StoreFaults) (cs : Causes) (f : StoreFault) → AreTold rest cs → IsRefusal (broken_faults events ++ rest) f → refusal_or_stop f ≡ Err stop.Broken → is_marked events ≡ true
told-broken events rest cs f a is tells = by (why_refused events rest cs f a is)
  where
    by : WhyRefused events cs f → is_marked events ≡ true
    by (inl broken) = broken.1
    by (inr (inl memory)) = let e : Err stop.Memory ≡ Err stop.Broken = sym (ap refusal_or_stop memory) ∙ tells in absurd (cc)
    by (inr (inr it)) = let e : Err stop.Broken ≡ Ok it.1.why = sym tells ∙ it.1.is_told in absurd (cc)

-- a refusal is no fault of the disk
pub told-fault : (events : List Event) (rest : StoreFaults) (cs : Causes) (f : StoreFault) → AreTold rest cs → IsRefusal (broken_faults events ++ rest) f → refusal_or_stop f ≡ Err stop.DiskFault → ⊥
told-fault events rest cs f a is tells = by (why_refused events rest cs f a is)
  where
    by : WhyRefused events cs f → ⊥
    by (inl broken) = let e : Err stop.Broken ≡ Err stop.DiskFault = sym (ap refusal_or_stop broken.0) ∙ tells in absurd (cc)
    by (inr (inl memory)) = let e : Err stop.Memory ≡ Err stop.DiskFault = sym (ap refusal_or_stop memory) ∙ tells in absurd (cc)
    by (inr (inr it)) = let e : Err stop.DiskFault ≡ Ok it.1.why = sym tells ∙ it.1.is_told in absurd (cc)

-- nothing refuses a call that was granted, or its command
pub granted-command : (events : List Event) (rest : StoreFaults) (cs : Causes) → AreTold rest cs → first_of (broken_faults events ++ rest) ≡ None → (is_marked events ≡ false) × (first_of cs ≡ None)
granted-command events rest cs a none = by (is_marked events) refl
  where
    by : (b : Bool) → is_marked events ≡ b → (is_marked events ≡ false) × (first_of cs ≡ None)
    by true marked = absurd (let e : Some store_fault.Broken ≡ None = ap (λ b. cond b (Some store_fault.Broken) (first_of rest)) (sym marked) ∙ none in cc)
    by false clear = (clear, granted_alike rest cs a (ap (λ b. cond b (Some store_fault.Broken) (first_of rest)) (sym clear) ∙ none))
