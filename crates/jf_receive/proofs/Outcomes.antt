-- What follows of the end of a restore.
use Rattle.std.proofs.Common.{◌≡◌, ◌∙◌, inl, inr, ℕ, List, length, refl, ap, sym, subst, arith, Option, Some, Result, Ok, Err}
use Rattle.jf_model.specs.Versions.{Versions}
use Rattle.jf_evidence.specs.Ranges.{Entries}
use Rattle.jf_engine.specs.Engines.{Engine}
use Rattle.jf_restore.specs.RestoreValue.{RestoreValue}
use Rattle.jf_restore.specs.Finishes.{IsNewStore, IsInUse, HasImported}
use Rattle.jf_receive.specs.Restored.{restore_result, restored_text}
use Rattle.jf_receive.specs.Receives.{HasReceived, RestoresEntries, EndsUnlessStopped}
use Rattle.jf_receive.specs.declared.received.Received.{Received}
use Rattle.jf_receive.specs.declared.received.Received.TheVariants as received
use Rattle.jf_receive.specs.declared.received.RestoreFault.{RestoreFault}
use Rattle.jf_receive.specs.declared.received.RestoreFault.TheVariants as fault

-- a new store isn't in use
pub unused : (v : Versions) → IsNewStore v → IsInUse v → ⊥
unused v new (inl later) = let head = new.0 in omega (arith, later, head)
unused v new (inr some) = let none = new.1 in omega (arith, some, none)

-- what was imported has the announced version, and the line tells of it
pub restored : (version : ℕ) (root : List ℕ) (old new : Engine) (rest rest' : Option (List ℕ)) (r : RestoreValue) → r.version ≡ version → RestoresEntries root r.entries old rest rest' → HasImported r.version r.entries old new
    → (count : ℕ) → count ≡ length r.entries → (line : List ℕ) → line ≡ restored_text version root count
    → (es : Entries) × RestoresEntries root es old rest rest' × HasImported version es old new × (line ≡ restored_text version root (length es))
restored version root old new rest rest' r same restores so count all line is =
    (r.entries, restores, subst (λ n. HasImported n r.entries old new) same so, is ∙ ap (λ n. restored_text version root n) all)

module _ (version : ℕ) (root : List ℕ) (old new : Engine) (rest rest' text text' : Option (List ℕ)) where
  abbrev Ends : Received → Type 0
  Ends how = HasReceived how version root old new rest rest' text text'

  -- ---- any end, of a restore into a new store
  module _ (is_new : IsNewStore old.versions) where
    -- it isn't refused as one in use
    pub ends-not_empty : (how : Received) (head : ℕ) → Ends how → how ≡ received.Refused (fault.NotEmpty head) → ⊥
    ends-not_empty how head h is = let e : Ends (received.Refused (fault.NotEmpty head)) = subst Ends is h in unused old.versions is_new e.0.1

    module _ (input : List ℕ) (told : rest ≡ Some input) where
      abbrev outcome : Result Entries RestoreFault
      outcome = restore_result old.generation root input

      -- what refuses the restore is the result of the input
      refuses : (why : RestoreFault) → Ends (received.Refused why) → outcome ≡ Err why
      refuses (fault.NotEmpty head) h = absurd (unused old.versions is_new h.0.1)
      refuses (fault.Line at) h = h.0.comes input told
      refuses (fault.Chunk at why) h = h.0.comes input told
      refuses (fault.NotWhole wanted found) h = h.0.2.comes input told
      refuses fault.Last h = h.0.comes input told

      -- an input that is refused
      pub refused-ends : (how : Received) (why : RestoreFault) → Ends how → outcome ≡ Err why → EndsUnlessStopped (received.Refused why) how
      refused-ends received.Done why h is = let other : Ok h.0 ≡ Err why = sym (h.1.comes input told) ∙ is in absurd (cc)
      refused-ends received.WriteFault why h is = let other : Ok h.0 ≡ Err why = sym (h.1.comes input told) ∙ is in absurd (cc)
      refused-ends received.DiskFault why h is = let other : Ok h.0 ≡ Err why = sym (h.1.comes input told) ∙ is in absurd (cc)
      refused-ends received.ReadFault why h is = inr (inl refl)
      refused-ends received.Memory why h is = inr (inr refl)
      refused-ends (received.Refused other) why h is =
          let both : (let e : Result Entries RestoreFault = Err other in e ≡ Err why) = sym (refuses other h) ∙ is in
          let same : other ≡ why = cc in
          inl (ap (λ w. received.Refused w) same)

      -- an input that isn't refused
      pub accepted-ends : (how : Received) (es : Entries) (why : RestoreFault) → Ends how → outcome ≡ Ok es → how ≡ received.Refused why → ⊥
      accepted-ends how es why h is refused =
          let other : Ok es ≡ Err why = sym is ∙ refuses why (subst Ends refused h) in
          absurd (cc)
