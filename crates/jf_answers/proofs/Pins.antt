-- Versions that lines ask to pin, and the floor that pins let a `prune` have.
use Rattle.std.specs.Prelude.{◌==◌, filter_map}
use Rattle.std.proofs.Common.{List, [], ◌∷◌, ℕ, IfSome, ◌||◌, Option, Some, None, refl, ap, ◌∙◌, sym, subst, append-nil, ◌≡◌, ◌⊎◌, inl, inr, min, arith, ◌≤◌, le_refl, max}
use Rattle.std.proofs.lemmas.Bool.{eq-eqb, cases_lt}
use Rattle.std.specs.List.{AllByRecursion, list_any, cons_option}
use Rattle.jf_path.proofs.BoolLaws.{or_true}
use Rattle.jf_model.specs.States.{State}
use Rattle.jf_answers.specs.OwnLines.{pin_of}
use Rattle.jf_answers.specs.Prunings.{below_pins, next_floor}
use Rattle.jf_answers.specs.Own.{Own}
use Rattle.jf_answers.proofs.AnswerLaws.{EachPin}
use Rattle.jf_answers.specs.Explains.{IsAmong, pins_of, Timeline, IsFloor}

pub all_map : {X : Type 0} (P Q : X → Type 0) → ((x : X) → P x → Q x) → (xs : List X) → AllByRecursion P xs → AllByRecursion Q xs
all_map P Q f [] h = tt
all_map P Q f (x ∷ xs) h = (f x h.0, all_map P Q f xs h.1)

-- each line asks to pin only versions among these
abbrev pub EachNamed : List ℕ → List (List ℕ) → Type 0
EachNamed pins lines = AllByRecursion (λ line. IfSome (pin_of line) (IsAmong pins)) lines

among_first : (o : Option ℕ) (ps : List ℕ) → IfSome o (IsAmong (cons_option o ps))
among_first None ps = tt
among_first (Some p) ps = ap (λ b. b || list_any (λ q. q == p) ps) (eq-eqb p p refl)

among_later : (o : Option ℕ) (ps : List ℕ) (p : ℕ) → IsAmong ps p → IsAmong (cons_option o ps) p
among_later None ps p h = h
among_later (Some v) ps p h = ap (λ b. (v == p) || b) h ∙ or_true (v == p)

if_some : {X : Type 0} (P Q : X → Type 0) (o : Option X) → ((x : X) → P x → Q x) → IfSome o P → IfSome o Q
if_some P Q None f h = tt
if_some P Q (Some x) f h = f x h

named_each : (lines : List (List ℕ)) → EachNamed (filter_map pin_of lines) lines
named_each [] = tt
named_each (line ∷ lines) =
    let more = filter_map pin_of lines in (
      among_first (pin_of line) more,
      all_map (λ (l : List ℕ). IfSome (pin_of l) (IsAmong more)) (λ (l : List ℕ). IfSome (pin_of l) (IsAmong (cons_option (pin_of line) more)))
          (λ (l : List ℕ). if_some (IsAmong more) (IsAmong (cons_option (pin_of line) more)) (pin_of l) (λ p. among_later (pin_of line) more p)) lines (named_each lines),
    )

-- the versions that the lines of one script ask to pin are among those that the script names
pub EachNamed-one : (lines : List (List ℕ)) → EachNamed (pins_of (lines ∷ [])) lines
EachNamed-one lines = subst (λ pins. EachNamed pins lines) (sym (append-nil (filter_map pin_of lines))) (named_each lines)

-- ---- floors
lesser : (u v w : ℕ) → (min (min u v) w ≡ min u v) ⊎ (min (min u v) w ≡ min u w)
lesser u v w = elim (cases_lt w v) as (λ o. (min (min u v) w ≡ min u v) ⊎ (min (min u v) w ≡ min u w)) [
  | inl below ↦ inr (omega arith)
  | inr above ↦ inl (omega arith)
]

below-named : (pins : List ℕ) (u : ℕ) (ps : List (Option ℕ)) → AllByRecursion (λ pin. IfSome pin (IsAmong pins)) ps → (below_pins u ps ≡ u) ⊎ ((w : ℕ) × IsAmong pins w × (below_pins u ps ≡ min u w))
below-named pins u [] h = inl refl
below-named pins u (None ∷ ps) h = below-named pins u ps h.1
below-named pins u (Some v ∷ ps) h = elim (below-named pins (min u v) ps h.1) as (λ o. (below_pins (min u v) ps ≡ u) ⊎ ((w : ℕ) × IsAmong pins w × (below_pins (min u v) ps ≡ min u w))) [
  | inl e ↦ inr (v, h.0, e)
  | inr x ↦ elim (lesser u v x.0) as (λ o. (below_pins (min u v) ps ≡ u) ⊎ ((w : ℕ) × IsAmong pins w × (below_pins (min u v) ps ≡ min u w))) [
    | inl e ↦ inr (v, h.0, x.2 ∙ e)
    | inr e ↦ inr (x.0, x.1, x.2 ∙ e)
  ]
]

pub below-le : (u : ℕ) (ps : List (Option ℕ)) → below_pins u ps ≤ u
below-le u [] = le_refl u
below-le u (None ∷ ps) = below-le u ps
below-le u (Some v ∷ ps) = let low = below-le (min u v) ps in omega arith

below_each : (f low u : ℕ) (ps : List (Option ℕ)) → low ≤ below_pins u ps → AllByRecursion (λ pin. IfSome pin (λ p. max f low ≤ max f p)) ps
below_each f low u [] h = tt
below_each f low u (None ∷ ps) h = (tt, below_each f low u ps h)
below_each f low u (Some v ∷ ps) h = (let upper = below-le (min u v) ps in omega arith, below_each f low (min u v) ps h)

-- the floor that the own pins let a `prune` have is allowed, if lines of the history name the own pins
pub IsFloor-next : (h : Timeline) (s : State) (own : Own) (bound : ℕ) → EachPin (IsAmong h.pins) own → IsFloor h s own bound (next_floor bound s own)
IsFloor-next h s own bound named = (
  elim (below-named h.pins bound own.pins named)
      as (λ o. (next_floor bound s own ≡ max s.floor bound) ⊎ ((w : ℕ) × IsAmong h.pins w × (next_floor bound s own ≡ max s.floor (min bound w)))) [
        | inl e ↦ inl (ap (λ n. max s.floor n) e)
        | inr x ↦ inr (x.0, x.1, ap (λ n. max s.floor n) x.2)
      ],
  below_each s.floor (below_pins bound own.pins) bound own.pins (le_refl (below_pins bound own.pins)),
)
