-- The floor is above no version that a session by itself has pinned.
use Rattle.std.specs.Prelude.{◌≡◌, ℕ, ◌≤◌, min, max, zero, suc, Bool, true, false, cond, nat_le, nat_lt, ◌^◌, List, [], ◌∷◌, ◌++◌, map, take, Option, Some, None, IfSome, option_to_list}
use Rattle.std.specs.List.{AllByRecursion}
use Rattle.std.proofs.Common.{refl, sym, ap, ◌∙◌, subst, arith, le_refl}
use Rattle.std.proofs.lemmas.List.{take-map}
use Rattle.std.proofs.lemmas.Bool.Decides.{nat_tests}
use Rattle.jf_path.specs.Checks.{first_of}
use Rattle.jf_model.specs.States.{State}
use Rattle.jf_model.specs.Entries.{after, replay, timeless, IsLegal, AreLegal}
use Rattle.jf_model.specs.declared.entries.Entry.{Entry}
use Rattle.jf_model.specs.declared.entries.Entry.TheVariants as entry
use Rattle.jf_model.proofs.EntryLaws.{after-at_moment, replay-append}
use Rattle.jf_text.specs.Words.{is_long}
use Rattle.jf_script.specs.declared.command.OwnCommand.{OwnCommand}
use Rattle.jf_script.specs.declared.command.Change.{Change}
use Rattle.jf_script.specs.declared.command.Command.{Command}
use Rattle.jf_script.specs.declared.command.OwnCommand.TheVariants as own_command
use Rattle.jf_script.specs.declared.command.Change.TheVariants as change
use Rattle.jf_script.specs.declared.command.Command.TheVariants as command
use Rattle.jf_script.specs.declared.reply.Refusal.{Refusal}
use Rattle.jf_script.specs.declared.reply.Refusal.TheVariants as refusal
use Rattle.jf_script.specs.declared.reply.Reply.TheVariants as reply
use Rattle.jf_script.specs.Commands.{command_of}
use Rattle.jf_answers.specs.Own.{Own, free_place, begun_session}
use Rattle.jf_answers.specs.Prunings.{below_pins}
use Rattle.jf_answers.specs.Refusals.{refused_by, ledger_causes, version_causes, place_causes}
use Rattle.jf_answers.specs.Answers.{Answer, granted_own, granted_change, granted_answer, own_answer, answer_to, answer, too_long, not_read}
use Rattle.jf_answers.specs.Runs.{answers_from, answers, run_entries}
use Rattle.jf_answers.specs.Laws.{FloorSparesPins, EntrySparesPins}
use Rattle.jf_answers.proofs.AnswerLaws.{EachPin, Follows, all_set, granted_own-quiet, granted_change-pins, answer-IsSoundAnswer}
use Rattle.jf_answers.proofs.LegalRuns.{runs_are_legal}
use Rattle.jf_answers.proofs.Pins.{below-le}

-- the floor is at most the retired bound, and above no pin
record Spares (s : State) (own : Own) : Type 0 where
  low : s.floor ≤ s.retired
  pins : EachPin (λ p. s.floor ≤ p) own

-- ---- what isn't refused
unless : {X : Type 0} (b : Bool) (x : X) (o : Option X) → cond b (Some x) o ≡ None → (b ≡ false) × (o ≡ None)
unless true x o none = absurd (cc)
unless false x o none = (refl, none)

not_below : (a b : ℕ) → nat_lt a b ≡ false → b ≤ a
not_below a b above = grind (arith, nat_tests)

no_pin_causes : (s : State) (own : Own) (version : ℕ) → first_of (version_causes s version ++ place_causes own) ≡ None → s.retired ≤ version
no_pin_causes s own version none =
    let future = unless _ _ _ none in
    let retired = unless _ _ _ future.1 in
    not_below version s.retired retired.0

no_prune_causes : (s : State) (upto : ℕ) → first_of (ledger_causes s ++ version_causes s upto) ≡ None → s.retired ≤ upto
no_prune_causes s upto none =
    let late : Option Refusal = first_of ((nat_lt upto s.retired, refusal.Retired s.retired) ∷ []) in
    let last = unless (nat_le (2 ^ 62) s.count) refusal.Last (first_of (version_causes s upto)) none in
    let future = unless (nat_lt s.all.head upto) (refusal.Future s.all.head) late last.1 in
    let retired = unless (nat_lt upto s.retired) (refusal.Retired s.retired) None future.1 in
    not_below upto s.retired retired.0

-- ---- a floor that the pins let rise
below_pin : (f low upto : ℕ) (ps : List (Option ℕ)) → low ≤ below_pins upto ps → AllByRecursion (λ pin. IfSome pin (λ p. f ≤ p)) ps → AllByRecursion (λ pin. IfSome pin (λ p. max f low ≤ p)) ps
below_pin f low upto [] h pins = tt
below_pin f low upto (None ∷ ps) h pins = (tt, below_pin f low upto ps h pins.1)
below_pin f low upto (Some v ∷ ps) h pins = (let upper = below-le (min upto v) ps in let first = pins.0 in omega arith, below_pin f low (min upto v) ps h pins.1)

-- ---- commands
own-Spares : (c : OwnCommand) (s : State) (own : Own) → Spares s own → Spares (granted_own c s own).state (granted_own c s own).own
own-Spares (own_command.Put name value) s own h = record { low = h.low; pins = h.pins }
own-Spares (own_command.Del name) s own h = record { low = h.low; pins = h.pins }
own-Spares (own_command.Unpin place) s own h = record { low = h.low; pins = all_set (λ pin. IfSome pin (λ p. s.floor ≤ p)) own.pins place None h.pins tt }

change-Spares : (c : Change) (s : State) (own : Own) → refused_by s own (command.Change c) ≡ None → Spares s own → Spares (granted_change c s own).state (granted_change c s own).own
unfolding after refused_by
change-Spares change.Commit s own none h = record { low = h.low; pins = h.pins }
change-Spares (change.Fork on) s own none h = record { low = h.low; pins = h.pins }
change-Spares (change.Land id) s own none h = record { low = h.low; pins = h.pins }
change-Spares (change.Drop id) s own none h = record { low = h.low; pins = h.pins }
change-Spares (change.Prune upto) s own none h = record {
  low = let upper = below-le upto own.pins in let rises = no_prune_causes s upto none in let low = h.low in omega arith;
  pins = below_pin s.floor (below_pins upto own.pins) upto own.pins (le_refl (below_pins upto own.pins)) h.pins;
}
change-Spares change.Compact s own none h = record { low = h.low; pins = h.pins }

granted-Spares : (c : Command) (s : State) (own : Own) → refused_by s own c ≡ None → Spares s own → Spares (granted_answer c s own).state (granted_answer c s own).own
unfolding refused_by
granted-Spares (command.Own c) s own none h = own-Spares c s own h
granted-Spares (command.Read on q) s own none h = record { low = h.low; pins = h.pins }
granted-Spares (command.ReadFork id q) s own none h = record { low = h.low; pins = h.pins }
granted-Spares command.Look s own none h = record { low = h.low; pins = h.pins }
granted-Spares (command.Pin version) s own none h = record {
  low = h.low;
  pins = all_set (λ pin. IfSome pin (λ p. s.floor ≤ p)) own.pins (free_place own) (Some version) h.pins (let read = no_pin_causes s own version none in let low = h.low in omega arith);
}
granted-Spares (command.Change c) s own none h = change-Spares c s own none h

elim-Spares : (o : Option Refusal) (c : Command) (s : State) (own : Own) → refused_by s own c ≡ o → Spares s own
    → Spares (elim o as (λ x. Answer) [ Some why ↦ own_answer (reply.No why) s own | None ↦ granted_answer c s own ]).state (elim o as (λ x. Answer) [ Some why ↦ own_answer (reply.No why) s own | None ↦ granted_answer c s own ]).own
elim-Spares None c s own none h = granted-Spares c s own none h
elim-Spares (Some why) c s own some h = h

cond-Spares : (b : Bool) (x y : Answer) → Spares x.state x.own → Spares y.state y.own → Spares (cond b x y).state (cond b x y).own
cond-Spares true x y h k = h
cond-Spares false x y h k = k

to-Spares : (o : Option Command) (s : State) (own : Own) → Spares s own → Spares (answer_to o s own).state (answer_to o s own).own
to-Spares None s own h = h
to-Spares (Some c) s own h = elim-Spares (refused_by s own c) c s own refl h

line-Spares : (s : State) (own : Own) (line : List ℕ) → Spares s own → Spares (answer s own line).state (answer s own line).own
unfolding answer
line-Spares s own line h = cond-Spares (is_long line) (too_long s own) (answer_to (command_of line) s own) h (to-Spares (command_of line) s own h)

-- ---- lines
from-Spares : (s : State) (own : Own) (ls : List (List ℕ)) → Spares s own → Spares (answers_from s own ls).state (answers_from s own ls).own
unfolding answers_from
from-Spares s own [] h = h
from-Spares s own (line ∷ ls) h = from-Spares (answer s own line).state (answer s own line).own ls (line-Spares s own line h)

-- ---- the state that entries make
answer_state : (s : State) (a : Answer) (o : Option Entry) → (own : Own) → Follows s own a o → a.state ≡ replay s (option_to_list o)
unfolding replay
answer_state s a None own h = h
answer_state s a (Some e) own h = h.state

from_state : (s : State) (own : Own) (ls : List (List ℕ)) → (answers_from s own ls).state ≡ replay s (run_entries (answers_from s own ls))
unfolding answers_from replay
from_state s own [] = refl
from_state s own (line ∷ ls) =
    let a = answer s own line in
    let more = run_entries (answers_from a.state a.own ls) in
    from_state a.state a.own ls ∙ ap (λ t. replay t more) (answer_state s a a.entry own (answer-IsSoundAnswer s own line).follows) ∙ sym (replay-append s (option_to_list a.entry) more)

replay-timeless : (s : State) (es : List Entry) → replay s (map timeless es) ≡ replay s es
unfolding replay
replay-timeless s [] = refl
replay-timeless s (e ∷ es) = ap (λ t. replay t (map timeless es)) (after-at_moment 0 e s) ∙ replay-timeless (after e s) es

-- ---- floors rise
after-floor : (s : State) (e : Entry) → IsLegal s e → s.floor ≤ (after e s).floor
unfolding after
after-floor s (entry.Made owner fork parent batch r) legal = le_refl s.floor
after-floor s (entry.Landed owner version how r moment) legal = le_refl s.floor
after-floor s (entry.Dropped owner fork) legal = le_refl s.floor
after-floor s (entry.Retired owner bound floor) legal = legal.1.floor_rises
after-floor s (entry.Compacted owner generation) legal = le_refl s.floor

replay-floor : (s : State) (es : List Entry) → AreLegal s es → s.floor ≤ (replay s es).floor
unfolding replay
replay-floor s [] legal = le_refl s.floor
replay-floor s (e ∷ es) legal = let first = after-floor s e legal.0 in let more = replay-floor (after e s) es legal.1 in omega arith

-- a first part of the entries leads to no higher floor
pub front-floor : (s : State) (es : List Entry) (count : ℕ) → AreLegal s es → (replay s (take count es)).floor ≤ (replay s es).floor
unfolding replay
front-floor s es zero legal = replay-floor s es legal
front-floor s [] (suc count) legal = le_refl s.floor
front-floor s (e ∷ es) (suc count) legal = front-floor (after e s) es count legal.1

-- what is above no pin is so if it is lower
pub lower : (low high : ℕ) (ps : List (Option ℕ)) → low ≤ high → AllByRecursion (λ pin. IfSome pin (λ p. high ≤ p)) ps → AllByRecursion (λ pin. IfSome pin (λ p. low ≤ p)) ps
lower low high [] h pins = tt
lower low high (None ∷ ps) h pins = (tt, lower low high ps h pins.1)
lower low high (Some v ∷ ps) h pins = (let first = pins.0 in omega arith, lower low high ps h pins.1)

-- ---- the law
pub entries-SparesPins : FloorSparesPins
entries-SparesPins s ls es count sound same =
    let r = answers s ls in
    let spares = from-Spares s (begun_session 0) ls (record { low = sound.floor_low; pins = (tt, (tt, (tt, (tt, (tt, (tt, (tt, (tt, tt)))))))) }) in
    let whole : replay s es ≡ r.state = sym (replay-timeless s es) ∙ ap (replay s) same ∙ sym (from_state s (begun_session 0) ls) in
    let front : replay s (take count es) ≡ replay s (take count (map timeless es)) = sym (replay-timeless s (take count es)) ∙ ap (replay s) (sym (take-map timeless count es)) in
    let legal = subst (λ (x : List Entry). AreLegal s x) (sym same) (runs_are_legal s ls sound) in
    let low = front-floor s (map timeless es) count legal in
    lower (replay s (take count es)).floor r.state.floor r.own.pins (omega (arith, low, ap (λ (t : State). t.floor) front, ap (λ (t : State). t.floor) whole, ap (λ (t : State). t.floor) (replay-timeless s es))) spares.pins

-- ---- one entry more
-- an answer with an entry leaves the pins
abbrev KeepsPins : Own → Answer → Type 0
KeepsPins own a = (e : Entry) → a.entry ≡ Some e → a.own.pins ≡ own.pins

without_entry : (own : Own) (a : Answer) → a.entry ≡ None → KeepsPins own a
without_entry own a none = λ e some. absurd (let both : None ≡ Some e = sym none ∙ some in cc)

same_pins : (own : Own) (a : Answer) → a.own.pins ≡ own.pins → KeepsPins own a
same_pins own a same = λ e some. same

granted-pins : (c : Command) (s : State) (own : Own) → KeepsPins own (granted_answer c s own)
granted-pins (command.Own c) s own = without_entry own (granted_own c s own) (granted_own-quiet c s own)
granted-pins (command.Read on q) s own = without_entry own (granted_answer (command.Read on q) s own) refl
granted-pins (command.ReadFork id q) s own = without_entry own (granted_answer (command.ReadFork id q) s own) refl
granted-pins command.Look s own = without_entry own (granted_answer command.Look s own) refl
granted-pins (command.Pin version) s own = without_entry own (granted_answer (command.Pin version) s own) refl
granted-pins (command.Change c) s own = same_pins own (granted_change c s own) (granted_change-pins c s own)

elim-pins : (o : Option Refusal) (c : Command) (s : State) (own : Own) → KeepsPins own (elim o as (λ x. Answer) [ Some why ↦ own_answer (reply.No why) s own | None ↦ granted_answer c s own ])
elim-pins None c s own = granted-pins c s own
elim-pins (Some why) c s own = without_entry own (own_answer (reply.No why) s own) refl

cond-pins : (own : Own) (b : Bool) (x y : Answer) → KeepsPins own x → KeepsPins own y → KeepsPins own (cond b x y)
cond-pins own true x y h k = h
cond-pins own false x y h k = k

to-pins : (o : Option Command) (s : State) (own : Own) → KeepsPins own (answer_to o s own)
to-pins None s own = without_entry own (not_read s own) refl
to-pins (Some c) s own = elim-pins (refused_by s own c) c s own

line-pins : (s : State) (own : Own) (line : List ℕ) → KeepsPins own (answer s own line)
unfolding answer
line-pins s own line = cond-pins own (is_long line) (too_long s own) (answer_to (command_of line) s own) (without_entry own (too_long s own) refl) (to-pins (command_of line) s own)

tried-pins : (s : State) (own : Own) (line : List ℕ) (e : Entry) → Spares s own → (answer s own line).entry ≡ Some e → AllByRecursion (λ pin. IfSome pin (λ p. (after e s).floor ≤ p)) own.pins
tried-pins s own line e spares some =
    let a = answer s own line in
    let state : a.state ≡ after e s = (subst (λ (o : Option Entry). Follows s own a o) some (answer-IsSoundAnswer s own line).follows).state in
    let pins : a.own.pins ≡ own.pins = line-pins s own line e some in
    let each = (line-Spares s own line spares).pins in
    subst (λ (t : State). AllByRecursion (λ pin. IfSome pin (λ p. t.floor ≤ p)) own.pins) state (subst (λ (ps : List (Option ℕ)). AllByRecursion (λ pin. IfSome pin (λ p. a.state.floor ≤ p)) ps) pins each)

pub entry-SparesPins : EntrySparesPins
entry-SparesPins s ls line e sound some =
    let r = answers s ls in
    let spares = from-Spares s (begun_session 0) ls (record { low = sound.floor_low; pins = (tt, (tt, (tt, (tt, (tt, (tt, (tt, (tt, tt)))))))) }) in
    tried-pins r.state r.own line e spares some
