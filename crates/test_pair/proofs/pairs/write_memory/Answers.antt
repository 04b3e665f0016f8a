use Rattle.std.proofs.Common.{◌≡◌, ◌<◌, [], ◌∷◌, refl, sym, ◌∙◌, subst, arith}
use Rattle.jf_disk.specs.Disk.{History}
use Rattle.jf_disk.proofs.CrashLaws.{told_same}
use Rattle.jf_disk.specs.Memory.{history_of}
use Rattle.jf_frame.specs.Framing.{number_of}
use Rattle.jf_frame.specs.Logs.{appended_record}
use Rattle.jf_pair.specs.Files.{generation_of}
use Rattle.jf_pair.specs.Pairs.{IsInStep}
use Rattle.jf_pair.proofs.PairLaws.{in_step_one}
use Rattle.test_pair.proofs.Samples.{number, first, second, more, is_one, number_one, number_two, same_payload}
use Rattle.test_pair.proofs.pairs.write_memory.Goals as goal

pub switch-requires-clause-framed : goal.switch-requires-clause-framed
switch-requires-clause-framed c κs = (4, number 1, first)

pub switch-requires-clause-checkpoint : goal.switch-requires-clause-checkpoint
switch-requires-clause-checkpoint c κs = λ kind payload is. is_one _ 4 kind 1 payload first refl is

pub switch-requires-clause-in_step : goal.switch-requires-clause-in_step
switch-requires-clause-in_step c κs = λ h told. ([], subst (λ (h : History). IsInStep c.args.pair.now [] h.now) (told_same _ h _ refl told) c.requires.in_step)

pub switch-requires-clause-newer : goal.switch-requires-clause-newer
switch-requires-clause-newer c κs = λ h rs kind payload told kept is live.
    let none : [] ≡ rs = in_step_one c.args.pair.now [] rs h.now (subst (λ (h : History). IsInStep c.args.pair.now [] h.now) (told_same _ h _ refl told) c.requires.in_step) kept in
    subst (λ rs. generation_of rs < number_of payload) none (let e = sym number_one ∙ same_payload _ 4 kind (number 1) payload first is in omega arith)

pub append-requires-clause-framed : goal.append-requires-clause-framed
append-requires-clause-framed c κs = (7, 97 ∷ 98 ∷ 99 ∷ [], more)

pub append-requires-clause-in_step : goal.append-requires-clause-in_step
append-requires-clause-in_step c κs = λ h told.
    let x = c.in_ok-switch.ensures.ok (history_of c.args.disk.now) 4 (number 1) refl first in
    (appended_record 0 4 (number 1) ∷ [], subst (λ (h : History). IsInStep c.switch.new.self (appended_record 0 4 (number 1) ∷ []) h.now) (told_same x.0 h _ x.1 told) x.2)

pub switch-requires-2-clause-framed : goal.switch-requires-2-clause-framed
switch-requires-2-clause-framed c κs = (5, number 2, second)

pub switch-requires-2-clause-checkpoint : goal.switch-requires-2-clause-checkpoint
switch-requires-2-clause-checkpoint c κs = λ kind payload is. is_one _ 5 kind 2 payload second refl is

pub switch-requires-2-clause-in_step : goal.switch-requires-2-clause-in_step
switch-requires-2-clause-in_step c κs = λ h told.
    let x = c.in_ok-switch.ensures.ok (history_of c.args.disk.now) 4 (number 1) refl first in
    let rs = appended_record 0 4 (number 1) ∷ appended_record c.switch.new.self.offset 7 (97 ∷ 98 ∷ 99 ∷ []) ∷ [] in
    let y = c.in_ok-append.ensures.ok x.0 (appended_record 0 4 (number 1) ∷ []) 7 (97 ∷ 98 ∷ 99 ∷ []) x.1 x.2 more in
    (rs, subst (λ (h : History). IsInStep c.append.new.self rs h.now) (told_same y.0 h _ y.1 told) y.2)

pub switch-requires-2-clause-newer : goal.switch-requires-2-clause-newer
switch-requires-2-clause-newer c κs = λ h rs kind payload told kept is live.
    let x = c.in_ok-switch.ensures.ok (history_of c.args.disk.now) 4 (number 1) refl first in
    let both = appended_record 0 4 (number 1) ∷ appended_record c.switch.new.self.offset 7 (97 ∷ 98 ∷ 99 ∷ []) ∷ [] in
    let y = c.in_ok-append.ensures.ok x.0 (appended_record 0 4 (number 1) ∷ []) 7 (97 ∷ 98 ∷ 99 ∷ []) x.1 x.2 more in
    let all : both ≡ rs = in_step_one c.append.new.self both rs h.now (subst (λ (h : History). IsInStep c.append.new.self both h.now) (told_same y.0 h _ y.1 told) y.2) kept in
    subst (λ rs. generation_of rs < number_of payload) all (let n = number_one in let e = sym number_two ∙ same_payload _ 5 kind (number 2) payload second is in omega arith)
