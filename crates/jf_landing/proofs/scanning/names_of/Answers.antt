-- Each round reads one more name.
use Rattle.std.proofs.Common.{◌++◌, ◌∷◌, [], ◌+◌, ◌<◌, List, ℕ, length, get_or, sym, ap, ◌∙◌, arith, drop, take}
use Rattle.std.proofs.lemmas.List.{take_more}
use Rattle.std.specs.List.{flat_map}
use Rattle.jf_path.proofs.ListLaws.{All-by_place}
use Rattle.jf_path.specs.declared.name.NodeName.{NodeName}
use Rattle.jf_codec.specs.Spelling.{name_bytes}
use Rattle.jf_codec.proofs.FieldLaws.{ok_is}
use Rattle.jf_codec.proofs.Names.{name_again}
use Rattle.jf_codec.specs.Reading.{name_at}
use Rattle.jf_standing.proofs.Rounds.{next_at_front, no_name}
use Rattle.jf_landing.proofs.scanning.names_of.Goals as goal

pub returns-in-Err : goal.returns-in-Err
returns-in-Err c = λ names tail count all e.
    let so = c.loop.invariant names tail count all e in
    let lt : c.loop.counter < length names = (let t = c.loop-test.true in omega (arith, t, count)) in
    let is = All-by_place _ names all c.loop.counter no_name lt in
    let read = ap name_at (next_at_front name_bytes names no_name tail c.loop.counter c.loop.rest.now so.0 lt) ∙ name_again _ (flat_map name_bytes (drop (c.loop.counter + 1) names) ++ tail) is in
    absurd (let both = sym read ∙ c.in-Err.ensures in cc)

pub loop-preserved : goal.loop-preserved
loop-preserved c = λ names tail count all e.
    let so = c.loop.invariant names tail count all e in
    let lt : c.loop.counter < length names = (let t = c.loop-test.true in omega (arith, t, count)) in
    let is = All-by_place _ names all c.loop.counter no_name lt in
    let behind = flat_map name_bytes (drop (c.loop.counter + 1) names) ++ tail in
    let read = ap name_at (next_at_front name_bytes names no_name tail c.loop.counter c.loop.rest.now so.0 lt) ∙ name_again _ behind is in
    let same = ok_is (c.in-Ok-name_at.name, c.in-Ok-name_at.after.now) (get_or names c.loop.counter no_name, behind) (sym c.in-Ok-name_at.ensures ∙ read) in (
      ap (λ (p : NodeName × List ℕ). p.1) same,
      c.in-Ok-push.ensures.items ∙ ap (λ ns. ns ++ c.in-Ok-name_at.name ∷ []) so.1 ∙ ap (λ (p : NodeName × List ℕ). take c.loop.counter names ++ p.0 ∷ []) same ∙ sym (take_more names c.loop.counter no_name lt),
    )
