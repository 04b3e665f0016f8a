use Rattle.std.proofs.Common.{◌≡◌, ℕ, List, map, length, sym, ◌∙◌, subst}
use Rattle.std.proofs.lemmas.List.{length-map}
use Rattle.jf_io.specs.Lines.{lines}
use Rattle.jf_store.specs.Passes.{Pass}
use Rattle.jf_store.specs.Closing.{AreAllPasses, ArePassesOf, IsClosed}
use Rattle.jf_history.specs.declared.end.End.{End}
use Rattle.jf_serve.specs.Served.{HasServed}
use Rattle.jf_serve.proofs.ServedLaws.{passes_own, passes_all, has_served}
use Rattle.jf_serve.proofs.serving.serve.Goals as goal

pub close-engine-requires-clause-own : goal.close-engine-requires-clause-own
close-engine-requires-clause-own g c κs within =
    let all = c.run_side_by_side-gathered in
    subst (ArePassesOf c.args.store) (sym c.into_parts-passes.ensures.passes) (passes_own c.args.store (map lines c.args.scripts.now) all.result all.ensures.ran)

pub close-engine-requires-clause-gathered : goal.close-engine-requires-clause-gathered
close-engine-requires-clause-gathered g c κs within =
    let all = c.run_side_by_side-gathered in
    let many : c.args.store.start.passes ≡ length (map lines c.args.scripts.now) = sym (length-map c.args.scripts.now lines ∙ c.requires.long ∙ c.requires.gathered) in
    subst (AreAllPasses c.args.store) (sym c.into_parts-passes.ensures.passes) (passes_all c.args.store (map lines c.args.scripts.now) all.result all.ensures.ran many)

pub returns-clause-served : goal.returns-clause-served
returns-clause-served g c =
    let all = c.run_side_by_side-gathered in
    let scripts = map lines c.args.scripts.now in
    let parts = c.into_parts-passes.ensures in
    let end = c.close-engine.result in
    let many : c.args.store.start.passes ≡ length scripts = sym (length-map c.args.scripts.now lines ∙ c.requires.long ∙ c.requires.gathered) in
    let closed = subst (λ (ps : List Pass). IsClosed c.args.store.start ps end.entries end.engine) parts.passes c.close-engine.ensures in
    let whole = has_served c.args.store scripts all.result all.ensures.ran end.entries end.engine many closed c.closed_explains.ensures c.closed_tries.ensures c.closed_blames.ensures c.closed_spares_pins.ensures c.one_served_is_alone.ensures in
    subst (λ (es : List End). HasServed c.args.store.start scripts c.into_parts-passes.result.1 es end.entries end.engine) (sym parts.ends)
    (subst (λ (ts : List (List ℕ)). HasServed c.args.store.start scripts ts all.result.ends end.entries end.engine) (sym parts.outputs) whole)
