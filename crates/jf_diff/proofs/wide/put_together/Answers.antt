use Rattle.std.proofs.Common.{◌≡◌, ◌∷◌, ◌++◌, [], ap, sym, ◌∙◌, append_assoc, append-nil, length, length-append}
use Rattle.std.proofs.lemmas.List.{nil_from_length}
use Rattle.std.proofs.lemmas.Result.{IfOk-at_ok}
use Rattle.std.specs.Option.{option_copied}
use Rattle.jf_diff.specs.PartLists.{ArePartLists}
use Rattle.jf_diff.proofs.PartLaws.{gathered_start, gathered_more, gathered_fresh, gathered_stale, part_in_turn}
use Rattle.jf_diff.proofs.wide.put_together.Goals as goal

pub loop-part-init : goal.loop-part-init
loop-part-init c = record {
  split = c.into_iter-part-iterator.ensures.into_iter_gives.0;
  gathered = gathered_start c.args.version c.args.head (option_copied c.args.old) (option_copied c.args.top) (record { fresh = c.in_ok-all.all.fresh; stale = c.take_room.new.stale }) record {
    fresh = c.in_ok-all.ensures.fresh;
    stale = c.take_room.ensures ∙ c.in_ok-all.ensures.stale;
  };
}

pub loop-part-preserved : goal.loop-part-preserved
loop-part-preserved c =
    let old = option_copied c.args.old in
    let top = option_copied c.args.top in
    let done = c.loop-part.yielded in
    let left = c.next.new.self.rest.items in
    let part = c.in-Some.part in
    let in_turn : done ++ part ∷ left ≡ c.args.parts.items = ap (λ t. done ++ t) (sym c.in-Some.ensures.steps.0) ∙ c.loop-part.invariant.split in
    record {
      split = append_assoc done (part ∷ []) left ∙ in_turn;
      gathered = gathered_more c.args.version c.args.head (length done) _ old top c.in_ok-fresh.field-0 _ _ _ _ (length-append done (part ∷ [])) c.loop-part.invariant.gathered
          (IfOk-at_ok (ArePartLists c.args.version old top (length done)) c.in_ok-fresh.was (part_in_turn c.args.version old top c.args.parts.items done left part c.requires.parts in_turn))
          c.in_ok-append.ensures c.in_ok-append-2.ensures.items;
    }

pub returns-clause-fresh : goal.returns-clause-fresh
returns-clause-fresh c es before under =
    let rest = c.loop-part.part-iterator.rest in
    let none = nil_from_length rest.items (sym rest.ok.0 ∙ c.in-None.ensures.steps.0) in
    gathered_fresh c.args.version c.args.head (length c.loop-part.yielded) (option_copied c.args.old) (option_copied c.args.top) _ _ es before
    (ap length (sym (append-nil c.loop-part.yielded) ∙ ap (λ t. c.loop-part.yielded ++ t) (sym none) ∙ c.loop-part.invariant.split) ∙ c.requires.parts.long) c.loop-part.invariant.gathered under

pub returns-clause-stale : goal.returns-clause-stale
returns-clause-stale c over =
    let rest = c.loop-part.part-iterator.rest in
    let none = nil_from_length rest.items (sym rest.ok.0 ∙ c.in-None.ensures.steps.0) in
    gathered_stale c.args.version c.args.head (length c.loop-part.yielded) (option_copied c.args.old) (option_copied c.args.top) _ _
    (ap length (sym (append-nil c.loop-part.yielded) ∙ ap (λ t. c.loop-part.yielded ++ t) (sym none) ∙ c.loop-part.invariant.split) ∙ c.requires.parts.long) c.loop-part.invariant.gathered over
