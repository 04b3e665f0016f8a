use Rattle.std.proofs.Common.{◌∙◌, ap, sym, get_or, cond, Some, None, take}
use Rattle.std.specs.List.{count_by}
use Rattle.std.specs.Prelude.{slice_get}
use Rattle.jf_path.proofs.BitmapLaws.{spread-here, get_or-spread}
use Rattle.jf_hash.proofs.ranges.Ranges.at.Goals as goal

pub returns-then-has : goal.returns-then-has
returns-then-has c =
    ap Some (c.index.ensures ∙ ap (λ n. get_or c.self.inside.hashes.items n c.index.result.now) c.rank.ensures)
    ∙ sym (spread-here c.self.inside.kept c.self.inside.hashes.items c.args.place c.index.result.now c.self.invariant (sym c.has.ensures ∙ c.if-has.true)) ∙ ap (λ hs. get_or hs c.args.place None) c.self.view_is

pub returns-else-has : goal.returns-else-has
returns-else-has c =
    sym (get_or-spread c.self.inside.kept c.self.inside.hashes.items c.args.place ∙ ap (λ b. cond b (slice_get c.self.inside.hashes.items (count_by (λ bit. bit) (take c.args.place c.self.inside.kept))) None) (sym c.has.ensures ∙ c.if-has.false))
    ∙ ap (λ hs. get_or hs c.args.place None) c.self.view_is
