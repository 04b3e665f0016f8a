use Rattle.std.proofs.Common.{◌∙◌, ap, sym, option_copied, take, drop}
use Rattle.jf_hash.proofs.Present.{hash-last, hash-no_last}
use Rattle.jf_hash.proofs.refreshing.hash_in.Goals as goal

pub returns-in-Some : goal.returns-in-Some
returns-in-Some g c level small long are =
    hash-last level (take c.args.width (drop c.args.start (g.P.Places.slots c.args.places.now))) c.args.kept.now c.in-Some.hash.now are (sym c.last.ensures.value ∙ ap option_copied c.in-Some.is)

pub returns-in-None : goal.returns-in-None
returns-in-None g c level small long are =
    c.first_in.ensures ∙ hash-no_last level (take c.args.width (drop c.args.start (g.P.Places.slots c.args.places.now))) c.args.kept.now long are (sym c.last.ensures.value ∙ ap option_copied c.in-None.is)
