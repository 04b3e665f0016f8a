use Rattle.std.proofs.Common.{ap, ◌∙◌}
use Rattle.rayon.proofs.ToStd.{slice-AllZip}
use Rattle.jf_update.specs.ValueHashes.{IsValueHash}
use Rattle.jf_update.proofs.hashing.value_hashes.Goals as goal

pub returns : goal.returns
returns g c =
    let slice = ap (λ it. it.slice.now) c.map.ensures.base ∙ c.par_iter.ensures in
    let made = c.in_ok-hashes.ensures in
    let chain = made.1 in
    record { each = rw made.2 (slice-AllZip chain.0 c.args.entries.now (chain.1 ∙ slice) IsValueHash made.0 chain.2) }
