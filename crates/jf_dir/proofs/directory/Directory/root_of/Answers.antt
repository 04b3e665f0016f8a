use Rattle.std.proofs.Common.{◌≡◌, ◌-◌, ◌<◌, ◌≤◌, List, ℕ, length, ap, ◌∙◌, subst, arith}
use Rattle.std.specs.Prelude.{slice_index_or}
use Rattle.jf_model.specs.Versions.{root_of}
use Rattle.jf_standing.specs.Standing.{Standing, versions_of}
use Rattle.jf_dir.proofs.Lookups.{held-root}
use Rattle.jf_dir.proofs.directory.Directory.root_of.Goals as goal

pub returns : goal.returns
returns c =
    let low = c.in_ok-place.ensures.0 in
    let place = c.in_ok-place.ensures.1 in
    let r = c.in_ok-root.root.now in
    let rs = c.self.inside.roots.items in
    let lookup = c.in_ok-root.ensures.lookup in
    let at : r ≡ slice_index_or rs (c.args.version - c.self.inside.base) r = lookup.1 ∙ ap (λ (ts : List (List ℕ)). slice_index_or ts c.in_ok-place.place r) c.deref.ensures.value ∙ ap (λ i. slice_index_or rs i r) place in
    let lt : c.args.version - c.self.inside.base < length rs = subst (λ i. i < length rs) place (subst (λ (ts : List (List ℕ)). c.in_ok-place.place < length ts) c.deref.ensures.value lookup.3.0) in
    let found = held-root _ _ _ _ _ _ c.self.invariant c.args.version r low lt at in
    subst (λ (s : Standing). ((s.base ≤ c.args.version) × (c.args.version ≤ s.head)) × (r ≡ root_of (versions_of s) c.args.version)) c.self.view_is
    ((let base = c.self.invariant.base in omega arith, found.0), found.1)
