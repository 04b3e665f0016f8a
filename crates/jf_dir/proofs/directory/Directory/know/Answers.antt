use Rattle.std.proofs.Common.{◌≡◌, ◌≤◌, ℕ, List, length, subst}
use Rattle.std.specs.FinMap.{entries}
use Rattle.std.specs.List.{AllByRecursion}
use Rattle.jf_path.specs.Limits.{max_value}
use Rattle.jf_model.specs.Nodes.{kept_nodes}
use Rattle.jf_model.specs.Versions.{IsVersions}
use Rattle.jf_codec.specs.declared.format.Format.TheVariants as format
use Rattle.jf_standing.specs.Named.{map_at}
use Rattle.jf_standing.specs.Standing.{Standing, versions_of}
use Rattle.jf_standing.proofs.KeptCount.{count-kept_nodes}
use Rattle.jf_standing.proofs.VersionsOf.{sound-versions}
use Rattle.jf_dir.proofs.Lookups.{held-short}
use Rattle.jf_dir.proofs.directory.Directory.know.Goals as goal

pub returns-clause-short : goal.returns-clause-short
returns-clause-short c = subst (λ (s : Standing). (w : ℕ) → s.floor ≤ w → w ≤ s.head → AllByRecursion (λ (e : List ℕ × List ℕ). length e.1 ≤ max_value) (entries (map_at w s.nodes))) c.self.view_is (held-short _ _ _ _ _ _ c.self.invariant)

pub returns-clause-kept : goal.returns-clause-kept
returns-clause-kept c = subst (λ (s : Standing). length s.nodes ≡ kept_nodes (versions_of s)) c.self.view_is (count-kept_nodes format.Two _ c.self.invariant.read c.self.invariant.sound)

pub returns-clause-versions : goal.returns-clause-versions
returns-clause-versions c = subst (λ (s : Standing). IsVersions (versions_of s)) c.self.view_is (sound-versions format.Two _ c.self.invariant.sound c.self.invariant.read.keys c.self.invariant.read.hashes)
