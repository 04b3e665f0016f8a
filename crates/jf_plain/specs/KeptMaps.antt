-- A list of plain maps as versions of the model.
use Rattle.std.specs.Prelude.{◌-◌, List, map, reverse, length, ◌^◌, ◌<◌}
use Rattle.jf_model.specs.Versions.{Versions, IsVersions}
use Rattle.jf_plain.specs.declared.versions.Version.{Version}

-- the versions of a list that has the oldest first
abbrev pub versions_of_list : List Version → Versions
versions_of_list vs = record { base = 0; floor = 0; head = length vs - 1; roots = map (λ v. v.root) (reverse vs); maps = map (λ v. v.map) (reverse vs) }

-- at least one version, and a head of at most 2^64 - 2
pub record AreKeptVersions (vs : List Version) : Type 0 where
  pub some : 0 < length vs
  pub few : length vs < 2 ^ 64
  pub sound : IsVersions (versions_of_list vs)
