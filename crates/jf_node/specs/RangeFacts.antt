-- What holds of every range, whoever made it.
use Rattle.std.specs.Prelude.{◌^◌, ◌<◌, ◌≤◌, length}
use Rattle.std.specs.List.{AllByRecursion}
use Rattle.jf_path.specs.Limits.{max_value}
use Rattle.jf_path.specs.Keys.{IsBytes}
use Rattle.jf_hash.specs.Parts.{IsPart}
use Rattle.jf_node.specs.RangeValue.{RangeValue}

-- fewer than 2^64 entries, whose keys of 32 bytes rise strictly and agree in the first bits, and whose values have at
-- most 4,096 bytes; with two or more entries, there is a next bit by which to halve them
pub record IsRangeValue (v : RangeValue) : Type 0 where
  pub depth : v.depth ≤ 256
  pub deep : 2 ≤ length v.entries → v.depth < 256
  pub bounded : length v.entries < 2 ^ 64
  pub part : IsPart v.depth v.entries
  pub values : AllByRecursion (λ e. IsBytes e.1) v.entries
  pub short : AllByRecursion (λ e. length e.1 ≤ max_value) v.entries
