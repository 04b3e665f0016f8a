-- Codes for bytes, maps and batches, so that a model of a type may hold them.
use Rattle.std.specs.Prelude.{ℕ, List}
use Rattle.std.specs.Coded.{Coded, coded×, coded_list, coded_option, coded_ℕ}
use Rattle.std.specs.FinMap as map
use Rattle.jf_hash.specs.Maps.{Map, Batch}

-- the code of a list of bytes
abbrev pub bytes_code : Coded (List ℕ)
bytes_code = coded_list coded_ℕ

-- the code of a map
abbrev pub map_code : Coded Map
map_code = map.code bytes_code bytes_code

-- the code of a batch
abbrev pub batch_code : Coded Batch
batch_code = coded_list (coded× bytes_code (coded_option bytes_code))
