-- The files of a new store, byte by byte (docs/FORMATS.md, "Records of nodes in bytes").
use Rattle.std.specs.Prelude.{ℕ, List, [], ◌∷◌, ◌++◌, replicate}
use Rattle.jf_disk.specs.Disk.{Files}

-- a number below 256 in eight bytes
abbrev pub in_eight : ℕ → List ℕ
in_eight n = replicate 7 0 ++ n ∷ []

-- the root of the empty map
abbrev pub empty_root : List ℕ
empty_root = 110 ∷ 52 ∷ 11 ∷ 156 ∷ 255 ∷ 179 ∷ 122 ∷ 152 ∷ 156 ∷ 165 ∷ 68 ∷ 230 ∷ 187 ∷ 120 ∷ 10 ∷ 44 ∷ 120 ∷ 144 ∷ 29 ∷ 63 ∷ 179 ∷ 55 ∷ 56 ∷ 118 ∷ 133 ∷ 17 ∷ 163 ∷ 6 ∷ 23 ∷ 175 ∷ 160 ∷ 29 ∷ []

-- generation 1; base, floor and head 0; the root; one node: version 0 and no nibble, no entry, not stale
abbrev pub new_store_payload : List ℕ
new_store_payload = in_eight 1 ++ replicate 24 0 ++ empty_root ++ in_eight 1 ++ replicate 9 0 ++ 0 ∷ [] ++ replicate 8 255

-- the 101 bytes of side A: an open gate, the kind, the length 90, the payload, and a closed gate
abbrev pub new_store_bytes : List ℕ
new_store_bytes = 1 ∷ 5 ∷ in_eight 90 ++ new_store_payload ++ 0 ∷ []

-- side A holds these bytes, and side B is empty
abbrev pub new_store_files : Files
new_store_files = record { a = new_store_bytes; b = [] }
