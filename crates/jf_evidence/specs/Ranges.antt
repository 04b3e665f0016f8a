-- Proofs of a chunk: the root that the entries up to a last key determine, the checks on a chunk, and the honest one.
use Rattle.std.specs.Prelude.{ℕ, List, [], ◌∷◌, None, ◌-◌, take, length, zero, suc, ◌+◌, if◌then◌else◌, Bool, not, ◌++◌, drop, ◌||◌, ◌==◌, nat_lt, nat_le, bytes_eq, Option}
use Rattle.std.specs.FinMap.{is_sorted, entries}
use Rattle.std.specs.List.{last_or, list_any}
use Rattle.std.specs.Option.{unwrap_or}
use Rattle.jf_path.specs.Keys.{bit, key_cmp}
use Rattle.jf_path.specs.Nibbles.{common_bits}
use Rattle.jf_path.specs.Checks.{first_of}
use Rattle.jf_hash.specs.Hashes.{L, N, V}
use Rattle.jf_hash.specs.Roots.{zeros, ones, part_root}
use Rattle.jf_hash.specs.Maps.{Map}
use Rattle.jf_evidence.specs.declared.range_proof.RangeProof.{RangeProof}
use Rattle.jf_evidence.specs.declared.range_proof.RangeFault.{RangeFault}
use Rattle.jf_evidence.specs.Proofs.{honest}
use Rattle.jf_evidence.specs.declared.range_proof.RangeFault.TheVariants as fault

-- ---- the highest sibling first
-- the first of hashes, or the empty list if there is none
abbrev pub first_hash : List (List ℕ) → List ℕ
first_hash [] = []
first_hash (t ∷ ts) = t

-- a key and its value
abbrev pub KeyAndValue : Type 0
KeyAndValue = List ℕ × List ℕ

-- entries in the order of their keys
abbrev pub Entries : Type 0
Entries = List KeyAndValue

-- the last of entries, or an empty entry if there is none
abbrev pub last_entry : Entries → KeyAndValue
last_entry es = unwrap_or (last_or None es) ([], [])

-- the key of the last entry
abbrev pub last_key : Entries → List ℕ
last_key es = (last_entry es).0

-- a list without its last element
abbrev pub all_but_last : {X : Type 0} → List X → List X
all_but_last xs = take (length xs - 1) xs

-- the last of hashes, or the empty list if there is none
abbrev pub last_hash : List (List ℕ) → List ℕ
last_hash xs = unwrap_or (last_or None xs) []

-- ---- the result of a chunk
-- the root of entries that agree in their first d bits, by n bits more of the last one's key: at its end the last entry's leaf; at a 0 bit the right sibling of that bit,
-- which stands after those of the lower bits; at a 1 bit the entries whose bit is 0 are all there
unfoldable pub range_root_below : ℕ → ℕ → List ℕ → Entries → List (List ℕ) → List ℕ
range_root_below zero d key es right = L (last_entry es).0 (V (last_entry es).1)
range_root_below (suc n) d key es right =
    if bit key d then N (part_root (d + 1) (zeros d es)) (range_root_below n (d + 1) key (ones d es) right)
    else N (range_root_below n (d + 1) key es (all_but_last right)) (last_hash right)

-- the root that entries and a proof determine
unfoldable pub range_root : Entries → RangeProof → List ℕ
range_root es proof = range_root_below proof.depth 0 (last_key es) es proof.siblings

-- ---- checks
-- the number of 0 bits among n bits of a key, from bit d on
unfoldable pub zero_bits : ℕ → ℕ → List ℕ → ℕ
zero_bits zero d key = 0
zero_bits (suc n) d key = if bit key d then zero_bits n (d + 1) key else 1 + zero_bits n (d + 1) key

-- the keys don't ascend strictly, from the last known one on
abbrev pub is_disordered : Entries → Entries → Bool
is_disordered known fresh = not (is_sorted key_cmp (drop (length known - 1) known ++ fresh))

-- the depth is too great, or the siblings aren't as many as a key's 0 bits among its first `depth` bits
abbrev pub is_miscounted : List ℕ → RangeProof → Bool
is_miscounted key proof = nat_lt 256 proof.depth || not (length proof.siblings == zero_bits proof.depth 0 key)

-- another entry agrees with the last key in its first `depth` bits
abbrev pub is_crowded : Entries → RangeProof → Bool
is_crowded es proof = list_any (λ e. nat_le proof.depth (common_bits e.0 (last_key es))) (all_but_last es)

-- why new entries after known ones are refused under a root: the first check that fails
unfoldable pub range_refusal : List ℕ → Entries → Entries → RangeProof → Option RangeFault
range_refusal root known fresh proof =
    first_of ((length fresh == 0, fault.Empty)
    ∷ (is_disordered known fresh, fault.Order)
    ∷ (is_miscounted (last_key fresh) proof, fault.Count)
    ∷ (is_crowded (known ++ fresh) proof, fault.Lone)
    ∷ (not (bytes_eq (range_root (known ++ fresh) proof) root), fault.WrongRoot) ∷ [])

-- ---- the honest chunk
-- the entries of a map from a place on, as many as asked or as there are
abbrev pub chunk_entries : Map → ℕ → ℕ → Entries
chunk_entries m start count = take count (drop start (entries m))

-- the siblings at the 0 bits of a key, of siblings that stand with the lowest first
unfoldable pub right_siblings : List ℕ → List (List ℕ) → List (List ℕ)
right_siblings key [] = []
right_siblings key (s ∷ ss) = if bit key (length ss) then right_siblings key ss else s ∷ right_siblings key ss

-- the proof of a key's entry, for a chunk that ends with it
abbrev pub range_proof_of : Map → List ℕ → RangeProof
range_proof_of m key = let siblings = (honest m key).siblings in record { depth = length siblings; siblings = right_siblings key siblings }

-- the proof of the entries from a place on
unfoldable pub honest_chunk : Map → ℕ → ℕ → RangeProof
honest_chunk m start count = range_proof_of m (last_key (chunk_entries m start count))
