-- How a call answers what was looked up, and what follows from its answer.
use Rattle.std.specs.Prelude.{◌≡◌, ◌≢◌, ◌<◌, ◌^◌, ◌+◌, ◌++◌, ℕ, List, length, take, drop, Option, Some, None, Result, Ok, Err, if◌then◌else◌, nat_le, ◌==◌, option_map, IfSome}
use Rattle.std.specs.FinMap.{get}
use Rattle.jf_hash.specs.Hashes.{K}
use Rattle.jf_hash.specs.Maps.{Map, IsMap}
use Rattle.jf_hash.specs.Roots.{root}
use Rattle.jf_evidence.specs.Proofs.{honest}
use Rattle.jf_evidence.specs.Inputs.{Collides}
use Rattle.jf_blocks.specs.Blocks.{proof_lines}
use Rattle.jf_blocks.specs.Laws.{FitsProofBlock}
use Rattle.jf_ask.specs.Lookups.{lookup_clash, lookup_number, proof_line_text}
use Rattle.jf_ask.specs.declared.lookup.LookupFault.{LookupFault}

-- what a reply shows of a name: its value or its absence, or why it shows nothing
abbrev pub LookupResult : Type 0
LookupResult = Result (Option (List ℕ)) LookupFault

-- ---- values in the caller's room
-- 0 if a value fits, and otherwise 2
abbrev pub value_number : List ℕ → List ℕ → ℕ
value_number room v = if nat_le (length v) (length room) then 0 else 2

-- the room with a value at its front, if it fits, and otherwise as it was
abbrev pub filled_room : List ℕ → List ℕ → List ℕ
filled_room room v = if nat_le (length v) (length room) then v ++ drop (length v) room else room

-- ---- answers
-- 0 or 2 for a value, 1 for its absence, and 16 and the number of why nothing is shown
abbrev pub answer_number : List ℕ → LookupResult → ℕ
answer_number room (Ok (Some v)) = value_number room v
answer_number room (Ok None) = 1
answer_number room (Err why) = 16 + lookup_number why

-- the room after the answer: only a value that fits changes it
abbrev pub room_after : List ℕ → LookupResult → List ℕ
room_after room (Ok (Some v)) = filled_room room v
room_after room (Ok None) = room
room_after room (Err why) = room

-- the length after the answer: that of a value, whether it fits or not, and otherwise what it was
abbrev pub length_after : ℕ → LookupResult → ℕ
length_after n (Ok (Some v)) = length v
length_after n (Ok None) = n
length_after n (Err why) = n

-- a call answers what was shown, by its number, the caller's room and the length
pub record IsAnswer (shown : LookupResult) (room room' : List ℕ) (n n' number : ℕ) : Type 0 where
  pub number_is : number ≡ answer_number room shown
  pub room_is : room' ≡ room_after room shown
  pub length_is : n' ≡ length_after n shown

-- ---- what follows
-- what an answer says of a name: after 0 the value in the room, after 1 that there is none
abbrev pub claim_of_number : List ℕ → ℕ → ℕ → Option (Option (List ℕ))
claim_of_number room n number = if number == 0 then Some (Some (take n room)) else if number == 1 then Some None else None

-- what is said under the root of a map is what the map says of the name, or two different lists with one SHA-256 are at hand
abbrev pub IsSoundAsk : List ℕ → List ℕ → List ℕ → List ℕ → ℕ → ℕ → Type 0
IsSoundAsk top name text room n number =
    (m : Map) (claim : Option (List ℕ)) → IsMap m → root m ≡ top → claim_of_number room n number ≡ Some claim → claim ≢ get m (K name) → Collides (lookup_clash m name text)

-- after 2 the name has a value of the returned length in a map with the root, or two lists colliding in SHA-256 are at hand
abbrev pub IsSoundRoom : List ℕ → List ℕ → List ℕ → ℕ → ℕ → Type 0
IsSoundRoom top name text n number =
    (m : Map) → IsMap m → root m ≡ top → number ≡ 2 → option_map length (get m (K name)) ≢ Some n → Collides (lookup_clash m name text)

-- a map's own reply to `prove`, with any number or without `n ok`, is answered as what the map says of the name
abbrev pub IsFairAsk : List ℕ → List ℕ → List ℕ → List ℕ → List ℕ → ℕ → ℕ → ℕ → Type 0
IsFairAsk top name text room room' n n' answer =
    (m : Map) (number : Option ℕ) → IsMap m → root m ≡ top → FitsProofBlock name (get m (K name)) (honest m (K name)) → IfSome number (λ i. i < 2 ^ 64)
    → text ≡ proof_line_text number (length (honest m (K name)).siblings) ++ proof_lines name (get m (K name)) (honest m (K name)) → IsAnswer (Ok (get m (K name))) room room' n n' answer
