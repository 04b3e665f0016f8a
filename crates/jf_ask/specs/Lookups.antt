-- What a reply to `prove` shows of a name under a root: it is one proof block, and nothing else.
use Rattle.std.specs.Prelude.{ℕ, List, [], ◌∷◌, ◌++◌, Option, Some, None, option_and_then, option_map, if◌then◌else◌, nat_le, bytes_eq, Result, Ok, Err, ◌≡◌, ◌≢◌, ◌<◌, ◌^◌, length, IfSome, codes, decimal}
use Rattle.std.specs.FinMap.{get}
use Rattle.jf_hash.specs.Hashes.{K}
use Rattle.jf_hash.specs.Maps.{Map, IsMap}
use Rattle.jf_hash.specs.Roots.{root}
use Rattle.jf_io.specs.Lines.{lines}
use Rattle.jf_evidence.specs.Proofs.{refusal, honest}
use Rattle.jf_evidence.specs.declared.proof.ProofFault.TheVariants as check
use Rattle.jf_evidence.specs.Inputs.{Collides}
use Rattle.jf_evidence.specs.Clashes.{clash}
use Rattle.jf_text.specs.Words.{unhex, line_text}
use Rattle.jf_script.specs.Replies.{reply_text}
use Rattle.jf_script.specs.declared.reply.Reply.TheVariants as reply
use Rattle.jf_blocks.specs.Blocks.{proof_lines}
use Rattle.jf_blocks.specs.Laws.{FitsProofBlock}
use Rattle.jf_blocks.specs.Reading.{Block, ReadResult, line_read, first_line_of, proof_block}
use Rattle.jf_blocks.specs.declared.first.FirstLine.{FirstLine}
use Rattle.jf_blocks.specs.declared.first.FirstLine.TheVariants as first
use Rattle.jf_ask.specs.declared.lookup.Lookup.{Lookup}
use Rattle.jf_ask.specs.declared.lookup.Lookup.TheVariants.{Value, Absent, Refused}
use Rattle.jf_ask.specs.declared.lookup.LookupFault.{LookupFault}
use Rattle.jf_ask.specs.declared.lookup.LookupFault.TheVariants as fault

-- ---- a text that is one block
-- how many siblings a block has, if this is its first line and they are at most 256
abbrev pub siblings_in : Option FirstLine → Option ℕ
siblings_in None = None
siblings_in (Some (first.Root root)) = None
siblings_in (Some (first.Proof n)) = if nat_le n 256 then Some n else None

abbrev pub siblings_of : List ℕ → Option ℕ
siblings_of line = siblings_in (line_read first_line_of line)

-- a block that was read, if no line comes after it
abbrev pub block_alone : ReadResult Block → Option Block
block_alone (Err at) = None
block_alone (Ok p) = elim p.1.left [ [] ↦ Some p.0 | line ∷ rest ↦ None ]

-- the proof block that lines are, from its first line on
unfoldable pub block_of : List (List ℕ) → Option Block
block_of [] = None
block_of (line ∷ rest) = option_and_then (λ n. block_alone (proof_block n (record { at = 2; left = rest }))) (siblings_of line)

-- ---- what it shows
-- what a block shows of a name under a root: its claim, if it is on this name and no check refuses the claim
abbrev pub lookup_in : List ℕ → List ℕ → Option Block → Result (Option (List ℕ)) LookupFault
lookup_in top name None = Err fault.NoBlock
lookup_in top name (Some b) = if bytes_eq b.0 name then elim (refusal top (K name) b.1 b.2) [ None ↦ Ok b.1 | Some why ↦ Err (fault.Claim why) ] else Err fault.OtherName

-- what a reply shows of a name under a root: its value or its absence, or why it shows nothing
unfoldable pub lookup : List ℕ → List ℕ → List ℕ → Result (Option (List ℕ)) LookupFault
lookup top name text = lookup_in top name (block_of (lines text))

-- what code returns, as a lookup: a value stands as its digits
abbrev pub lookup_of : Lookup → Option (Result (Option (List ℕ)) LookupFault)
lookup_of (Value digits) = option_map (λ v. Ok (Some v)) (unhex digits.now)
lookup_of Absent = Some (Ok None)
lookup_of (Refused why) = Some (Err why)

-- the number of why nothing is shown: that of the check of the claim that fails (docs/FORMATS.md, Proof blocks), 5 if the block is on
-- another name, and 6 if there is no block
abbrev pub lookup_number : LookupFault → ℕ
lookup_number (fault.Claim check.TooDeep) = 1
lookup_number (fault.Claim check.WrongLeaf) = 2
lookup_number (fault.Claim check.WrongPrefix) = 3
lookup_number (fault.Claim check.WrongRoot) = 4
lookup_number fault.OtherName = 5
lookup_number fault.NoBlock = 6

-- ---- what follows
-- where the block of a text and a map's honest proof, both on a name, come apart
abbrev pub lookup_clash : Map → List ℕ → List ℕ → Option (List ℕ × List ℕ)
lookup_clash m name text = option_and_then (λ b. clash (K name) b.1 b.2 (get m (K name)) (honest m (K name))) (block_of (lines text))

-- what a reply shows under the root of a map is what the map says of the name, or two different lists with one SHA-256 are at hand
abbrev pub IsSoundLookup : List ℕ → List ℕ → List ℕ → Type 0
IsSoundLookup top name text = (m : Map) (claim : Option (List ℕ)) → IsMap m → root m ≡ top → lookup top name text ≡ Ok claim → claim ≢ get m (K name) → Collides (lookup_clash m name text)

-- the first line of a block with so many siblings: the reply to the line with this number, or the same without its number and `ok`
abbrev pub proof_line_text : Option ℕ → ℕ → List ℕ
proof_line_text (Some n) siblings = reply_text n (reply.Proof siblings)
proof_line_text None siblings = line_text (codes "proof" ∷ decimal siblings ∷ [])

-- a map's own reply to `prove`, with any number or without `n ok`, shows what the map says of the name
abbrev pub IsFairLookup : List ℕ → List ℕ → List ℕ → Type 0
IsFairLookup top name text = (m : Map) (number : Option ℕ) → IsMap m → root m ≡ top → FitsProofBlock name (get m (K name)) (honest m (K name)) → IfSome number (λ n. n < 2 ^ 64)
    → text ≡ proof_line_text number (length (honest m (K name)).siblings) ++ proof_lines name (get m (K name)) (honest m (K name)) → lookup top name text ≡ Ok (get m (K name))

-- so it is for all roots, names and texts
abbrev pub HonestBlocksAreBelieved : Type 0
HonestBlocksAreBelieved = (top name text : List ℕ) → IsFairLookup top name text
