-- The text of replies (docs/FORMATS.md, Replies).
use Rattle.std.specs.Prelude.{ℕ, ◌^◌, ◌<◌, Bool, true, false, List, [], ◌∷◌, Some, None, codes, decimal}
use Rattle.hex.specs.Hex.{encode_lower, IsBytes}
use Rattle.jf_text.specs.Words.{line_text, value_word}
use Rattle.jf_script.specs.declared.reply.Refusal.{Refusal}
use Rattle.jf_script.specs.declared.reply.Refusal.TheVariants as refusal
use Rattle.jf_script.specs.declared.reply.Reply.{Reply}
use Rattle.jf_script.specs.declared.reply.Reply.TheVariants as reply

-- the word for a fork: `f` and its id
abbrev pub fork_word : ℕ → List ℕ
fork_word id = 102 ∷ decimal id

-- the words for a refusal, after `no`
abbrev pub refusal_words : Refusal → List (List ℕ)
refusal_words refusal.Syntax = codes "syntax" ∷ []
refusal_words refusal.Long = codes "long" ∷ []
refusal_words refusal.Pending = codes "pending" ∷ []
refusal_words refusal.Unknown = codes "unknown" ∷ []
refusal_words refusal.Gone = codes "gone" ∷ []
refusal_words (refusal.Keys count) = codes "keys" ∷ decimal count ∷ []
refusal_words (refusal.Future head) = codes "future" ∷ decimal head ∷ []
refusal_words (refusal.Retired bound) = codes "retired" ∷ decimal bound ∷ []
refusal_words refusal.PinsFull = codes "pinsfull" ∷ []
refusal_words refusal.NoPin = codes "nopin" ∷ []
refusal_words refusal.ForksFull = codes "forksfull" ∷ []
refusal_words (refusal.Range count) = codes "range" ∷ decimal count ∷ []
refusal_words refusal.Last = codes "last" ∷ []

-- the words of a reply, after its number
abbrev pub reply_words : Reply → List (List ℕ)
reply_words (reply.Pending count) = codes "ok" ∷ codes "pending" ∷ decimal count ∷ []
reply_words (reply.Commit version root) = codes "ok" ∷ codes "commit" ∷ decimal version ∷ encode_lower root ∷ []
reply_words (reply.Fork id root) = codes "ok" ∷ codes "fork" ∷ fork_word id ∷ encode_lower root ∷ []
reply_words (reply.Land version root) = codes "ok" ∷ codes "land" ∷ decimal version ∷ encode_lower root ∷ []
reply_words (reply.Drop count) = codes "ok" ∷ codes "drop" ∷ decimal count ∷ []
reply_words (reply.Value None) = codes "ok" ∷ codes "none" ∷ []
reply_words (reply.Value (Some value)) = codes "ok" ∷ codes "value" ∷ value_word value ∷ []
reply_words (reply.Root root) = codes "ok" ∷ codes "root" ∷ encode_lower root ∷ []
reply_words (reply.Proof siblings) = codes "ok" ∷ codes "proof" ∷ decimal siblings ∷ []
reply_words (reply.Chunk entries depth siblings) = codes "ok" ∷ codes "chunk" ∷ decimal entries ∷ decimal depth ∷ decimal siblings ∷ []
reply_words (reply.Count count) = codes "ok" ∷ codes "count" ∷ decimal count ∷ []
reply_words (reply.Nth key value) = codes "ok" ∷ codes "nth" ∷ encode_lower key ∷ value_word value ∷ []
reply_words (reply.Pin place) = codes "ok" ∷ codes "pin" ∷ decimal place ∷ []
reply_words (reply.Unpin version) = codes "ok" ∷ codes "unpin" ∷ decimal version ∷ []
reply_words (reply.Prune bound floor) = codes "ok" ∷ codes "prune" ∷ decimal bound ∷ decimal floor ∷ []
reply_words (reply.Compact generation) = codes "ok" ∷ codes "compact" ∷ decimal generation ∷ []
reply_words (reply.Status base floor retired head kept forks generation) =
    codes "ok" ∷ codes "status" ∷ codes "base" ∷ decimal base ∷ codes "floor" ∷ decimal floor ∷ codes "retired" ∷ decimal retired ∷ codes "head" ∷ decimal head
    ∷ codes "kept" ∷ decimal kept ∷ codes "forks" ∷ decimal forks ∷ codes "generation" ∷ decimal generation ∷ []
reply_words (reply.No why) = codes "no" ∷ refusal_words why

-- whether a reply is a refusal
abbrev pub is_refusal : Reply → Bool
is_refusal (reply.No why) = true
is_refusal r = false

-- the line of a reply: a number, the reply's words, and 0A
unfoldable pub reply_text : ℕ → Reply → List ℕ
reply_text n r = line_text (decimal n ∷ reply_words r)

-- the numbers of a refusal are below 2 ^ 64
abbrev pub RefusalInRange : Refusal → Type 0
RefusalInRange refusal.Syntax = Unit {0}
RefusalInRange refusal.Long = Unit {0}
RefusalInRange refusal.Pending = Unit {0}
RefusalInRange refusal.Unknown = Unit {0}
RefusalInRange refusal.Gone = Unit {0}
RefusalInRange (refusal.Keys count) = count < 2 ^ 64
RefusalInRange (refusal.Future head) = head < 2 ^ 64
RefusalInRange (refusal.Retired bound) = bound < 2 ^ 64
RefusalInRange refusal.PinsFull = Unit {0}
RefusalInRange refusal.NoPin = Unit {0}
RefusalInRange refusal.ForksFull = Unit {0}
RefusalInRange (refusal.Range count) = count < 2 ^ 64
RefusalInRange refusal.Last = Unit {0}

-- the numbers of a reply are below 2 ^ 64, and its roots and values are bytes
abbrev pub IsInRange : Reply → Type 0
IsInRange (reply.Pending count) = count < 2 ^ 64
IsInRange (reply.Commit version root) = (version < 2 ^ 64) × IsBytes root
IsInRange (reply.Fork id root) = (id < 2 ^ 64) × IsBytes root
IsInRange (reply.Land version root) = (version < 2 ^ 64) × IsBytes root
IsInRange (reply.Drop count) = count < 2 ^ 64
IsInRange (reply.Value None) = Unit {0}
IsInRange (reply.Value (Some value)) = IsBytes value
IsInRange (reply.Root root) = IsBytes root
IsInRange (reply.Proof siblings) = siblings < 2 ^ 64
IsInRange (reply.Chunk entries depth siblings) = (entries < 2 ^ 64) × (depth < 2 ^ 64) × (siblings < 2 ^ 64)
IsInRange (reply.Count count) = count < 2 ^ 64
IsInRange (reply.Nth key value) = IsBytes key × IsBytes value
IsInRange (reply.Pin place) = place < 2 ^ 64
IsInRange (reply.Unpin version) = version < 2 ^ 64
IsInRange (reply.Prune bound floor) = (bound < 2 ^ 64) × (floor < 2 ^ 64)
IsInRange (reply.Compact generation) = generation < 2 ^ 64
IsInRange (reply.Status base floor retired head kept forks generation) =
    (base < 2 ^ 64) × (floor < 2 ^ 64) × (retired < 2 ^ 64) × (head < 2 ^ 64) × (kept < 2 ^ 64) × (forks < 2 ^ 64) × (generation < 2 ^ 64)
IsInRange (reply.No why) = RefusalInRange why
