-- Whether two files may be opened as a store, by what is seen of them.
use Rattle.std.specs.Prelude.{ℕ, Bool, true, false, not, nat_lt, nat_eq, ◌&&◌, ◌||◌, [], ◌∷◌, Option}
use Rattle.jf_path.specs.Checks.{first_of}
use Rattle.jf_folder.specs.declared.cause.FaultCause.{FaultCause}
use Rattle.jf_folder.specs.declared.cause.FaultCause.TheVariants as cause
use Rattle.jf_folder.specs.declared.seen.Seen.{Seen}
use Rattle.jf_folder.specs.declared.seen.Seen.TheVariants as seen

-- there is no file
abbrev pub is_missing : Seen → Bool
is_missing seen.Missing = true
is_missing (seen.There _ _) = false

-- a file has more than n bytes
abbrev pub has_more : ℕ → Seen → Bool
has_more n seen.Missing = false
has_more n (seen.There len _) = nat_lt n len

-- a file begins with an open gate, the byte 01
abbrev pub is_open : Seen → Bool
is_open seen.Missing = false
is_open (seen.There len first) = nat_lt 0 len && nat_eq first 1

-- a new store has this many bytes
abbrev pub new_store_len : ℕ
new_store_len = 101

-- exactly one of the two files is missing, and the other one may have held records
abbrev pub lacks_a_file : Seen → Seen → Bool
lacks_a_file a b = (is_missing a && has_more 1 b) || (is_missing b && has_more 1 a)

-- neither file begins with a record, and one has more bytes than the beginning of a new store
abbrev pub is_foreign : Seen → Seen → Bool
is_foreign a b = (not (is_open a) && not (is_open b)) && (has_more new_store_len a || has_more new_store_len b)

-- the files, or their names, may not have reached the device yet: side A holds no byte, or one of them was missing
abbrev pub is_beginning : Seen → Seen → Bool
is_beginning a b = not (has_more 0 a) || is_missing b

-- why no store is opened over two files, if it isn't
abbrev pub store_refusal : Seen → Seen → Option FaultCause
store_refusal a b = first_of ((lacks_a_file a b, cause.FileMissing) ∷ (is_foreign a b, cause.NotAStore) ∷ [])
