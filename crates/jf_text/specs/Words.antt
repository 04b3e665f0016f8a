-- The words of a line, and how words write numbers, names, hashes and values (docs/FORMATS.md, Scripts).
use Rattle.std.specs.Prelude.{◌≡◌, ℕ, ◌+◌, ◌-◌, ◌*◌, ◌^◌, Bool, if◌then◌else◌, ◌==◌, ◌&&◌, nat_le, nat_lt, List, [], ◌∷◌, ◌++◌, length, take, Option, Some, None, option_and_then, decimal, bytes_eq, fold}
use Rattle.std.specs.List.{slice_split, join_with_byte}
use Rattle.hex.specs.Hex.{encode_lower}
use Rattle.jf_path.specs.Limits.{max_value}

-- ---- limits

-- the most bytes of a line
abbrev pub max_line : ℕ
max_line = 8500

-- the most bytes of a name
abbrev pub max_name : ℕ
max_name = 128

-- the most entries of a chunk
abbrev pub max_chunk : ℕ
max_chunk = 1000

-- ---- words

-- the words of a line: the pieces between its spaces, some of which may be empty
unfoldable pub words : List ℕ → List (List ℕ)
words line = slice_split (λ b. b == 32) line

-- the line of these words: a space between each two, and 0A at the end
abbrev pub line_text : List (List ℕ) → List ℕ
line_text ws = join_with_byte 32 ws ++ 10 ∷ []

-- these words with a space before each
abbrev pub spaced_words : List (List ℕ) → List ℕ
spaced_words [] = []
spaced_words (w ∷ ws) = 32 ∷ w ++ spaced_words ws

-- whether a word is this keyword
abbrev pub is_word : List ℕ → List ℕ → Bool
is_word w v = bytes_eq w v

-- whether a line has more than 8,500 bytes
abbrev pub is_long : List ℕ → Bool
is_long line = nat_lt max_line (length line)

-- a function applied to two values, if both are there
abbrev pub both : {X Y Z : Type 0} → (X → Y → Z) → Option X → Option Y → Option Z
both f (Some x) (Some y) = Some (f x y)
both f (Some x) None = None
both f None y = None

-- the later text begins with the earlier one
abbrev pub Extends : List ℕ → List ℕ → Type 0
Extends before after = take (length before) after ≡ before

-- ---- numbers

-- the number that decimal digits write
abbrev pub digits_value : List ℕ → ℕ
digits_value w = fold (λ n c. n * 10 + (c - 48)) 0 w

-- the number whose decimal text a word is, below 2 ^ 64
unfoldable pub number : List ℕ → Option ℕ
number w = if bytes_eq w (decimal (digits_value w)) && nat_lt (digits_value w) (2 ^ 64) then Some (digits_value w) else None

-- a number of at most `most`
abbrev pub number_upto : ℕ → List ℕ → Option ℕ
number_upto most w = option_and_then (λ n. if nat_le n most then Some n else None) (number w)

-- a number from `least` to `most`
abbrev pub number_from : ℕ → ℕ → List ℕ → Option ℕ
number_from least most w = option_and_then (λ n. if nat_le least n then Some n else None) (number_upto most w)

-- ---- hexadecimal text

-- the value of a hexadecimal digit, `0` to `9` or `a` to `f`
abbrev pub digit : ℕ → Option ℕ
digit c = if nat_le 48 c && nat_le c 57 then Some (c - 48) else if nat_le 97 c && nat_le c 102 then Some (c - 87) else None

-- the byte that two digits write, the high half first
abbrev pub byte_of : ℕ → ℕ → Option ℕ
byte_of high low = both (λ h l. h * 16 + l) (digit high) (digit low)

-- the bytes that hexadecimal text writes, if all its digits are valid and even in number
unfoldable pub unhex : List ℕ → Option (List ℕ)
unhex [] = Some []
unhex (high ∷ []) = None
unhex (high ∷ low ∷ rest) = both ◌∷◌ (byte_of high low) (unhex rest)

-- the bytes that hexadecimal text writes, if there are `least` to `most` of them
abbrev pub bytes_within : ℕ → ℕ → List ℕ → Option (List ℕ)
bytes_within least most w = option_and_then (λ bytes. if nat_le least (length bytes) && nat_le (length bytes) most then Some bytes else None) (unhex w)

-- a name: 1 to 128 bytes
abbrev pub name_of : List ℕ → Option (List ℕ)
name_of w = bytes_within 1 max_name w

-- a hash or a key: 32 bytes
abbrev pub hash_of : List ℕ → Option (List ℕ)
hash_of w = bytes_within 32 32 w

-- a value: the sign `=`, then at most 4,096 bytes
abbrev pub value_of : List ℕ → Option (List ℕ)
value_of [] = None
value_of (sign ∷ digits) = if sign == 61 then bytes_within 0 max_value digits else None

-- the word that writes a value: `=` and its hexadecimal digits
abbrev pub value_word : List ℕ → List ℕ
value_word value = 61 ∷ encode_lower value
