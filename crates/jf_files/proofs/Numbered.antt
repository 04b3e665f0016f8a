-- A record that spells a checkpoint begins with its generation.
use Rattle.std.specs.Prelude.{flat_map}
use Rattle.std.proofs.Common.{◌≡◌, ℕ, ◌≤◌, List, ◌++◌, length, take, drop, sym, ap, ◌∙◌, append_assoc, take_at, take-append-drop, length-take-le, arith, length-append, ◌<◌, ◌^◌, true, refl, [], ◌∷◌, nat_le, subst, le-leb}
use Rattle.std.proofs.lemmas.Bool.{and_from}
use Rattle.std.proofs.lemmas.Nat.{from_be_bytes-to_be_bytes_8}
use Rattle.std.specs.Int.{from_be_bytes, w64}
use Rattle.jf_path.specs.Numbers.{eight_bytes}
use Rattle.jf_frame.specs.Framing.{number_of}
use Rattle.jf_frame.specs.Framed.{LogRecord}
use Rattle.jf_pair.specs.Files.{is_checkpoint, is_begun}
use Rattle.jf_codec.specs.declared.format.Format.{Format}
use Rattle.jf_codec.specs.declared.format.Format.TheVariants as format
use Rattle.jf_payload.specs.Spelling.{checkpoint_kind, list_bytes, live_bytes, record_bytes, IsSpelling}
use Rattle.jf_payload.specs.declared.records.Record.TheVariants as «record»
use Rattle.jf_standing.specs.Named.{NamedNode}
use Rattle.jf_files.specs.Files.{generation_in}

-- the number at the front of bytes, with more bytes after them
number_of-append : (xs ys : List ℕ) → 8 ≤ length xs → number_of (xs ++ ys) ≡ number_of xs
unfolding number_of
number_of-append xs ys long =
    let e : xs ++ ys ≡ take 8 xs ++ (drop 8 xs ++ ys) = ap (λ x. x ++ ys) (sym (take-append-drop 8 xs)) ∙ append_assoc (take 8 xs) (drop 8 xs) ys in
    ap (λ bytes. from_be_bytes w64 bytes) (ap (take 8) e ∙ take_at (take 8 xs) (drop 8 xs ++ ys) 8 (length-take-le 8 xs (omega arith)))

long-append : (xs ys : List ℕ) → 8 ≤ length xs → 8 ≤ length (xs ++ ys)
long-append xs ys long = omega (arith, length-append xs ys)

-- the number in eight bytes is the one written there
number_of-eight : (n : ℕ) → n < 2 ^ 64 → number_of (eight_bytes n) ≡ n
unfolding number_of eight_bytes
number_of-eight n fits = from_be_bytes-to_be_bytes_8 n fits

long-eight : (n : ℕ) → 8 ≤ length (eight_bytes n)
unfolding eight_bytes
long-eight n = omega arith

-- the number at the front of six parts is that of the first part
first_part : (a b c d e f : List ℕ) → 8 ≤ length a → (number_of (a ++ b ++ c ++ d ++ e ++ f) ≡ number_of a) × (8 ≤ length (a ++ b ++ c ++ d ++ e ++ f))
first_part a b c d e f long =
    let ab = long-append a b long in
    let abc = long-append (a ++ b) c ab in
    let abcd = long-append (a ++ b ++ c) d abc in
    let abcde = long-append (a ++ b ++ c ++ d) e abcd in (
      number_of-append (a ++ b ++ c ++ d ++ e) f abcde ∙ number_of-append (a ++ b ++ c ++ d) e abcd ∙ number_of-append (a ++ b ++ c) d abc ∙ number_of-append (a ++ b) c ab ∙ number_of-append a b long,
      long-append (a ++ b ++ c ++ d ++ e) f abcde,
    )

pub is_kind : (fmt : Format) → is_checkpoint (checkpoint_kind fmt) ≡ true
is_kind format.One = refl
is_kind format.Two = refl

pub are_numbered : (fmt : Format) (generation base floor head : ℕ) (roots : List (List ℕ)) (nodes : List NamedNode) (x : LogRecord)
    → IsSpelling fmt («record».Checkpoint generation base floor head roots nodes) x.kind x.payload
    → (is_begun (x ∷ []) ≡ true) × (generation_in (x ∷ []) ≡ generation)
unfolding record_bytes
are_numbered fmt generation base floor head roots nodes x is =
    let p = first_part (eight_bytes generation) (eight_bytes base) (eight_bytes floor) (eight_bytes head) (flat_map (λ h. h) roots) (list_bytes (live_bytes fmt) nodes) (long-eight generation) in
    let last = is.sound.generation_last in (
      and_from (is_checkpoint x.kind) (nat_le 8 (length x.payload)) (ap is_checkpoint is.kind_is ∙ is_kind fmt) (le-leb 8 (length x.payload) (subst (λ bytes. 8 ≤ length bytes) (sym is.payload_is) p.1)),
      ap number_of is.payload_is ∙ p.0 ∙ number_of-eight generation (omega arith),
    )
