-- Names and nodes at the front of bytes: where each ends, and what is there.
use Rattle.std.proofs.Common.{◌≡◌, ℕ, ◌<◌, ◌≤◌, List, [], ◌∷◌, ◌++◌, length, Result, Ok, Err, Bor, count_ones, refl, sym, ap, ◌∙◌, subst, append_assoc, ap₂, arith}
use Rattle.std.proofs.lemmas.List.{append-nil}
use Rattle.std.specs.List.{flat_map, AllByRecursion}
use Rattle.jf_path.specs.Keys.{IsKey, IsBytes}
use Rattle.jf_path.specs.Limits.{max_value}
use Rattle.jf_path.specs.Numbers.{two_bytes}
use Rattle.jf_path.specs.declared.children.Child.{Child}
use Rattle.jf_path.specs.declared.node.PlainNode.{PlainNode}
use Rattle.jf_path.specs.declared.node.PlainNode.TheVariants as node
use Rattle.jf_path.proofs.ByteLaws.{AreBytes, AreBytes-at_places, IsBytes-from_places}
use Rattle.jf_codec.specs.declared.fault.CodecFault.{CodecFault}
use Rattle.jf_codec.specs.declared.format.Format.{Format}
use Rattle.jf_codec.specs.declared.format.Format.TheVariants as format
use Rattle.jf_codec.specs.Reading.{bytes_at, two_at, leaf_at, node_at}
use Rattle.jf_codec.specs.Spelling.{IsNode, tag, node_bytes, child_bytes, bitmap, leaf_children}
use Rattle.jf_codec.proofs.Bits.{bitmap-small, ones-bitmap}
use Rattle.jf_codec.proofs.Counted.{in_format-same, nibbles_of}
use Rattle.jf_codec.proofs.FieldLaws.{ok_is, two_again, bytes_again}
use Rattle.jf_codec.proofs.Lengths.{whole_hashes}
use Rattle.jf_codec.proofs.Nodes.{node_takes}
use Rattle.jf_standing.proofs.NodesRead.{node_read}
use Rattle.jf_landing.specs.Scanned.{GivenMemory, leaf_alone}

-- what comes behind the first of some bytes
abbrev behind_first : List ℕ → List ℕ
behind_first [] = []
behind_first (b ∷ bytes) = bytes

abbrev first_or_none : List ℕ → ℕ
first_or_none [] = 0
first_or_none (b ∷ bytes) = b

-- ---- leaves
pub leaf_read : (fmt : Format) (key value bytes tail : List ℕ) → IsNode fmt (node.Leaf key value) → 1 ∷ bytes ≡ node_bytes fmt (node.Leaf key value) ++ tail → leaf_at bytes ≡ Ok (node.Leaf key value, tail)
unfolding node_at
leaf_read fmt key value bytes tail is e = node_read fmt (node.Leaf key value) (1 ∷ bytes) tail is e

pub leaf_short : (bytes key value rest : List ℕ) → AreBytes bytes → leaf_at bytes ≡ Ok (node.Leaf key value, rest) → IsKey key × IsBytes value × (length value ≤ max_value)
unfolding node_at
leaf_short bytes key value rest fits e = (node_takes (1 ∷ bytes) (node.Leaf key value, rest) (AreBytes-at_places (1 ∷ bytes) (omega arith, IsBytes-from_places bytes fits)) e).1

-- ---- which node it is
pub node_some : (fmt : Format) (n : PlainNode) (tail : List ℕ) → 0 < length (node_bytes fmt n ++ tail)
unfolding node_bytes
node_some fmt node.Null tail = omega arith
node_some fmt (node.Leaf key value) tail = omega arith
node_some fmt (node.Inner cs) tail = omega arith

pub null_told : (fmt : Format) (n : PlainNode) (bytes tail : List ℕ) → 0 ∷ bytes ≡ node_bytes fmt n ++ tail → (bytes ≡ tail) × (leaf_alone n ≡ [])
unfolding node_bytes
null_told fmt node.Null bytes tail e = (ap behind_first e, refl)
null_told fmt (node.Leaf key value) bytes tail e = absurd (let f : 0 ≡ 1 = ap first_or_none e in omega (arith, f))
null_told format.One (node.Inner cs) bytes tail e = absurd (let f : 0 ≡ 2 = ap first_or_none e in omega (arith, f))
null_told format.Two (node.Inner cs) bytes tail e = absurd (let f : 0 ≡ 3 = ap first_or_none e in omega (arith, f))

pub leaf_told : (fmt : Format) (n : PlainNode) (bytes tail : List ℕ) → 1 ∷ bytes ≡ node_bytes fmt n ++ tail → (key value : List ℕ) × (n ≡ node.Leaf key value)
unfolding node_bytes
leaf_told fmt node.Null bytes tail e = absurd (let f : 1 ≡ 0 = ap first_or_none e in omega (arith, f))
leaf_told fmt (node.Leaf key value) bytes tail e = (key, value, refl)
leaf_told format.One (node.Inner cs) bytes tail e = absurd (let f : 1 ≡ 2 = ap first_or_none e in omega (arith, f))
leaf_told format.Two (node.Inner cs) bytes tail e = absurd (let f : 1 ≡ 3 = ap first_or_none e in omega (arith, f))

pub inner_told : (fmt : Format) (n : PlainNode) (first : ℕ) (bytes tail : List ℕ) → (first ≡ 0 → ⊥) → (first ≡ 1 → ⊥) → first ∷ bytes ≡ node_bytes fmt n ++ tail → (cs : List Child) × (n ≡ node.Inner cs)
unfolding node_bytes
inner_told fmt node.Null first bytes tail null leaf e = absurd (null (ap first_or_none e))
inner_told fmt (node.Leaf key value) first bytes tail null leaf e = absurd (leaf (ap first_or_none e))
inner_told fmt (node.Inner cs) first bytes tail null leaf e = (cs, refl)

-- ---- internal nodes
pub hashes_in : (fmt : Format) (cs : List Child) → IsNode fmt (node.Inner cs) → AllByRecursion (λ c. length c.hash ≡ 32) cs
hashes_in fmt cs is = whole_hashes fmt cs (subst (IsNode fmt) (sym (in_format-same fmt (node.Inner cs) is)) is)

module _ (fmt : Format) (cs : List Child) (bytes tail : List ℕ) (is : IsNode fmt (node.Inner cs)) (e : bytes ≡ node_bytes fmt (node.Inner cs) ++ tail) where
  -- what comes behind the first bitmap
  abbrev behind_bits : List ℕ
  behind_bits = two_bytes (bitmap (leaf_children cs)) ++ (flat_map (child_bytes fmt) cs ++ tail)

  tag_read : bytes_at 1 bytes ≡ Ok (tag fmt ∷ [], two_bytes (bitmap cs) ++ behind_bits)
  unfolding node_bytes
  tag_read =
      let a = two_bytes (bitmap cs) in
      let b = two_bytes (bitmap (leaf_children cs)) in
      let f = flat_map (child_bytes fmt) cs in
      ap (bytes_at 1) (e ∙ ap (λ (x : List ℕ). tag fmt ∷ x) (append_assoc (a ++ b) f tail ∙ append_assoc a b (f ++ tail))) ∙ bytes_again 1 (tag fmt ∷ []) (a ++ behind_bits) refl

  pub tag_there : (f : CodecFault) → bytes_at 1 bytes ≡ Err f → ⊥
  tag_there f failed = let both = sym tag_read ∙ failed in absurd cc

  module _ (first body : List ℕ) (told : bytes_at 1 bytes ≡ Ok (first, body)) where
    bits_read : two_at body ≡ Ok (bitmap cs, behind_bits)
    bits_read =
        ap two_at (ap (λ (p : List ℕ × List ℕ). p.1) (ok_is (first, body) (tag fmt ∷ [], two_bytes (bitmap cs) ++ behind_bits) (sym told ∙ tag_read)))
        ∙ two_again (bitmap cs) behind_bits (bitmap-small cs is.1 (nibbles_of fmt cs is.2))

    pub bits_there : (f : CodecFault) → two_at body ≡ Err f → ⊥
    bits_there f failed = let both = sym bits_read ∙ failed in absurd cc

    pub counted : (exist : ℕ) (after : List ℕ) → two_at body ≡ Ok (exist, after) → length cs ≡ count_ones exist
    counted exist after read =
        let same : exist ≡ bitmap cs = ap (λ (p : ℕ × List ℕ). p.0) (ok_is (exist, after) (bitmap cs, behind_bits) (sym read ∙ bits_read)) in
        sym (ap count_ones same ∙ ones-bitmap 0 cs is.1)

  module _ (size : ℕ) (long : size ≡ length (node_bytes fmt (node.Inner cs))) where
    ends : bytes_at size bytes ≡ Ok (node_bytes fmt (node.Inner cs), tail)
    ends = ap₂ (λ n bs. bytes_at n bs) long e ∙ bytes_again (length (node_bytes fmt (node.Inner cs))) (node_bytes fmt (node.Inner cs)) tail refl

    pub end_there : (f : CodecFault) → bytes_at size bytes ≡ Err f → ⊥
    end_there f failed = let both = sym ends ∙ failed in absurd cc

    pub end_told : (text rest : List ℕ) → bytes_at size bytes ≡ Ok (text, rest) → rest ≡ tail
    end_told text rest read = ap (λ (p : List ℕ × List ℕ). p.1) (ok_is (text, rest) (node_bytes fmt (node.Inner cs), tail) (sym read ∙ ends))

-- ---- a node that is no leaf
pub given : (r : Result (Bor (List ℕ)) CodecFault) (tail : List ℕ) (leaves : List (List ℕ × List ℕ)) (n : PlainNode) → leaf_alone n ≡ [] → GivenMemory (λ rest. rest.now ≡ tail) r → GivenMemory (λ rest. (rest.now ≡ tail) × (leaves ≡ leaves ++ leaf_alone n)) r
given (Ok rest) tail leaves n none is = (is, sym (ap (λ es. leaves ++ es) none ∙ append-nil leaves))
given (Err f) tail leaves n none is = is
