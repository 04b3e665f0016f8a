-- Numbers, hashes, names and nodes are read exactly as they are spelled.
use Rattle.std.proofs.Common.{◌≡◌, Some, Result, Ok, Err, ap, ℕ, arith, ◌<◌, List, [], ◌∷◌, ◌++◌, length, ◌^◌, true, false, cond, not, ◌==◌, refl, subst, None, sym, ◌∙◌}
use Rattle.std.proofs.lemmas.Option.{same_Some}
use Rattle.std.specs.List.{AllByRecursion, flat_map}
use Rattle.std.specs.Result.{result_ok}
use Rattle.jf_path.specs.Keys.{IsBytes, IsKey}
use Rattle.jf_path.specs.Numbers.{two_bytes, four_bytes, eight_bytes}
use Rattle.jf_path.specs.Paths.{packed_nibbles, path_bytes}
use Rattle.jf_path.specs.Names.{IsName}
use Rattle.jf_path.specs.declared.name.NodeName.{NodeName}
use Rattle.jf_path.specs.declared.children.Child.{Child}
use Rattle.jf_path.specs.declared.node.PlainNode.{PlainNode}
use Rattle.jf_path.specs.declared.node.PlainNode.TheVariants as node
use Rattle.jf_path.proofs.ByteLaws.{IsBytes-append, IsBytes-from_places, Takes}
use Rattle.jf_path.proofs.OptionLaws.{guard_kept}
use Rattle.jf_codec.specs.declared.fault.CodecFault.{CodecFault}
use Rattle.jf_codec.specs.Spelling.{name_bytes, count_bytes, child_bytes, IsChild, tag, node_bytes, bitmap, leaf_children, IsNode, format_of_children, AreEnough, IsValid, spelling}
use Rattle.jf_codec.specs.declared.format.Format.{Format}
use Rattle.jf_codec.specs.Reading.{eight_at, bytes_at, name_at, node_at}
use Rattle.jf_codec.specs.declared.format.Format.TheVariants as format
use Rattle.jf_codec.proofs.FieldLaws.{eight_takes, eight_again, bytes_take, bytes_again}
use Rattle.jf_codec.proofs.Names.{name_takes, name_again}
use Rattle.jf_codec.proofs.Nodes.{counted_format, node_takes, node_again}
use Rattle.jf_codec.proofs.Spellings.{one_spelling}
use Rattle.jf_payload.specs.Reading.{long_at, hash_at, named_at, has_counts, counts_fit, is_in, format_node_at}
use Rattle.jf_payload.proofs.Spells.{Spells, bind_some}

pub from_ok : {A : Type 0} (r : Result A CodecFault) (x : A) → result_ok r ≡ Some x → r ≡ Ok x
from_ok (Ok y) x e = ap Ok (same_Some y x e)
from_ok (Err f) x e = absurd cc

-- ---- spellings are bytes
IsBytes-two : (n : ℕ) → IsBytes (two_bytes n)
unfolding two_bytes
IsBytes-two n = (omega arith, (omega arith, tt))

IsBytes-four : (n : ℕ) → IsBytes (four_bytes n)
unfolding four_bytes
IsBytes-four n = (omega arith, (omega arith, (omega arith, (omega arith, tt))))

pub IsBytes-eight : (n : ℕ) → IsBytes (eight_bytes n)
unfolding eight_bytes
IsBytes-eight n = (omega arith, (omega arith, (omega arith, (omega arith, (omega arith, (omega arith, (omega arith, (omega arith, tt))))))))

IsBytes-packed : (path : List ℕ) → AllByRecursion (λ n. n < 16) path → IsBytes (packed_nibbles path)
IsBytes-packed [] small = tt
IsBytes-packed (n ∷ []) small = (let lt = small.0 in omega arith, tt)
IsBytes-packed (n ∷ m ∷ path) small = (let lt = small.0 in let lt' = small.1.0 in omega arith, IsBytes-packed path small.1.1)

IsBytes-name : (name : NodeName) → IsName name → IsBytes (name_bytes name)
unfolding path_bytes
IsBytes-name name is =
    IsBytes-append (eight_bytes name.version) (path_bytes name.path) (IsBytes-eight name.version) (let short = is.path.short in omega arith, IsBytes-packed name.path is.path.nibbles)

IsBytes-hash : (hash : List ℕ) → IsKey hash → IsBytes hash
IsBytes-hash hash is = IsBytes-from_places hash is.bytes

IsBytes-count : (fmt : Format) (n : ℕ) → IsBytes (count_bytes fmt n)
IsBytes-count format.One n = tt
IsBytes-count format.Two n = IsBytes-eight n

IsBytes-children : (fmt : Format) (cs : List Child) → AllByRecursion (IsChild fmt) cs → IsBytes (flat_map (child_bytes fmt) cs)
IsBytes-children fmt [] all = tt
IsBytes-children fmt (c ∷ cs) all =
    IsBytes-append (child_bytes fmt c) (flat_map (child_bytes fmt) cs)
    (IsBytes-append (eight_bytes c.version ++ count_bytes fmt c.count) c.hash (IsBytes-append (eight_bytes c.version) (count_bytes fmt c.count) (IsBytes-eight c.version) (IsBytes-count fmt c.count)) (IsBytes-hash c.hash all.0.hash))
    (IsBytes-children fmt cs all.1)

tag_fits : (fmt : Format) → tag fmt < 256
tag_fits format.One = omega arith
tag_fits format.Two = omega arith

IsBytes-node : (fmt : Format) (n : PlainNode) → IsNode fmt n → IsBytes (node_bytes fmt n)
unfolding node_bytes
IsBytes-node fmt node.Null is = (omega arith, tt)
IsBytes-node fmt (node.Leaf key value) is =
    (omega arith, IsBytes-append (key ++ four_bytes (length value)) value (IsBytes-append key (four_bytes (length value)) (IsBytes-hash key is.0) (IsBytes-four (length value))) is.1)
IsBytes-node fmt (node.Inner cs) is =
    (tag_fits fmt, IsBytes-append (two_bytes (bitmap cs) ++ two_bytes (bitmap (leaf_children cs))) (flat_map (child_bytes fmt) cs) (IsBytes-append (two_bytes (bitmap cs)) (two_bytes (bitmap (leaf_children cs))) (IsBytes-two (bitmap cs)) (IsBytes-two (bitmap (leaf_children cs)))) (IsBytes-children fmt cs is.2))

-- ---- fields
pub number_spells : Spells eight_bytes (λ n. n < 2 ^ 64) long_at
number_spells = record {
  takes = λ bytes x bs e. eight_takes bytes x bs (from_ok (eight_at bytes) x e);
  again = λ n rest lt. ap result_ok (eight_again n rest lt);
  fits = λ n lt. IsBytes-eight n;
}

pub hash_spells : Spells (λ (h : List ℕ). h) IsKey hash_at
hash_spells = record {
  takes = λ bytes x bs e. let t = bytes_take 32 bytes x bs (from_ok (bytes_at 32 bytes) x e) in (t.0, record { long = t.1; bytes = t.2 });
  again = λ h rest is. ap result_ok (bytes_again 32 h rest is.long);
  fits = IsBytes-hash;
}

pub name_spells : Spells name_bytes IsName named_at
name_spells = record {
  takes = λ bytes x bs e. name_takes bytes x bs (from_ok (name_at bytes) x e);
  again = λ name rest is. ap result_ok (name_again name rest is);
  fits = IsBytes-name;
}

-- ---- nodes of a format
-- children that have counts exactly as a format asks are of that format
format_told : (fmt : Format) (cs : List Child) → counts_fit fmt (has_counts cs) ≡ true → (cs ≡ [] → ⊥) → format_of_children cs ≡ fmt
format_told fmt [] told some = absurd (some refl)
format_told format.One (c ∷ cs) told some =
    elim (c.count == 0) as (λ b. not (not b) ≡ true → cond b format.One format.Two ≡ format.One) [ true ↦ λ e. refl | false ↦ λ e. absurd cc ] told
format_told format.Two (c ∷ cs) told some =
    elim (c.count == 0) as (λ b. not b ≡ true → cond b format.One format.Two ≡ format.Two) [ true ↦ λ e. absurd cc | false ↦ λ e. refl ] told

some_of : (cs : List Child) → AreEnough cs → cs ≡ [] → ⊥
some_of [] enough e = enough
some_of (c ∷ cs) enough e = absurd cc

-- a node that can be spelled and is of a format has its spelling there
valid_in : (fmt : Format) (n : PlainNode) → IsValid n → is_in fmt n ≡ true → IsNode fmt n × (spelling n ≡ node_bytes fmt n)
unfolding node_bytes
valid_in fmt node.Null is told = (tt, refl)
valid_in fmt (node.Leaf key value) is told = (is, refl)
valid_in fmt (node.Inner cs) is told =
    let same = format_told fmt cs told (some_of cs is.0) in
    (subst (λ f. IsNode f (node.Inner cs)) same is, ap (λ f. node_bytes f (node.Inner cs)) same)

counted_in : (fmt : Format) (cs : List Child) → format_of_children cs ≡ fmt → (cs ≡ [] → ⊥) → counts_fit fmt (has_counts cs) ≡ true
counted_in fmt [] same some = absurd (some refl)
counted_in format.One (c ∷ cs) same some =
    elim (c.count == 0) as (λ b. cond b format.One format.Two ≡ format.One → not (not b) ≡ true) [ true ↦ λ e. refl | false ↦ λ e. absurd cc ] same
counted_in format.Two (c ∷ cs) same some =
    elim (c.count == 0) as (λ b. cond b format.One format.Two ≡ format.Two → not b ≡ true) [ true ↦ λ e. absurd cc | false ↦ λ e. refl ] same

-- a node that can be spelled in a format is of that format
node_in : (fmt : Format) (n : PlainNode) → IsNode fmt n → is_in fmt n ≡ true
node_in fmt node.Null is = refl
node_in fmt (node.Leaf key value) is = refl
node_in fmt (node.Inner []) is = absurd is.0
node_in fmt (node.Inner (c ∷ cs)) is = counted_in fmt (c ∷ cs) (counted_format fmt (c ∷ cs) is.0 is.2) (λ e. absurd cc)

pub node_spells : (fmt : Format) → Spells (node_bytes fmt) (IsNode fmt) (format_node_at fmt)
node_spells fmt = record {
  takes = λ bytes x bs e.
      let y = bind_some (result_ok (node_at bytes)) (λ y. cond (is_in fmt y.0) (Some y) None) x e in
      let g = guard_kept (is_in fmt y.0.0) (Some y.0) x y.2 in
      let t = node_takes bytes y.0 bs (from_ok (node_at bytes) y.0 y.1) in
      let v = valid_in fmt y.0.0 t.1 g.0 in
      subst (λ (z : PlainNode × List ℕ). Takes bytes (node_bytes fmt z.0) z.1 × IsNode fmt z.0) (same_Some y.0 x g.1) (subst (λ (s : List ℕ). Takes bytes s y.0.1) v.1 t.0, v.0);
  again = λ n rest is.
      let o = one_spelling fmt n is in
      let read : node_at (node_bytes fmt n ++ rest) ≡ Ok (n, rest) = ap (λ (s : List ℕ). node_at (s ++ rest)) (sym o.1) ∙ node_again n rest o.0 in
      rw (read, node_in fmt n is) refl;
  fits = IsBytes-node fmt;
}
