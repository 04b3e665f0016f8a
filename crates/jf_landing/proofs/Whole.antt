-- A landing in bytes, part by part.
use Rattle.std.proofs.Common.{◌≡◌, ℕ, List, [], ◌∷◌, ◌++◌, length, map, Ok, Err, refl, sym, ap, ◌∙◌, append_assoc, arith}
use Rattle.std.proofs.lemmas.List.{length-append}
use Rattle.std.specs.List.{flat_map}
use Rattle.jf_path.specs.Numbers.{eight_bytes}
use Rattle.jf_path.specs.declared.name.NodeName.{NodeName}
use Rattle.jf_path.specs.declared.node.PlainNode.{PlainNode}
use Rattle.jf_path.specs.declared.node.PlainNode.TheVariants as node
use Rattle.jf_frame.proofs.Spelling.{length-eight}
use Rattle.jf_codec.specs.declared.fault.CodecFault.{CodecFault}
use Rattle.jf_codec.specs.declared.format.Format.{Format}
use Rattle.jf_codec.specs.Reading.{bytes_at, eight_at}
use Rattle.jf_codec.specs.Spelling.{name_bytes}
use Rattle.jf_codec.proofs.FieldLaws.{ok_is, bytes_again, eight_again}
use Rattle.jf_payload.specs.declared.records.Commit.{Commit}
use Rattle.jf_payload.specs.Spelling.{IsCommit, commit_bytes, fresh_bytes}
use Rattle.jf_standing.specs.Named.{leaf_entries, not_stale}
use Rattle.jf_standing.specs.Standing.{unmarked_node}
use Rattle.jf_landing.proofs.Rounds.{alone_at}

-- what comes behind the nodes that a landing writes
abbrev pub behind_fresh : Commit → List ℕ → List ℕ
behind_fresh c tail = eight_bytes (length c.stale) ++ (flat_map name_bytes c.stale ++ tail)

-- what comes behind its version and its root
abbrev behind_root : Format → Commit → List ℕ → List ℕ
behind_root fmt c tail = eight_bytes (length c.fresh) ++ (flat_map (fresh_bytes fmt) c.fresh ++ behind_fresh c tail)

module _ (fmt : Format) (c : Commit) (bytes tail : List ℕ) (is : IsCommit fmt c) (e : bytes ≡ commit_bytes fmt c ++ tail) where
  parts : bytes ≡ (eight_bytes c.version ++ c.root) ++ behind_root fmt c tail
  unfolding commit_bytes
  parts =
      let front = eight_bytes c.version ++ c.root in
      let n = eight_bytes (length c.fresh) in
      let fresh = flat_map (fresh_bytes fmt) c.fresh in
      let m = eight_bytes (length c.stale) in
      let stale = flat_map name_bytes c.stale in
      e ∙ append_assoc (front ++ (n ++ fresh)) (m ++ stale) tail ∙ ap (λ x. (front ++ (n ++ fresh)) ++ x) (append_assoc m stale tail)
      ∙ append_assoc front (n ++ fresh) (behind_fresh c tail) ∙ ap (λ x. front ++ x) (append_assoc n fresh (behind_fresh c tail))

  root_read : bytes_at 40 bytes ≡ Ok (eight_bytes c.version ++ c.root, behind_root fmt c tail)
  root_read = ap (bytes_at 40) parts ∙ bytes_again 40 (eight_bytes c.version ++ c.root) (behind_root fmt c tail) (long c.root is.root.long)
    where
      long : (root : List ℕ) → length root ≡ 32 → length (eight_bytes c.version ++ root) ≡ 40
      long root l = omega (arith, l, length-eight c.version, length-append (eight_bytes c.version) root)

  pub root_there : (f : CodecFault) → bytes_at 40 bytes ≡ Err f → ⊥
  root_there f failed = let both = sym root_read ∙ failed in absurd cc

  module _ (front rest : List ℕ) (told : bytes_at 40 bytes ≡ Ok (front, rest)) where
    count_read : eight_at rest ≡ Ok (length c.fresh, flat_map (fresh_bytes fmt) c.fresh ++ behind_fresh c tail)
    count_read =
        ap eight_at (ap (λ (p : List ℕ × List ℕ). p.1) (ok_is (front, rest) (eight_bytes c.version ++ c.root, behind_root fmt c tail) (sym told ∙ root_read)))
        ∙ eight_again (length c.fresh) (flat_map (fresh_bytes fmt) c.fresh ++ behind_fresh c tail) is.fresh_count

    pub count_there : (f : CodecFault) → eight_at rest ≡ Err f → ⊥
    count_there f failed = let both = sym count_read ∙ failed in absurd cc

    pub fresh_told : (count : ℕ) (after : List ℕ) → eight_at rest ≡ Ok (count, after) → (length c.fresh ≡ count) × (after ≡ flat_map (fresh_bytes fmt) c.fresh ++ behind_fresh c tail)
    fresh_told count after read =
        let same = ok_is (length c.fresh, flat_map (fresh_bytes fmt) c.fresh ++ behind_fresh c tail) (count, after) (sym count_read ∙ read) in
        (ap (λ (p : ℕ × List ℕ). p.0) same, sym (ap (λ (p : ℕ × List ℕ). p.1) same))

  module _ (rest : List ℕ) (told : rest ≡ behind_fresh c tail) where
    stale_read : eight_at rest ≡ Ok (length c.stale, flat_map name_bytes c.stale ++ tail)
    stale_read = ap eight_at told ∙ eight_again (length c.stale) (flat_map name_bytes c.stale ++ tail) is.stale_count

    pub stale_there : (f : CodecFault) → eight_at rest ≡ Err f → ⊥
    stale_there f failed = let both = sym stale_read ∙ failed in absurd cc

    pub stale_told : (count : ℕ) (after : List ℕ) → eight_at rest ≡ Ok (count, after) → (length c.stale ≡ count) × (after ≡ flat_map name_bytes c.stale ++ tail)
    stale_told count after read =
        let same = ok_is (length c.stale, flat_map name_bytes c.stale ++ tail) (count, after) (sym stale_read ∙ read) in
        (ap (λ (p : ℕ × List ℕ). p.0) same, sym (ap (λ (p : ℕ × List ℕ). p.1) same))

-- the entries of named nodes that are leaves are those of a landing that writes the nodes
pub entries-fresh : (xs : List (NodeName × PlainNode)) → flat_map alone_at xs ≡ leaf_entries (map unmarked_node xs)
entries-fresh [] = refl
entries-fresh (x ∷ xs) = at x.1 (entries-fresh xs)
  where
    at : (n : PlainNode) → flat_map alone_at xs ≡ leaf_entries (map unmarked_node xs) → flat_map alone_at ((x.0, n) ∷ xs) ≡ leaf_entries ((x.0, n, not_stale) ∷ map unmarked_node xs)
    at node.Null rest = rest
    at (node.Leaf key value) rest = ap (λ es. (key, value) ∷ es) rest
    at (node.Inner cs) rest = rest
