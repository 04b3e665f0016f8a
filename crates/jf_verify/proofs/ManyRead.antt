-- A block of many claims is judged line by line as it is when it was read whole.
use Rattle.std.proofs.Common.{ℕ, ◌+◌, List, ◌++◌, ◌≡◌, ◌-◌, ◌∷◌, ap, ap₂, ◌∙◌, arith, sym, [], Some, refl, suc, zero, cond}
use Rattle.std.proofs.lemmas.List.{append-nil}
use Rattle.jf_hash.specs.Hashes.{K}
use Rattle.jf_multi.specs.Verdicts.{ClaimList}
use Rattle.jf_multi.specs.declared.item.Item.{Item}
use Rattle.jf_blocks.specs.Reading.{LinePlace, ReadResult, and_then, line_by, gives, lines_by}
use Rattle.jf_many_blocks.specs.ManyBlocks.{NamedClaim, on_keys}
use Rattle.jf_many_blocks.specs.ManyReading.{named_claim_of, item_of, ManyBlock, many_body}
use Rattle.jf_many_blocks.specs.declared.head.ManyHead.{ManyHead}
use Rattle.jf_verify.specs.Steps.{keeps, line_step, silent, many_whole, items_turn, claims_turn, many_begins, many_claim_turn, many_item_turn}
use Rattle.jf_verify.specs.Verdicts.{Judging, say_many}
use Rattle.jf_verify.specs.declared.many_stage.ManyHeading.{ManyHeading}
use Rattle.jf_verify.specs.declared.stage.Stage.TheVariants as stage
use Rattle.jf_verify.proofs.LineRead.{knowledge_of, goes, goes_from, IsPlaceAfter, by_line, lines_by-after, some_left}

-- the text of such a block that was read or not, and then of the lines after it
abbrev pub answered_many : List ℕ → Judging → LinePlace → ReadResult ManyBlock → List ℕ
answered_many root j p r = goes_from (say_many root j p r)

-- one claim more, on its name's key
on_keys-push : (cs : List NamedClaim) (c : NamedClaim) → on_keys (cs ++ c ∷ []) ≡ on_keys cs ++ (K c.0, c.1) ∷ []
on_keys-push [] c = refl
on_keys-push (x ∷ cs) c = ap (λ (t : ClaimList). (K x.0, x.1) ∷ t) (on_keys-push cs c)

module _ (root : List ℕ) (j : Judging) (p : LinePlace) where
  -- with so many claims and items to come
  abbrev many_left : ℕ → ℕ → ManyHeading
  many_left n k = record { root = root; claims = n; items = k }

  items_read : (n : ℕ) (cs : List NamedClaim) (items : List Item) (at : ℕ) (ls : List (List ℕ)) → IsPlaceAfter p (at + 1) ls
      → goes (keeps (knowledge_of j) (items_turn (many_left 0 n) (on_keys cs) items)) at ls
      ≡ answered_many root j p (and_then (lines_by item_of n (record { at = at + 1; left = ls })) (λ is t. gives (cs, items ++ is) t))
  unfolding lines_by line_step
  items_read zero cs items at ls follows = ap (λ (is : List Item). answered_many root j p (gives (cs, is) (record { at = at + 1; left = ls }))) (sym (append-nil items))
  items_read (suc m) cs items at ls follows =
      let one_less : suc m - 1 ≡ m = omega arith in
      ap (λ b. goes (keeps (knowledge_of j) (cond b (many_whole root (on_keys cs) items) (silent (stage.ManyItems (many_left 0 (suc m)) (on_keys cs) items)))) at ls) (some_left m)
      ∙ by_line (answered_many root j p) j p (λ e. refl) item_of (λ i q. and_then (lines_by item_of m q) (λ is t. gives (cs, (items ++ i ∷ []) ++ is) t))
      (λ o. keeps (knowledge_of j) (many_item_turn (at + 1) (many_left 0 (suc m)) (on_keys cs) items o)) (stage.ManyItems (many_left 0 (suc m)) (on_keys cs) items) (at + 1) ls follows refl (λ line. refl) refl
      (λ i more further. ap (λ n. goes (keeps (knowledge_of j) (items_turn (many_left 0 n) (on_keys cs) (items ++ i ∷ []))) (at + 1) more) one_less ∙ items_read m cs (items ++ i ∷ []) (at + 1) more further)
      ∙ ap (answered_many root j p) (lines_by-after (line_by item_of (record { at = at + 1; left = ls })) (lines_by item_of m) (λ is t. gives (cs, is) t) items)

  claims_read : (n k : ℕ) (cs : List NamedClaim) (at : ℕ) (ls : List (List ℕ)) → IsPlaceAfter p (at + 1) ls
      → goes (keeps (knowledge_of j) (claims_turn (many_left n k) (on_keys cs))) at ls
      ≡ answered_many root j p (and_then (lines_by named_claim_of n (record { at = at + 1; left = ls })) (λ more q. and_then (lines_by item_of k q) (λ is t. gives (cs ++ more, is) t)))
  unfolding lines_by line_step
  claims_read zero k cs at ls follows =
      items_read k cs [] at ls follows
      ∙ ap (λ (all : List NamedClaim). answered_many root j p (and_then (lines_by item_of k (record { at = at + 1; left = ls })) (λ is t. gives (all, is) t))) (sym (append-nil cs))
  claims_read (suc m) k cs at ls follows =
      let one_less : suc m - 1 ≡ m = omega arith in
      ap (λ b. goes (keeps (knowledge_of j) (cond b (items_turn (many_left (suc m) k) (on_keys cs) []) (silent (stage.ManyClaims (many_left (suc m) k) (on_keys cs))))) at ls) (some_left m)
      ∙ by_line (answered_many root j p) j p (λ e. refl) named_claim_of (λ c q. and_then (lines_by named_claim_of m q) (λ more r. and_then (lines_by item_of k r) (λ is t. gives ((cs ++ c ∷ []) ++ more, is) t)))
      (λ o. keeps (knowledge_of j) (many_claim_turn (at + 1) (many_left (suc m) k) (on_keys cs) o)) (stage.ManyClaims (many_left (suc m) k) (on_keys cs)) (at + 1) ls follows refl (λ line. refl) refl
      (λ c more further.
      ap₂ (λ (n : ℕ) (claims : ClaimList). goes (keeps (knowledge_of j) (claims_turn (many_left n k) claims)) (at + 1) more) one_less (sym (on_keys-push cs c))
      ∙ claims_read m k (cs ++ c ∷ []) (at + 1) more further)
      ∙ ap (answered_many root j p) (lines_by-after (line_by named_claim_of (record { at = at + 1; left = ls })) (lines_by named_claim_of m) (λ all q. and_then (lines_by item_of k q) (λ is t. gives (all, is) t)) cs)

-- ---- the block
pub many_reads : (head : ManyHead) (root : List ℕ) (j : Judging) (p : LinePlace) (at : ℕ) (ls : List (List ℕ)) → IsPlaceAfter p (at + 1) ls
    → goes (keeps (knowledge_of j) (many_begins at head (Some root))) at ls ≡ answered_many root j p (many_body head (record { at = at + 1; left = ls }))
unfolding many_body
many_reads head root j p at ls follows = claims_read root j p head.claims head.items [] at ls follows
