-- A reading goes on from its first line: each line that it takes is one less to come, and adds one to the number of the line. Where it fails, no line before the first is named.
use Rattle.std.proofs.Common.{◌≡◌, ◌≤◌, ◌+◌, ◌∙◌, length, Ok, Err, arith, ℕ, List, ◌∷◌, Option, Some, None, [], zero, suc}
use Rattle.jf_blocks.specs.Reading.{LinePlace, ReadResult, gives, and_then, one_line_read, line_read, line_by, lines_by, Block, named_of, claim_of, leaf_line_of, side_of, proof_block, Chunk, entry_of, chunk_body}
use Rattle.jf_blocks.specs.declared.chunk.ChunkHead.{ChunkHead}

abbrev pub IsCounted : {X : Type 0} → LinePlace → ReadResult X → Type 0
IsCounted p (Ok r) = (p.at ≤ r.1.at) × (r.1.at + length r.1.left ≡ p.at + length p.left)
IsCounted p (Err at) = p.at ≤ at

pub same-counted : {X : Type 0} (x : X) (p : LinePlace) → IsCounted p (gives x p)
same-counted x p = (omega arith, omega arith)

further : {X : Type 0} (p q : LinePlace) (r : ReadResult X) → p.at ≤ q.at → q.at + length q.left ≡ p.at + length p.left → IsCounted q r → IsCounted p r
further p q (Ok r) low same h = let a = h.0 in (omega arith, h.1 ∙ same)
further p q (Err at) low same h = omega arith

pub and_then-counted : {X Y : Type 0} (p : LinePlace) (r : ReadResult X) (f : X → LinePlace → ReadResult Y) → IsCounted p r → ((x : X) (q : LinePlace) → IsCounted q (f x q)) → IsCounted p (and_then r f)
and_then-counted p (Ok r) f h more = further p r.1 (f r.0 r.1) h.0 h.1 (more r.0 r.1)
and_then-counted p (Err at) f h more = h

matched-counted : {X : Type 0} (at : ℕ) (line : List ℕ) (ls : List (List ℕ)) (o : Option X) → IsCounted (record { at = at; left = line ∷ ls }) (one_line_read at ls o)
matched-counted at line ls None = omega arith
matched-counted at line ls (Some x) = (omega arith, omega arith)

line_by-counted_at : {X : Type 0} (f : List (List ℕ) → Option X) (at : ℕ) (left : List (List ℕ)) → IsCounted (record { at = at; left = left }) (line_by f (record { at = at; left = left }))
line_by-counted_at f at [] = omega arith
line_by-counted_at f at (line ∷ ls) = matched-counted at line ls (line_read f line)

pub line_by-counted : {X : Type 0} (f : List (List ℕ) → Option X) (p : LinePlace) → IsCounted p (line_by f p)
line_by-counted f p = line_by-counted_at f p.at p.left

pub lines_by-counted : {X : Type 0} (f : List (List ℕ) → Option X) (n : ℕ) (p : LinePlace) → IsCounted p (lines_by f n p)
unfolding lines_by
lines_by-counted f zero p = (omega arith, omega arith)
lines_by-counted f (suc n) p =
    and_then-counted p (line_by f p) _ (line_by-counted f p) (λ x q. and_then-counted q (lines_by f n q) _ (lines_by-counted f n q) (λ xs r. same-counted (x ∷ xs) r))

pub proof_block-counted : (n : ℕ) (p : LinePlace) → IsCounted p (proof_block n p)
unfolding proof_block
proof_block-counted n p =
    and_then-counted p (line_by named_of p) _ (line_by-counted named_of p) (λ name q.
    and_then-counted q (line_by claim_of q) _ (line_by-counted claim_of q) (λ claim r.
    and_then-counted r (line_by leaf_line_of r) _ (line_by-counted leaf_line_of r) (λ leaf s.
    and_then-counted s (lines_by side_of n s) _ (lines_by-counted side_of n s) (λ sides t. same-counted {X = Block} (name, claim, record { leaf = leaf; siblings = sides }) t))))

pub chunk_body-counted : (head : ChunkHead) (p : LinePlace) → IsCounted p (chunk_body head p)
unfolding chunk_body
chunk_body-counted head p =
    and_then-counted p (lines_by entry_of head.entries p) _ (lines_by-counted entry_of head.entries p) (λ es q.
    and_then-counted q (lines_by side_of head.siblings q) _ (lines_by-counted side_of head.siblings q) (λ sides r. same-counted {X = Chunk} (es, record { depth = head.depth; siblings = sides }) r))
