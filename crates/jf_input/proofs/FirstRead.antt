-- How far an input was read: as far as some lines, and so as far as the first of them.
use Rattle.std.proofs.Common.{◌∙◌, ℕ, Option, List, ◌++◌, ◌∷◌, [], length, sym, ap, subst, arith, length-append, append_assoc}
use Rattle.std.proofs.lemmas.List.{take-take}
use Rattle.std.proofs.Math.Seq.{take-append_seam}
use Rattle.std.specs.Prelude.{take}
use Rattle.jf_io.specs.LinesRead.{lines_read, AreFirst}
use Rattle.jf_input.specs.Feeds.{HasRead, ReadsFew, ReadsLinesOf}

first_of_first : (taken left : List ℕ) (ls ms : List (List ℕ)) → AreFirst taken left (ls ++ ms) → AreFirst taken left ls
first_of_first taken left ls ms f =
    let n = length ls in
    record {
      enough = omega (arith, f.enough, length-append ls ms);
      are = sym (take-take n (length (ls ++ ms)) (lines_read taken left) (omega (arith, length-append ls ms))) ∙ ap (take n) f.are ∙ take-append_seam ls ms;
    }

pub has_read_first : (input left : List ℕ) (ls ms : List (List ℕ)) → HasRead input left (ls ++ ms) → HasRead input left ls
has_read_first input left ls ms r = record {
  taken = r.taken;
  split = r.split;
  first = first_of_first r.taken left ls ms r.first;
  behind = ms ++ r.behind;
  lines_are = r.lines_are ∙ append_assoc ls ms r.behind;
}

-- as far as one line, before others
pub reads_first : (source source' : Option (List ℕ)) (ls : List (List ℕ)) (line : List ℕ) (later : List (List ℕ)) → ReadsLinesOf source source' (ls ++ line ∷ later) → ReadsLinesOf source source' (ls ++ line ∷ [])
reads_first source source' ls line later reads input is =
    let r = reads input is in
    (r.0, r.1, has_read_first input r.0 (ls ++ line ∷ []) later (subst (λ (x : List (List ℕ)). HasRead input r.0 x) (sym (append_assoc ls (line ∷ []) later)) r.2))

-- what is said of the bytes taken beyond some lines left out
pub lines_of_few : (piece : ℕ) (source source' : Option (List ℕ)) (ls : List (List ℕ)) → ReadsFew piece source source' ls → ReadsLinesOf source source' ls
lines_of_few piece source source' ls reads input is = let r = reads input is in (r.0, r.1, r.2.read)
