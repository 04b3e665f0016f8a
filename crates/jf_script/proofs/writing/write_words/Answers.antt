use Rattle.std.proofs.Common.{ℕ, List, [], ◌∷◌, codes, decimal, ◌∙◌}
use Rattle.std.proofs.lemmas.List.{append-nil}
use Rattle.std.proofs.lemmas.Result.{on_ok_weaker, on_err_weaker}
use Rattle.jf_script.proofs.Texts.{Extends-after, spaced-two}
use Rattle.jf_script.proofs.writing.write_words.Goals as goal

pub returns-in-Pending-clause-ok : goal.returns-in-Pending-clause-ok
returns-in-Pending-clause-ok c = rw c.in-Pending.is (simp append-nil c.write_number.ensures.ok)

pub returns-in-Compact-clause-ok : goal.returns-in-Compact-clause-ok
returns-in-Compact-clause-ok c = rw c.in-Compact.is (simp append-nil c.write_number-in-Compact.ensures.ok)

pub returns-in_ok-write_bounds-in-Status-clause-ok : goal.returns-in_ok-write_bounds-in-Status-clause-ok
returns-in_ok-write_bounds-in-Status-clause-ok c =
    let s = c.in-Status in
    let bounds : List (List ℕ) =
    codes "ok status base" ∷ decimal s.base ∷ codes "floor" ∷ decimal s.floor ∷ codes "retired" ∷ decimal s.retired ∷ codes "head" ∷ decimal s.head ∷ [] in
    let sizes : List (List ℕ) = codes "kept" ∷ decimal s.kept ∷ codes "forks" ∷ decimal s.forks ∷ codes "generation" ∷ decimal s.generation ∷ [] in
    let written = rw c.in_ok-write_bounds-in-Status.ensures.ok at c.write_sizes.ensures.ok in
    rw s.is (on_ok_weaker c.write_sizes.result (λ e. e ∙ spaced-two c.args.out.now bounds sizes) written)

pub returns-in_ok-append-in-No-clause-err : goal.returns-in_ok-append-in-No-clause-err
returns-in_ok-append-in-No-clause-err c =
    on_err_weaker c.write_refusal.result (Extends-after c.args.out.now _ c.append-in-No.new.self _ c.in_ok-append-in-No.ensures.ok) c.write_refusal.ensures.err
