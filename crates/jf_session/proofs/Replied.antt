-- The texts of replies, and what was written of them.
use Rattle.std.proofs.Common.{◌≡◌, ℕ, ◌-◌, None, List, [], ◌∷◌, ◌++◌, take, length, refl, sym, ap, ap₂, ◌∙◌, subst, arith, append_assoc, append-nil, length-append, take_at}
use Rattle.std.specs.List.{AllByRecursion}
use Rattle.std.proofs.Math.Seq.{drop-append_seam, take-append_seam}
use Rattle.jf_answers.specs.Explains.{LineReply, text_in}
use Rattle.jf_history.specs.Runs.{IsCut}

pub text_in-append : (rs more : List LineReply) → text_in (rs ++ more) ≡ text_in rs ++ text_in more
text_in-append [] more = refl
text_in-append (r ∷ rs) more = ap (λ t. r.text ++ t) (text_in-append rs more) ∙ sym (append_assoc r.text (text_in rs) (text_in more))

pub text_in-push : (rs : List LineReply) (r : LineReply) → text_in (rs ++ r ∷ []) ≡ text_in rs ++ r.text
text_in-push rs r = text_in-append rs (r ∷ []) ∙ ap (λ t. text_in rs ++ t) (append-nil r.text)

-- one reply more, without the last
pub all_but_last : (rs : List LineReply) (r : LineReply) → take (length (rs ++ r ∷ []) - 1) (rs ++ r ∷ []) ≡ rs
all_but_last rs r = take_at rs (r ∷ []) (length (rs ++ r ∷ []) - 1) (omega (arith, length-append rs (r ∷ [])))

-- a front of one of the replies was written, and none of those after it, whose lines gave no entry
pub cut_is_cut : (rs : List LineReply) (r : LineReply) (more : List LineReply) (said front missing : List ℕ) → said ≡ text_in rs → front ++ missing ≡ r.text → AllByRecursion (λ r. r.entry ≡ None) more
    → IsCut ((rs ++ r ∷ []) ++ more) (said ++ front)
cut_is_cut rs r more said front missing is whole none =
    let ls = rs ++ r ∷ [] in
    let one : length ls - 1 ≡ length rs = omega (arith, length-append rs (r ∷ [])) in
    let before : take (length ls - 1) (ls ++ more) ≡ rs = ap (take (length ls - 1)) (append_assoc rs (r ∷ []) more) ∙ take_at rs ((r ∷ []) ++ more) (length ls - 1) (sym one) in
    record {
      count = length ls;
      within = omega (arith, length-append ls more);
      missing = missing;
      front = ap text_in (take-append_seam ls more) ∙ text_in-push rs r ∙ ap₂ (λ x y. x ++ y) (sym is) (sym whole) ∙ sym (append_assoc said front missing);
      more = front;
      enough = ap (λ x. x ++ front) (is ∙ ap text_in (sym before));
      quiet = subst (AllByRecursion (λ r. r.entry ≡ None)) (sym (drop-append_seam ls more)) none;
    }
