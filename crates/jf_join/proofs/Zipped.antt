-- Two lists of one length whose pairs, place by place, are in a relation.
use Rattle.std.specs.Prelude.{◌≡◌, ◌<◌, ◌+◌, ℕ, List, [], ◌∷◌, ◌++◌, length}
use Rattle.std.specs.List.{AllZip}
use Rattle.std.proofs.Common.{sym, ◌∙◌, ap, subst, take, get_or, add-one}
use Rattle.std.proofs.Math.Seq.{take-suc}

-- two pairs of lists, one after the other
pub AllZip-append : {X Y : Type 0} (R : X → Y → Type 0) (xs : List X) (ys : List Y) (us : List X) (vs : List Y) → AllZip R xs ys → AllZip R us vs → AllZip R (xs ++ us) (ys ++ vs)
AllZip-append R [] [] us vs h k = k
AllZip-append R [] (y ∷ ys) us vs h k = absurd h
AllZip-append R (x ∷ xs) [] us vs h k = absurd h
AllZip-append R (x ∷ xs) (y ∷ ys) us vs h k = (h.0, AllZip-append R xs ys us vs h.1 k)

-- one more pair at the end
pub AllZip-next : {X Y : Type 0} (R : X → Y → Type 0) (xs : List X) (ys : List Y) (i : ℕ) (x : X) (y : Y) → i < length xs → x ≡ get_or xs i x → AllZip R (take i xs) ys → R x y → AllZip R (take (i + 1) xs) (ys ++ y ∷ [])
AllZip-next R xs ys i x y h is all one =
    let e : take (i + 1) xs ≡ take i xs ++ x ∷ [] = ap (λ k. take k xs) (add-one i) ∙ (take-suc xs i x h ∙ ap (λ z. take i xs ++ z ∷ []) (sym is)) in
    subst (λ zs. AllZip R zs (ys ++ y ∷ [])) (sym e) (AllZip-append R (take i xs) ys (x ∷ []) (y ∷ []) all (one, tt))
