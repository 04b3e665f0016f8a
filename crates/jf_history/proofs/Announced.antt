-- Versions that lines ask to pin.
use Rattle.std.proofs.Common.{◌≡◌, ℕ, zero, suc, Bool, ◌||◌, Some, List, [], ◌∷◌, ◌++◌, filter_map, refl, ap, ◌∙◌}
use Rattle.std.specs.Prelude.{slice_get, ◌==◌}
use Rattle.std.proofs.lemmas.Bool.{eq-eqb}
use Rattle.std.proofs.lemmas.List.Elements.{filter_map-append}
use Rattle.std.proofs.lemmas.List.Folds.{list_any-append}
use Rattle.std.specs.List.{list_any, cons_option}
use Rattle.jf_path.proofs.BoolLaws.{or_true}
use Rattle.jf_answers.specs.OwnLines.{pin_of}
use Rattle.jf_answers.specs.Explains.{IsAmong}

abbrev is_version : ℕ → ℕ → Bool
is_version v m = m == v

-- a version among these or those is among both
pub among-front : (ps qs : List ℕ) (v : ℕ) → IsAmong ps v → IsAmong (ps ++ qs) v
among-front ps qs v h = list_any-append (is_version v) ps qs ∙ ap (λ b. b || list_any (is_version v) qs) h

pub among-back : (ps qs : List ℕ) (v : ℕ) → IsAmong qs v → IsAmong (ps ++ qs) v
among-back ps qs v h = list_any-append (is_version v) ps qs ∙ ap (λ b. list_any (is_version v) ps || b) h ∙ or_true (list_any (is_version v) ps)

-- what the first lines ask to pin
pub named-front : (ls ms : List (List ℕ)) (v : ℕ) → IsAmong (filter_map pin_of ls) v → IsAmong (filter_map pin_of (ls ++ ms)) v
named-front ls ms v h = ap (list_any (is_version v)) (filter_map-append pin_of ls ms) ∙ among-front (filter_map pin_of ls) (filter_map pin_of ms) v h

-- what a line among others asks to pin
pub named-line : (ls : List (List ℕ)) (line : List ℕ) (ms : List (List ℕ)) (v : ℕ) → pin_of line ≡ Some v → IsAmong (filter_map pin_of (ls ++ line ∷ ms)) v
named-line ls line ms v named =
    ap (list_any (is_version v)) (filter_map-append pin_of ls (line ∷ ms))
    ∙ among-back (filter_map pin_of ls) (filter_map pin_of (line ∷ ms)) v
    (ap (λ o. list_any (is_version v) (cons_option o (filter_map pin_of ms))) named ∙ ap (λ b. b || list_any (is_version v) (filter_map pin_of ms)) (eq-eqb v v refl))

named-cons : (first : List ℕ) (ls : List (List ℕ)) (v : ℕ) → IsAmong (filter_map pin_of ls) v → IsAmong (filter_map pin_of (first ∷ ls)) v
named-cons first ls v h = ap (list_any (is_version v)) (filter_map-append pin_of (first ∷ []) ls) ∙ among-back (filter_map pin_of (first ∷ [])) (filter_map pin_of ls) v h

-- what a line at a place asks to pin
pub named-at : (ls : List (List ℕ)) (i : ℕ) (line : List ℕ) (v : ℕ) → slice_get ls i ≡ Some line → pin_of line ≡ Some v → IsAmong (filter_map pin_of ls) v
named-at [] i line v there named = absurd (cc)
named-at (l ∷ ls) zero line v there named = let same : l ≡ line = cc in named-line [] l ls v (ap pin_of same ∙ named)
named-at (l ∷ ls) (suc i) line v there named = named-cons l ls v (named-at ls i line v there named)
