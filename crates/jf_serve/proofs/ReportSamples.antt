-- Worked lines of a ledger.
use Rattle.std.proofs.Common.{◌≡◌, ℕ, List, [], ◌∷◌, ◌++◌, refl, codes}
use Rattle.std.specs.Fmt.{digits}
use Rattle.hex.specs.Hex.{encode_lower}
use Rattle.jf_model.specs.declared.entries.Entry.TheVariants as entry
use Rattle.jf_model.specs.declared.entries.Landing.TheVariants as landing
use Rattle.jf_model.specs.declared.entries.Parent.TheVariants as parent
use Rattle.jf_serve.specs.ServedTexts.{entry_line, ledger_text, served_text}

made : (root : List ℕ) → entry_line (entry.Made 0 0 parent.Head [] root) ≡ codes "made 0 f0 head " ++ (encode_lower root ++ 10 ∷ [])
unfolding entry_line digits
made root = refl

made_on_fork : (root : List ℕ) → entry_line (entry.Made 1 12 (parent.Fork 3) [] root) ≡ codes "made 1 f12 f3 " ++ (encode_lower root ++ 10 ∷ [])
unfolding entry_line digits
made_on_fork root = refl

landed : (root : List ℕ) → entry_line (entry.Landed 1 2 (landing.Fork 3) root 9) ≡ codes "landed 1 2 " ++ (encode_lower root ++ codes " f3") ++ 10 ∷ []
unfolding entry_line digits
landed root = refl

landed_alone : (root : List ℕ) → entry_line (entry.Landed 0 7 (landing.Direct []) root 9) ≡ codes "landed 0 7 " ++ (encode_lower root ++ codes " head") ++ 10 ∷ []
unfolding entry_line digits
landed_alone root = refl

nothing : ledger_text [] ≡ codes "ledger 0" ++ 10 ∷ []
unfolding digits
nothing = refl

-- two sessions, of which one wrote a line, and three entries
two : served_text ([] ∷ (codes "0 no syntax" ++ 10 ∷ []) ∷ []) (entry.Dropped 1 2 ∷ entry.Retired 0 5 3 ∷ entry.Compacted 1 4 ∷ [])
    ≡ codes "session" ++ 10 ∷ codes "session" ++ 10 ∷ codes "0 no syntax" ++ 10 ∷ codes "ledger 3" ++ 10 ∷ codes "dropped 1 f2" ++ 10 ∷ codes "retired 0 5 3" ++ 10 ∷ codes "compacted 1 4" ++ 10 ∷ []
unfolding entry_line digits
two = refl
