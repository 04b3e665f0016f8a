use Rattle.std.proofs.Common.{◌≡◌, List, ◌∷◌, ◌++◌, length, drop, Option, Some, None, Ok, Vec, String, Global, true, is_some, option_to_list, vec_len, refl, sym, ap, ◌∙◌}
use Rattle.std.proofs.lemmas.Iterator.Adapters.{YieldsList-from_vec, fact_from_collect}
use Rattle.std.specs.Vec.Iter.{into_iter_items}
use Rattle.jf_main.proofs.command_line.CommandLine.of.Goals as goal

-- what is left after the first item
rest_after : {A : Type 0} (first : Option A) (items rest : List A) → items ≡ option_to_list first ++ rest → is_some first ≡ true → drop 1 items ≡ rest
rest_after (Some x) items rest e there = ap (λ l. drop 1 l) e
rest_after None items rest e there = absurd (cc)

pub returns-in-Ok-clause-words : goal.returns-in-Ok-clause-words
returns-in-Ok-clause-words c =
    let left = c.next-2.new.self in
    let named : is_some c.next.result ≡ true = search in
    let words = fact_from_collect {E = Unit {0}} (λ xs (v : Vec (String Global) Global). (v.items ≡ xs) × (vec_len v ≡ length xs)) (Ok c.in-Ok.words) c.in-Ok.ensures.ran (YieldsList-from_vec {s = left} (into_iter_items left) refl left.rest.ok.0) in
    ap (λ l. c.in-Some.folder ∷ l) words.0 ∙ sym c.in-Some.ensures.items ∙ sym (rest_after _ _ _ c.next.ensures.items named)
