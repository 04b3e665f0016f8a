-- After a refusal, and the lines that are never empty.
use Rattle.std.proofs.Common.{◌<◌, ◌∷◌, [], length, length-append, arith}
use Rattle.std.specs.Prelude.{Result, Ok, Err, OnErr}
use Rattle.std.specs.List.{join_with_byte}
use Rattle.jf_model.specs.declared.entries.Entry.{Entry}
use Rattle.jf_serve.specs.ServedTexts.{entry_line, entry_words}

-- what holds, holds after an error
pub on_err-always : {T E P : Type 0} (r : Result T E) → P → OnErr r P
on_err-always (Ok value) p = tt
on_err-always (Err why) p = p

-- the line of an entry is not empty
pub entry_line-some : (e : Entry) → 0 < length (entry_line e)
unfolding entry_line
entry_line-some e = omega (arith, length-append (join_with_byte 32 (entry_words e)) (10 ∷ []))
