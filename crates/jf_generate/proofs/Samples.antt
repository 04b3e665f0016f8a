-- A worked script and a worked tally: the definitions on small inputs.
use Rattle.std.specs.Prelude.{◌≡◌, [], ◌∷◌, ◌++◌, codes, refl}
use Rattle.std.specs.Fmt.{digits}
use Rattle.hex.specs.Hex.{encode_with}
use Rattle.jf_path.specs.Numbers.{two_bytes, eight_bytes}
use Rattle.jf_text.specs.Words.{words}
use Rattle.jf_generate.specs.Scripts.{lines_of_script, generated_from, batch_end, drawn_lines, drawn_line, next_drawn}
use Rattle.jf_generate.specs.Reports.{generate_output}

the_first_number : next_drawn 1 ≡ 7806831264735756412
unfolding next_drawn
the_first_number = refl

the_first_line : drawn_line 7806831264735756412 ≡ codes "put 6c57 =6c576fac43fd007c"
unfolding drawn_line two_bytes eight_bytes encode_with
the_first_line = refl

-- a script of one batch of one
the_shortest : lines_of_script 1 1 1 ≡ codes "put 6c57 =6c576fac43fd007c" ∷ codes "commit" ∷ codes "root head" ∷ codes "status" ∷ []
unfolding generated_from drawn_lines drawn_line next_drawn two_bytes eight_bytes encode_with
the_shortest = refl

-- a script of no batch
of_no_batch : lines_of_script 1 0 1 ≡ codes "root head" ∷ codes "status" ∷ []
unfolding generated_from
of_no_batch = refl

-- three replies, the second of which is refused
of_three : generate_output ((codes "0 ok pending 1" ++ 10 ∷ []) ∷ (codes "0 no retired 3" ++ 10 ∷ []) ∷ (codes "1 ok root 00" ++ 10 ∷ []) ∷ [])
    ≡ codes "refused 1" ++ 10 ∷ (codes "0 no retired 3" ++ 10 ∷ (codes "1 ok root 00" ++ 10 ∷ []))
unfolding words digits encode_with
of_three = refl

-- no replies
of_none : generate_output [] ≡ codes "refused 0" ++ 10 ∷ []
unfolding digits
of_none = refl

-- what comes after the tenth commit, and after the fiftieth
the_tenth : batch_end 10 [] ≡ codes "commit" ∷ codes "prune 5" ∷ []
unfolding digits
the_tenth = refl

the_fiftieth : batch_end 50 [] ≡ codes "commit" ∷ codes "prune 45" ∷ codes "compact" ∷ []
unfolding digits
the_fiftieth = refl
