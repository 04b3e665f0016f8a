-- Worked lines: the definitions on small inputs.
use Rattle.std.specs.Prelude.{◌≡◌, [], ◌∷◌, ◌++◌, Some, None, codes, refl}
use Rattle.std.specs.Fmt.{digits}
use Rattle.hex.specs.Hex.{encode_with}
use Rattle.jf_text.specs.Words.{words, number, unhex}
use Rattle.jf_model.specs.declared.entries.Parent.TheVariants as parent
use Rattle.jf_script.specs.Commands.{command_of, base_of}
use Rattle.jf_script.specs.Replies.{reply_text}
use Rattle.jf_script.specs.declared.command.Base.TheVariants as base
use Rattle.jf_script.specs.declared.command.Question.TheVariants as question
use Rattle.jf_script.specs.declared.command.ForkQuestion.TheVariants as fork_question
use Rattle.jf_script.specs.declared.command.OwnCommand.TheVariants as own_command
use Rattle.jf_script.specs.declared.command.Change.TheVariants as change
use Rattle.jf_script.specs.declared.command.Command.TheVariants as command
use Rattle.jf_script.specs.declared.reply.Reply.TheVariants as reply
use Rattle.jf_script.specs.declared.reply.Refusal.TheVariants as refusal

a_put : command_of (codes "put 61 =31") ≡ Some (command.Own (own_command.Put (97 ∷ []) (49 ∷ [])))
unfolding command_of words unhex
a_put = refl

an_odd_name : command_of (codes "put 6 =31") ≡ None
unfolding command_of words unhex
an_odd_name = refl

upper_case : command_of (codes "put 61 =3A") ≡ None
unfolding command_of words unhex
upper_case = refl

a_zero_in_front : command_of (codes "get v01 61") ≡ None
unfolding command_of words unhex base_of number digits encode_with
a_zero_in_front = refl

a_get : command_of (codes "get p0 61") ≡ Some (command.Read (base.Place 0) (question.Get (97 ∷ [])))
unfolding command_of words unhex base_of number digits encode_with
a_get = refl

a_chunk : command_of (codes "chunk v1 0 1000") ≡ Some (command.Read (base.Version 1) (question.Chunk 0 1000))
unfolding command_of words unhex base_of number digits encode_with
a_chunk = refl

too_many : command_of (codes "chunk v1 0 1001") ≡ None
unfolding command_of words unhex base_of number digits encode_with
too_many = refl

no_fork_is_proved : command_of (codes "prove f0 61") ≡ None
unfolding command_of words unhex base_of number digits encode_with
no_fork_is_proved = refl

a_fork_is_read : command_of (codes "get f3 61") ≡ Some (command.ReadFork 3 (fork_question.Get (97 ∷ [])))
unfolding command_of words unhex base_of number digits encode_with
a_fork_is_read = refl

a_root_of_a_fork : command_of (codes "root f1") ≡ Some (command.ReadFork 1 fork_question.Root)
unfolding command_of words unhex base_of number digits encode_with
a_root_of_a_fork = refl

no_fork_is_counted : command_of (codes "count f0") ≡ None
unfolding command_of words unhex base_of number digits encode_with
no_fork_is_counted = refl

a_fork_on_a_fork : command_of (codes "fork f0") ≡ Some (command.Change (change.Fork (parent.Fork 0)))
unfolding command_of words unhex base_of number digits encode_with
a_fork_on_a_fork = refl

no_fork_on_a_version : command_of (codes "fork v1") ≡ None
unfolding command_of words unhex base_of number digits encode_with
no_fork_on_a_version = refl

a_place_is_freed : command_of (codes "unpin 7") ≡ Some (command.Own (own_command.Unpin 7))
unfolding command_of words unhex base_of number digits encode_with
a_place_is_freed = refl

the_numbers : command_of (codes "status") ≡ Some command.Look
unfolding command_of words unhex base_of number digits encode_with
the_numbers = refl

an_empty_line : command_of [] ≡ None
unfolding command_of words
an_empty_line = refl

the_greatest : number (codes "18446744073709551615") ≡ Some 18446744073709551615
unfolding number digits encode_with
the_greatest = refl

one_above : number (codes "18446744073709551616") ≡ None
unfolding number digits encode_with
one_above = refl

a_value : reply_text 3 (reply.Value (Some (49 ∷ []))) ≡ codes "3 ok value =31" ++ 10 ∷ []
unfolding reply_text digits encode_with
a_value = refl

a_refusal : reply_text 3 (reply.No (refusal.Retired 3)) ≡ codes "3 no retired 3" ++ 10 ∷ []
unfolding reply_text digits encode_with
a_refusal = refl
