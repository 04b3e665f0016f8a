-- A line that is a put, whose key and value were read before.
use Rattle.std.proofs.Common.{◌≡◌, ◌∙◌, ◌≤◌, inr, ℕ, false, Some, List, [], ◌++◌, length, take, refl, sym, ap, subst}
use Rattle.std.proofs.Math.Seq.{take-append_seam}
use Rattle.std.proofs.lemmas.List.{append_cancel_left}
use Rattle.std.specs.Prelude.{Result, Ok, Err}
use Rattle.jf_path.specs.Limits.{max_value}
use Rattle.jf_hash.specs.Hashes.{K}
use Rattle.jf_hash.proofs.HashLaws.{K-IsKey}
use Rattle.jf_text.specs.Words.{is_long}
use Rattle.jf_prepare.specs.PreparedPuts.{IsPutOf}
use Rattle.jf_script.specs.Commands.{command_of}
use Rattle.jf_script.specs.Replies.{reply_text}
use Rattle.jf_script.specs.declared.command.Command.{Command}
use Rattle.jf_script.specs.declared.command.Command.TheVariants as command
use Rattle.jf_script.specs.declared.command.OwnCommand.TheVariants as own_command
use Rattle.jf_script.specs.declared.reply.Reply.{Reply}
use Rattle.jf_script.proofs.BoundLaws.{command_of-IsBoundedCommand}
use Rattle.jf_store.specs.Starts.{Start}
use Rattle.jf_store.specs.Ledgers.{AreEvents}
use Rattle.jf_history.specs.Sessions.{Session, HoldsPins, seen_by}
use Rattle.jf_session.specs.declared.stop.Stop.{Stop}
use Rattle.jf_session.specs.declared.stop.Stop.TheVariants as stop
use Rattle.jf_session.specs.Answering.{IsRepliedBy, stopped_session}
use Rattle.jf_session.specs.Steps.{IsObeyed}
use Rattle.jf_session.specs.Taking.{DoesLine}
use Rattle.jf_session.proofs.OfLines.{IsLineOf, line_of, done_of, stops_of, replied_ended, stops_ended}
use Rattle.jf_session.proofs.HeadReplies.{DoesLine-replied, makes_stopped}

-- the text of a put is its key and its value, and no others are
key_and_value : (line key value : List ℕ) → length key ≡ 32 → (p : IsPutOf line (key ++ value)) → (key ≡ K p.name) × (value ≡ p.value)
key_and_value line key value long p =
    let k = K p.name in
    let same : key ≡ k = sym (take-append_seam key value) ∙ ap (λ n. take n (key ++ value)) (long ∙ sym ((K-IsKey p.name).long)) ∙ ap (take (length k)) p.text_is ∙ take-append_seam k p.value in
    (same, append_cancel_left k value p.value (ap (λ x. x ++ value) (sym same) ∙ p.text_is))

-- its value is short
pub value_short : (line key value : List ℕ) → length key ≡ 32 → IsPutOf line (key ++ value) → length value ≤ max_value
value_short line key value long p =
    subst (λ (v : List ℕ). length v ≤ max_value) (sym ((key_and_value line key value long p).1)) (command_of-IsBoundedCommand line (command.Own (own_command.Put p.name p.value)) p.puts)

-- what is done for that key and that value is done for the line
pub of_key : (start : Start) (old new : Session) (line key value : List ℕ) (r : Result Reply Stop) → length key ≡ 32 → (p : IsPutOf line (key ++ value)) → ((start : Start) (name : List ℕ) → key ≡ K name → IsObeyed start old new (command.Own (own_command.Put name value)) r) → IsObeyed start old new (command.Own (own_command.Put p.name p.value)) r
of_key start old new line key value r long p obeyed =
    let parts = key_and_value line key value long p in
    subst (λ v. IsObeyed start old new (command.Own (own_command.Put p.name v)) r) parts.1 (obeyed start p.name parts.0)

module _ (start : Start) (old new : Session) (line name value out out' : List ℕ) (is : old.pass.start ≡ Some start) (begun : old.over ≡ false) (short : is_long line ≡ false) (puts : command_of line ≡ Some (command.Own (own_command.Put name value))) (numbers : old.own.number ≡ old.pass.number) (pins : HoldsPins new) (events : AreEvents start new.pass.seen) where
  abbrev c : Command
  c = command.Own (own_command.Put name value)

  of_line : IsLineOf line c
  of_line = line_of line c short puts

  replied : (r : Reply) → IsObeyed start old new c (Ok r) → IsRepliedBy start old new line r []
  replied r done = done_of line c of_line start old new r [] numbers pins done.0

  -- it was done, and its reply appended
  pub DoesLine-put : (r : Reply) → IsObeyed start old new c (Ok r) → out' ≡ out ++ (reply_text (length (seen_by new.pass)) r ++ []) → DoesLine old line out (Ok tt) new out'
  DoesLine-put r done appended = DoesLine-replied start old line out out' is begun new (reply_text (length (seen_by new.pass)) r ++ []) done.1 events appended (replied r done)

  -- it was done, and there is no memory for its reply
  pub DoesLine-put_lost : (r : Reply) → IsObeyed start old new c (Ok r) → out' ≡ out → DoesLine old line out (Err stop.Memory) (stopped_session new) out'
  DoesLine-put_lost r done silent =
      let a = replied r done in (
        silent,
        record { start = start; start_is = is; begun = begun; over = refl; events = events; makes = inr (a.0.text, (a.0, replied_ended start old new line a.0 a.1, refl)) },
      )

  -- it was not done
  pub DoesLine-put_stopped : (why : Stop) → IsObeyed start old new c (Err why) → out' ≡ out → DoesLine old line out (Err why) (stopped_session new) out'
  DoesLine-put_stopped why stops silent = (
    silent,
    record {
      start = start;
      start_is = is;
      begun = begun;
      over = refl;
      events = events;
      makes = makes_stopped start old line out out' is begun (stopped_session new) why (stops_ended start old new line why (stops_of line c of_line start old new why pins stops));
    },
  )
