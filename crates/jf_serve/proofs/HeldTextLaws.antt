-- Text that is held and put in several steps, and what the sink has if a step fails.
use Rattle.std.proofs.Common.{◌≡◌, ℕ, List, [], ◌++◌, Option, option_map, sym, ap, subst, ◌∙◌, append_assoc, append-nil}
use Rattle.jf_io.specs.Sink.{IsCutShort}
use Rattle.jf_input.specs.Feeds.{Appends}
use Rattle.jf_io.proofs.Written.{nothing_written, written_more}
use Rattle.jf_serve.specs.HeldText.{AddsText}

-- ---- one step
-- what is added is held
pub adds-held : (text : Option (List ℕ)) (held held' more : List ℕ) → held' ≡ held ++ more → AddsText text text held held' more
adds-held text held held' more e = ([], e, nothing_written text)

-- nothing is added
pub adds-none : (text : Option (List ℕ)) (held : List ℕ) → AddsText text text held held []
adds-none text held = adds-held text held held [] (sym (append-nil held))

-- all of it is put
pub adds-put : (text text' : Option (List ℕ)) (held held' held'' more : List ℕ) → held' ≡ held ++ more → Appends text text' held' → held'' ≡ [] → AddsText text text' held held'' more
adds-put text text' held held' held'' more e put empty = (held', ap (λ h. held' ++ h) empty ∙ append-nil held' ∙ e, put)

-- what is added is put past what is held, of which there is nothing
pub adds-past : (text text' : Option (List ℕ)) (held more : List ℕ) → held ≡ [] → Appends text text' more → AddsText text text' held held more
adds-past text text' held more empty put =
    (more, ap (λ h. more ++ h) empty ∙ append-nil more ∙ ap (λ h. h ++ more) (sym empty), put)

-- ---- one step more
module _ (text text' text'' : Option (List ℕ)) (held held' bytes : List ℕ) (so_far : AddsText text text' held held' bytes) where
  -- what was put before the step and what the step puts or leaves
  with_step : (put rest more : List ℕ) → put ++ rest ≡ held' ++ more → (so_far.0 ++ put) ++ rest ≡ held ++ (bytes ++ more)
  with_step put rest more e =
      append_assoc so_far.0 put rest ∙ ap (λ t. so_far.0 ++ t) e ∙ sym (append_assoc so_far.0 held' more) ∙ ap (λ t. t ++ more) so_far.1 ∙ append_assoc held bytes more

  -- what the sink took before the step and in it
  with_put : (put : List ℕ) → Appends text' text'' put → Appends text text'' (so_far.0 ++ put)
  with_put put e = e ∙ ap (option_map (λ t. t ++ put)) so_far.2 ∙ written_more text so_far.0 put

  -- more was added
  pub adds-then : (held'' more : List ℕ) → AddsText text' text'' held' held'' more → AddsText text text'' held held'' (bytes ++ more)
  adds-then held'' more step = (so_far.0 ++ step.0, with_step step.0 held'' more step.1, with_put step.0 step.2)

  -- the step failed
  pub cut-then : (more : List ℕ) → IsCutShort text' text'' (held' ++ more) → IsCutShort text text'' (held ++ (bytes ++ more))
  cut-then more cut =
      record { front = so_far.0 ++ cut.front; missing = cut.missing; whole = with_step cut.front cut.missing more cut.whole; is_short = cut.is_short; appended = with_put cut.front cut.appended }

  -- not all that is held was put
  pub cut-held : IsCutShort text' text'' held' → IsCutShort text text'' (held ++ bytes)
  cut-held cut =
      subst (λ (t : List ℕ). IsCutShort text text'' (held ++ t)) (append-nil bytes) (cut-then [] (subst (λ (t : List ℕ). IsCutShort text' text'' t) (sym (append-nil held')) cut))
