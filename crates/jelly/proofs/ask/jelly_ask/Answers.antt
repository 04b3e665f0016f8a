use Rattle.std.proofs.Common.{◌∙◌, ap, sym, length, Some, option_map}
use Rattle.jelly.proofs.ToldClaims.{claim_of_number-shown, value-shown}
use Rattle.jelly.proofs.ask.jelly_ask.Goals as goal

pub returns-clause-sound : goal.returns-clause-sound
returns-clause-sound c m claim is_map top is differs = c.look_up.ensures.sound m claim is_map top (claim_of_number-shown _ _ _ _ _ _ claim (c.answer.ensures _ c.look_up.ensures.answer) is) differs

pub returns-clause-sound_room : goal.returns-clause-sound_room
returns-clause-sound_room c m is_map top two differs =
    value-shown _ _ _ _ _ _ (c.answer.ensures _ c.look_up.ensures.answer) two (λ v shown long. c.look_up.ensures.sound m (Some v) is_map top shown (λ same. differs (sym (ap (option_map length) same) ∙ ap Some (sym long))))

pub returns-clause-fair : goal.returns-clause-fair
returns-clause-fair c m number is_map top told small is = c.answer.ensures _ (c.look_up.ensures.answer ∙ ap Some (c.look_up.ensures.fair m number is_map top told small is))
