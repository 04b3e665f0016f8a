-- What is put into a sink, one text after another, until a fault cuts one of them.
use Rattle.std.specs.Prelude.{Bool, true, false, Result}
use Rattle.std.proofs.Common.{◌≡◌, ℕ, List, ◌++◌, Option, option_map, Some, [], inl, inr, sym, ap, ◌∙◌, subst, append_assoc, append-nil, length-append, arith}
use Rattle.jf_io.specs.Sink.{IsCutShort}
use Rattle.jf_io.proofs.Written.{written_more}
use Rattle.jf_input.specs.Feeds.{Appends, HandsOn, Gathers, EndsAfter}
use Rattle.jf_input.specs.FeedsThrough.{IsPutThrough, IsPutNext}
use Rattle.jf_input.specs.declared.feeding.Feeding.{Feeding}
use Rattle.jf_input.specs.declared.feeding.Feeding.TheVariants as feeding

-- ---- one text after another
-- more comes behind what was cut
pub cut_short_before : {old new : Option (List ℕ)} {bytes : List ℕ} (more : List ℕ) → IsCutShort old new bytes → IsCutShort old new (bytes ++ more)
cut_short_before more c = record {
  front = c.front;
  missing = c.missing ++ more;
  whole = sym (append_assoc c.front c.missing more) ∙ ap (λ x. x ++ more) c.whole;
  is_short = omega (arith, c.is_short, length-append c.missing more);
  appended = c.appended;
}

-- all of a text was put, and then not all of the next one
pub cut_short_behind : {old mid new : Option (List ℕ)} (bytes : List ℕ) {more : List ℕ} → Appends old mid bytes → IsCutShort mid new more → IsCutShort old new (bytes ++ more)
cut_short_behind {old = old} bytes all c = record {
  front = bytes ++ c.front;
  missing = c.missing;
  whole = append_assoc bytes c.front c.missing ∙ ap (λ x. bytes ++ x) c.whole;
  is_short = c.is_short;
  appended = c.appended ∙ ap (option_map (λ t. t ++ c.front)) all ∙ written_more old bytes c.front;
}

pub put_through_next : (was is : Bool) (old mid new : Option (List ℕ)) (bytes more : List ℕ) → IsPutThrough was old mid bytes → IsPutNext was is mid new more → IsPutThrough is old new (bytes ++ more)
put_through_next false false old mid new bytes more p n = n ∙ ap (option_map (λ t. t ++ more)) p ∙ written_more old bytes more
put_through_next false true old mid new bytes more p n = cut_short_behind bytes p n
put_through_next true is old mid new bytes more p n =
    subst (λ (b : Bool). IsPutThrough b old new (bytes ++ more)) (sym n.0) (subst (λ (t : Option (List ℕ)). IsCutShort old t (bytes ++ more)) (sym n.1) (cut_short_before more p))

pub put_next_next : (was between is : Bool) (old mid new : Option (List ℕ)) (bytes more : List ℕ) → IsPutNext was between old mid bytes → IsPutNext between is mid new more → IsPutNext was is old new (bytes ++ more)
put_next_next false between is old mid new bytes more p n = put_through_next between is old mid new bytes more p n
put_next_next true between is old mid new bytes more p n =
    let none : IsPutNext true is mid new more = subst (λ (b : Bool). IsPutNext b is mid new more) p.0 n in
    (none.0, none.1 ∙ p.1)

-- ---- what is put after a text, as after none
put_is : {put bytes : List ℕ} → Appends (Some []) (Some put) bytes → put ≡ bytes
put_is a = cc

-- all that was gathered was put, or nothing was
pub handed_all : {put out mid : List ℕ} → HandsOn (Some []) (Some put) out mid → put ++ mid ≡ out
handed_all {put = put} (inl all) = ap (λ x. put ++ x) all.1 ∙ append-nil put ∙ put_is all.0
handed_all {mid = mid} (inr none) = ap (λ x. x ++ mid) (put_is none.0) ∙ none.1

module _ (said put : List ℕ) where
  pub appends_after : {bytes : List ℕ} → Appends (Some []) (Some put) bytes → Appends (Some said) (Some (said ++ put)) bytes
  appends_after a = ap (λ x. Some (said ++ x)) (put_is a)

  same_after : Some put ≡ Some [] → Some (said ++ put) ≡ Some said
  same_after a = ap (λ x. Some (said ++ x)) (put_is a) ∙ ap (λ x. Some x) (append-nil said)

  pub hands_on_after : {out out' : List ℕ} → HandsOn (Some []) (Some put) out out' → HandsOn (Some said) (Some (said ++ put)) out out'
  hands_on_after (inl all) = inl (appends_after all.0, all.1)
  hands_on_after (inr none) = inr (same_after none.0, none.1)

  pub gathers_after : {M : Type 0} (quiet : M → M → Type 0) {old new : M} {out out' t : List ℕ} → Gathers quiet old new (Some []) (Some put) out out' t → Gathers quiet old new (Some said) (Some (said ++ put)) out out' t
  gathers_after quiet (inl all) = inl (appends_after all.0, all.1)
  gathers_after quiet (inr more) = inr (same_after more.0, more.1, more.2, more.3)

  pub ends_after : {M F : Type 0} (ends : M → M → Result (List ℕ) F → Type 0) (how : Feeding F) (old new : M) → EndsAfter ends how old new (Some []) (Some put) → EndsAfter ends how old new (Some said) (Some (said ++ put))
  ends_after ends feeding.Done old new e = (e.0, e.1, appends_after e.2)
  ends_after ends feeding.WriteFault old new e =
      let c = e.2 in
      (e.0, e.1, record { front = c.front; missing = c.missing; whole = c.whole; is_short = c.is_short; appended = appends_after c.appended })
  ends_after ends (feeding.Stopped why) old new e = (e.0, same_after e.1)
  ends_after ends feeding.ReadFault old new e = absurd e
  ends_after ends feeding.Memory old new e = absurd e
