-- Records one after another: what one more leads to, and where they fail.
use Rattle.std.proofs.Common.{◌≡◌, ℕ, List, [], ◌∷◌, ◌++◌, refl, subst, inl, inr, sym}
use Rattle.std.proofs.lemmas.List.{map-append}
use Rattle.jf_frame.specs.Framed.{LogRecord}
use Rattle.jf_codec.specs.declared.format.Format.{Format}
use Rattle.jf_payload.specs.Spelling.{checkpoint_kind}
use Rattle.jf_standing.specs.Standing.{Standing}
use Rattle.jf_standing.specs.Leading.{LeadingItem, ItemBegins, ItemFollows, Leads, FailsAt}
use Rattle.jf_files.specs.Files.{item, items, LeadToStanding, IsUnsoundAt}
use Rattle.jf_files.proofs.Holding.{leads_on}

-- ---- items
-- after items that lead to a standing, one that isn't taken is the place at which they fail
fails_on : (fmt : Format) (xs : List LeadingItem) (s a : Standing) (y : LeadingItem) (ys : List LeadingItem) → Leads fmt s xs a → ((b : Standing) → ItemFollows fmt a y b → ⊥) → FailsAt fmt s (xs ++ y ∷ ys) y.0
fails_on fmt [] s a y ys is none = inl (refl, λ b next. none b (subst (λ m. ItemFollows fmt m y b) (sym is) next))
fails_on fmt (x ∷ xs) s a y ys is none = inr (is.0, is.1, fails_on fmt xs is.0 a y ys is.2 none)

-- ---- records
-- one more record leads on
pub leads_next : (rs : List LogRecord) (fmt : Format) (a b : Standing) (y : LogRecord) → LeadToStanding rs fmt a → ItemFollows fmt a (item fmt y) b → LeadToStanding (rs ++ y ∷ []) fmt b
leads_next [] fmt a b y is next = absurd is
leads_next (x ∷ xs) fmt a b y is next =
    let more = leads_on fmt (items fmt xs) is.1.0 a b (item fmt y) is.1.2 next in
    (is.0, (is.1.0, is.1.1, subst (λ ys. Leads fmt is.1.0 ys b) (sym (map-append (item fmt) xs (y ∷ []))) more))

-- after records that lead to a standing, one that isn't taken is the first that isn't sound
pub fails_next : (rs : List LogRecord) (fmt : Format) (a : Standing) (y : LogRecord) (ys : List LogRecord) → LeadToStanding rs fmt a → ((b : Standing) → ItemFollows fmt a (item fmt y) b → ⊥) → IsUnsoundAt (rs ++ y ∷ ys) y.offset
fails_next [] fmt a y ys is none = absurd is
fails_next (x ∷ xs) fmt a y ys is none =
    let bad = fails_on fmt (items fmt xs) is.1.0 a (item fmt y) (items fmt ys) is.1.2 none in
    (fmt, is.0, inr (is.1.0, is.1.1, subst (λ zs. FailsAt fmt is.1.0 zs y.offset) (sym (map-append (item fmt) xs (y ∷ ys))) bad))

-- ---- the first record
pub fails_first : (x : LogRecord) (xs : List LogRecord) (at : ℕ) → at ≡ x.offset → ((fmt : Format) × (x.kind ≡ checkpoint_kind fmt) × ((s : Standing) → ItemBegins fmt (item fmt x) s → ⊥)) → IsUnsoundAt (x ∷ xs) at
fails_first x xs at is none = (none.0, none.1, inl (is, none.2))
