-- Laws on what crashes since a moment may have left, as a history grows by more calls.
use Rattle.std.specs.Prelude.{◌⊎◌, List, [], ◌∷◌, ℕ, ◌≤◌, length, ◌++◌, ◌↔◌, ◌≡◌, Option, Some, IfSome, None, option_map}
use Rattle.std.proofs.Common.{inl, inr, arith, length-append, le_refl, subst, sym, refl, ap, ◌∙◌, append_assoc}
use Rattle.jf_disk.specs.Disk.{DiskState, Files, IsImage, LeftSinceIn, History, LeftSince, next, Fails}
use Rattle.jf_disk.specs.Moments.{all_states, ExtendsHistory}

-- a crash in one of these states may leave these files
abbrev pub LeftBy : List DiskState → Files → Type 0
LeftBy [] f = ⊥
LeftBy (s ∷ states) f = IsImage s f ⊎ LeftBy states f

-- no state is later than the newest one, so a crash since then leaves nothing
pub none_later : (t : ℕ) (past : List DiskState) (f : Files) → length past ≤ t → LeftSinceIn t past f → ⊥
none_later t [] f le left = left
none_later t (s ∷ past) f le (inl here) = let h = here.0 in omega arith
none_later t (s ∷ past) f le (inr left) = none_later t past f (omega arith) left

-- a crash since the present moment leaves only what a crash now may leave
pub left_now : (h : History) (t : ℕ) (f : Files) → length h.before ≤ t → LeftSince h t f → IsImage h.now f
left_now h t f le (inl here) = here.1
left_now h t f le (inr left) = absurd (none_later t h.before f le left)

-- what a crash now may leave is among what a crash since an earlier moment may have left
pub now_left : (h : History) (t : ℕ) (f : Files) → t ≤ length h.before → IsImage h.now f → LeftSince h t f
now_left h t f le image = inl (le, image)

-- what the states `more ++ past` may leave since t, an added state may leave, or a past one since t
pub left-append : (t : ℕ) (more past : List DiskState) (f : Files) → LeftSinceIn t (more ++ past) f → LeftBy more f ⊎ LeftSinceIn t past f
left-append t [] past f left = inr left
left-append t (s ∷ more) past f (inl here) = inl (inl here.1)
left-append t (s ∷ more) past f (inr left) = elim (left-append t more past f left) [ inl by ↦ inl (inr by) | inr then_ ↦ inr then_ ]

-- what a crash may have left before is still so with more states added
pub left-before : (t : ℕ) (more past : List DiskState) (f : Files) → LeftSinceIn t past f → LeftSinceIn t (more ++ past) f
left-before t [] past f left = left
left-before t (s ∷ more) past f left = inr (left-before t more past f left)

-- what an added state may leave is left since each moment up to the one when the calls began
pub left-more : (t : ℕ) (more past : List DiskState) (f : Files) → t ≤ length past → LeftBy more f → LeftSinceIn t (more ++ past) f
left-more t [] past f le by = absurd by
left-more t (s ∷ more) past f le (inl here) = inl (omega (arith, length-append more past), here)
left-more t (s ∷ more) past f le (inr by) = inr (left-more t more past f le by)

-- what the states `more ++ past` may leave since t is exactly what an added state may leave, or a past one since t
pub left-append-iff : (t : ℕ) (more past : List DiskState) (f : Files) → t ≤ length past → LeftSinceIn t (more ++ past) f ↔ (LeftBy more f ⊎ LeftSinceIn t past f)
left-append-iff t more past f le =
    (λ left. left-append t more past f left, λ e. elim e [ inl by ↦ left-more t more past f le by | inr left ↦ left-before t more past f left ])

-- what may be left since the calls began is exactly what an added state may leave, or the state before the calls
pub left-began-iff : (more : List DiskState) (h : History) (f : Files) → LeftSinceIn (length h.before) (more ++ all_states h) f ↔ (LeftBy more f ⊎ IsImage h.now f)
left-began-iff more h f = (
  λ left. elim (left-append (length h.before) more (all_states h) f left) [ inl by ↦ inl by | inr then_ ↦ inr (left_now h (length h.before) f (le_refl _) then_) ],
  λ e. elim e [ inl by ↦ left-more (length h.before) more (all_states h) f (omega arith) by | inr image ↦ left-before (length h.before) more (all_states h) f (now_left h (length h.before) f (le_refl _) image) ],
)

-- what is left since a later moment is left since an earlier one
left-earlier : (t m : ℕ) (states : List DiskState) (f : Files) → t ≤ m → LeftSinceIn m states f → LeftSinceIn t states f
left-earlier t m [] f le left = left
left-earlier t m (s ∷ past) f le (inl here) = inl (omega (arith, here.0), here.1)
left-earlier t m (s ∷ past) f le (inr left) = inr (left-earlier t m past f le left)

-- let calls begin at moment m, and t be at most m: what is left since t is exactly what was left
-- since t before the calls, and what is left since m
pub left-since-iff : (t : ℕ) (old new : History) (f : Files) → ExtendsHistory old new → t ≤ length old.before → LeftSince new t f ↔ (LeftSince old t f ⊎ LeftSince new (length old.before) f)
left-since-iff t old new f e le =
    let m = length old.before in
    let there : LeftSinceIn t (e.more ++ all_states old) f → LeftSinceIn t (all_states old) f ⊎ LeftSinceIn m (e.more ++ all_states old) f =
    λ left. elim (left-append t e.more (all_states old) f left) [ inl by ↦ inr (left-more m e.more (all_states old) f (omega arith) by) | inr before ↦ inl before ] in
    let back : LeftSinceIn t (all_states old) f ⊎ LeftSinceIn m (e.more ++ all_states old) f → LeftSinceIn t (e.more ++ all_states old) f =
    λ s. elim s [ inl before ↦ left-before t e.more (all_states old) f before | inr since ↦ left-earlier t m (e.more ++ all_states old) f le since ] in
    subst (λ states. LeftSinceIn t states f ↔ (LeftSince old t f ⊎ LeftSinceIn m states f)) (sym e.states) (there, back)

-- a history extends itself
abbrev pub same_extends : (h : History) → ExtendsHistory h h
same_extends h = record { more = []; states = refl }

-- a call adds one state
abbrev pub next_extends : (f : DiskState → DiskState) (h : History) → ExtendsHistory h (next f h)
next_extends f h = record { more = f h.now ∷ []; states = refl }

-- extending an extended history
pub extends_further : (g h k : History) → ExtendsHistory g h → ExtendsHistory h k → ExtendsHistory g k
extends_further g h k a b =
    record { more = b.more ++ a.more; states = b.states ∙ ap (λ states. b.more ++ states) a.states ∙ sym (append_assoc b.more a.more (all_states g)) }

-- ---- disks, whose history is known or not
-- if the history was known, it is known now and extends the one before
abbrev pub Grows : Option History → Option History → Type 0
Grows old new = IfSome old (λ h. (g : History) × (new ≡ Some g) × ExtendsHistory h g)

-- a call that succeeded
pub next_grows : (f : DiskState → DiskState) (old new : Option History) → new ≡ option_map (next f) old → Grows old new
next_grows f None new e = tt
next_grows f (Some h) new e = (next f h, e, next_extends f h)

-- a call that failed
pub fails_grows : (torn : DiskState → DiskState → Type 0) (old new : Option History) → Fails old new torn → Grows old new
fails_grows torn None new e = tt
fails_grows torn (Some h) new (inl same) = (h, same, same_extends h)
fails_grows torn (Some h) new (inr (inl idle)) = (next (λ s. s) h, idle, next_extends (λ s. s) h)
fails_grows torn (Some h) new (inr (inr tears)) =
    let same : tears.0 ≡ h = (let e : Some h ≡ Some tears.0 = tears.1 in cc) in
    (record { now = tears.2; before = h.now ∷ h.before }, tears.4 ∙ ap (λ (k : History). Some (record { now = tears.2; before = k.now ∷ k.before })) same, record { more = tears.2 ∷ []; states = refl })

-- calls after calls
pub grows_further : (a b c : Option History) → Grows a b → Grows b c → Grows a c
grows_further None b c ab bc = tt
grows_further (Some h) b c ab bc =
    let bc' : (k : History) × (c ≡ Some k) × ExtendsHistory ab.0 k = subst (λ o. Grows o c) ab.1 bc in
    (bc'.0, bc'.1, extends_further h ab.0 bc'.0 ab.2 bc'.2)
