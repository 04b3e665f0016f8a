-- Laws of what crashes may leave of the states that calls add to a history.
use Rattle.std.specs.Prelude.{◌≡◌, ℕ, List, ◌≤◌, ◌^◌, length, [], ◌∷◌, ◌++◌, Option, Some, None, option_map, ◌⊎◌}
use Rattle.std.proofs.Common.{ext_get_or, arith, subst, refl, ap, sym, ◌∙◌, append_assoc, ap₂, length-append, inl, inr}
use Rattle.std.specs.List.{AllByRecursion}
use Rattle.jf_path.proofs.ListLaws.{All-append}
use Rattle.jf_disk.specs.Disk.{DiskState, Files, MayLeave, IsImage, content_on, bytes_of, durable, IsBounded, History, next, Fails, LeftSince, LeftSinceIn, TearsNothing, reads, state_after_sync}
use Rattle.jf_disk.specs.declared.side.Side.{Side}
use Rattle.jf_disk.specs.Crashes.{GoesOnBy, LeavesOnly, GoesOn, LeavesNow, Idles, opposite, KeepsOther, LeavesFiles}
use Rattle.jf_disk.specs.Moments.{all_states, ExtendsHistory}
use Rattle.jf_disk.specs.declared.side.Side.TheVariants as side
use Rattle.jf_disk.proofs.MomentLaws.{LeftBy, left-append, left_now}

-- ---- what a crash leaves of a side
-- what a crash may leave of both sides it may leave of each
pub image_side : (w : Side) (s : DiskState) (f : Files) → IsImage s f → MayLeave (content_on w s) (bytes_of w f)
image_side side.A s f i = i.a
image_side side.B s f i = i.b

-- a crash leaves synced bytes unchanged
pub image_durable : (bytes image : List ℕ) → MayLeave (durable bytes) image → image ≡ bytes
image_durable bytes image left =
    let low = left.no_shorter in let high = left.no_longer in
    ext_get_or 0 image bytes (omega arith) (λ i lt. left.same i lt (omega arith) tt)

-- a crash leaves a side unchanged that was synced after its last change
pub image_quiet : (w : Side) (s : DiskState) (f : Files) → content_on w s ≡ durable (content_on w s).bytes → IsImage s f → bytes_of w f ≡ (content_on w s).bytes
image_quiet w s f quiet i = image_durable (content_on w s).bytes (bytes_of w f) (subst (λ c. MayLeave c (bytes_of w f)) quiet (image_side w s f i))

-- no side of an image is too long
pub image_bounded : (w : Side) (s : DiskState) (f : Files) → IsBounded s → IsImage s f → length (bytes_of w f) ≤ 2 ^ 62
image_bounded side.A s f b i = let m = b.a_left in let le = i.a.no_longer in omega arith
image_bounded side.B s f b i = let m = b.b_left in let le = i.b.no_longer in omega arith

-- ---- lists of states
pub all_map : (P Q : DiskState → Type 0) (ss : List DiskState) → ((s : DiskState) → P s → Q s) → AllByRecursion P ss → AllByRecursion Q ss
all_map P Q [] to each = tt
all_map P Q (s ∷ ss) to each = (to s each.0, all_map P Q ss to each.1)

-- ---- a history that goes on
-- a history extends itself by no state
pub by_nowhere : (P : DiskState → Type 0) (h : History) → GoesOnBy P h h
by_nowhere P h = record { more = []; grows = refl; each = tt }

-- one added state more
pub by_next : (P : DiskState → Type 0) (h g : History) (s : DiskState) → GoesOnBy P h g → P s → GoesOnBy P h (record { now = s; before = g.now ∷ g.before })
by_next P h g s a p = record { more = s ∷ a.more; grows = ap (λ states. s ∷ states) a.grows; each = (p, a.each) }

-- an extension of an extension
pub by_further : (P : DiskState → Type 0) (g h k : History) → GoesOnBy P g h → GoesOnBy P h k → GoesOnBy P g k
by_further P g h k a b = record {
  more = b.more ++ a.more;
  grows = b.grows ∙ ap (λ states. b.more ++ states) a.grows ∙ sym (append_assoc b.more a.more (all_states g));
  each = All-append P b.more a.more b.each a.each;
}

-- a weaker property holds of each added state
pub by_weaker : (P Q : DiskState → Type 0) (h g : History) → ((s : DiskState) → P s → Q s) → GoesOnBy P h g → GoesOnBy Q h g
by_weaker P Q h g to a = record { more = a.more; grows = a.grows; each = all_map P Q a.more to a.each }

now_among : (h g : History) (P : DiskState → Type 0) (more : List DiskState) → all_states g ≡ more ++ all_states h → AllByRecursion P more → P h.now → P g.now
now_among h g P [] e each here = subst P (let x : h.now ≡ g.now = cc in x) here
now_among h g P (s ∷ more) e each here = subst P (let x : s ≡ g.now = cc in x) each.0

-- a property of the present state before and of each added state holds of the present state now
pub by_now : (P : DiskState → Type 0) (h g : History) → GoesOnBy P h g → P h.now → P g.now
by_now P h g a here = now_among h g P a.more a.grows a.each here

same_states : (xs ys zs : List DiskState) → length xs ≡ length ys → xs ++ zs ≡ ys ++ zs → xs ≡ ys
same_states [] [] zs long e = refl
same_states [] (y ∷ ys) zs long e = absurd (omega arith)
same_states (x ∷ xs) [] zs long e = absurd (omega arith)
same_states (x ∷ xs) (y ∷ ys) zs long e =
    let heads : x ≡ y = (let e : x ∷ (xs ++ zs) ≡ y ∷ (ys ++ zs) = e in cc) in
    let tails : xs ++ zs ≡ ys ++ zs = (let e : x ∷ (xs ++ zs) ≡ y ∷ (ys ++ zs) = e in cc) in
    ap₂ (λ x xs. x ∷ xs) heads (same_states xs ys zs (omega arith) tails)

all_both : (P Q : DiskState → Type 0) (ss : List DiskState) → AllByRecursion P ss → AllByRecursion Q ss → AllByRecursion (λ s. P s × Q s) ss
all_both P Q [] p q = tt
all_both P Q (s ∷ ss) p q = ((p.0, q.0), all_both P Q ss p.1 q.1)

-- two properties of the added states hold together
pub by_both : (P Q : DiskState → Type 0) (h g : History) → GoesOnBy P h g → GoesOnBy Q h g → GoesOnBy (λ s. P s × Q s) h g
by_both P Q h g a b =
    let long : length a.more ≡ length b.more = omega (arith, ap length (sym a.grows ∙ b.grows), length-append a.more (all_states h), length-append b.more (all_states h)) in
    let same : b.more ≡ a.more = sym (same_states a.more b.more (all_states h) long (sym a.grows ∙ b.grows)) in
    record { more = a.more; grows = a.grows; each = all_both P Q a.more a.each (subst (AllByRecursion Q) same b.each) }

pub by_extends : (P : DiskState → Type 0) (h g : History) → GoesOnBy P h g → ExtendsHistory h g
by_extends P h g a = record { more = a.more; states = a.grows }

-- ---- calls of a disk whose history is known
-- a disk has at most one known history
pub told_same : (g h : History) (o : Option History) → o ≡ Some g → o ≡ Some h → g ≡ h
told_same g h o a b = let x : Some g ≡ Some h = sym a ∙ b in cc

-- a history that is known after calls was known before them
pub told_before : (o n : Option History) (g : History) → (o ≡ None → n ≡ None) → n ≡ Some g → (h : History) × (o ≡ Some h)
told_before None n g unknown told = absurd (let x : None ≡ Some g = sym (unknown refl) ∙ told in cc)
told_before (Some h) n g unknown told = (h, refl)

-- the history after a call that succeeds
pub told_next : (f : DiskState → DiskState) (o n : Option History) (h : History) → o ≡ Some h → n ≡ option_map (next f) o → n ≡ Some (next f h)
told_next f o n h e is = is ∙ ap (option_map (next f)) e

-- the history after a call that fails
pub fails_by : (P : DiskState → Type 0) (h g : History) (o n : Option History) (torn : DiskState → DiskState → Type 0) → o ≡ Some g → Fails o n torn → GoesOnBy P h g → P g.now → ((s : DiskState) → torn g.now s → P s) → (k : History) × (n ≡ Some k) × GoesOnBy P h k
fails_by P h g o n torn e (inl still) a here after = (g, still ∙ e, a)
fails_by P h g o n torn e (inr (inl idle)) a here after = (next (λ s. s) g, told_next (λ s. s) o n g e idle, by_next P h g g.now a here)
fails_by P h g o n torn e (inr (inr tears)) a here after =
    let same : tears.0 ≡ g = told_same tears.0 g o tears.1 e in
    let s = tears.2 in
    (record { now = s; before = g.now ∷ g.before }, tears.4 ∙ ap (λ (k : History). Some (record { now = s; before = k.now ∷ k.before })) same, by_next P h g s a (after s (subst (λ (k : History). torn k.now s) same tears.3)))

-- ---- added states that leave only files with a property
pub goes_further : (g h k : History) (P : Files → Type 0) → GoesOn g h P → GoesOn h k P → GoesOn g k P
goes_further g h k P a b = by_further (LeavesOnly P) g h k a b

-- a weaker property
pub goes_weaker : (g h : History) (P Q : Files → Type 0) → ((f : Files) → P f → Q f) → GoesOn g h P → GoesOn g h Q
goes_weaker g h P Q to a = by_weaker (LeavesOnly P) (LeavesOnly Q) g h (λ s only f image. to f (only f image)) a

-- no added state
pub goes_nowhere : (h : History) (P : Files → Type 0) → GoesOn h h P
goes_nowhere h P = by_nowhere (LeavesOnly P) h

-- calls that change nothing leave only what could be left before
pub goes_idle : (h g : History) (P : Files → Type 0) → LeavesNow h P → Idles h g → GoesOn h g P
goes_idle h g P now a = by_weaker (λ s. s ≡ h.now) (LeavesOnly P) h g (λ s e. subst (LeavesOnly P) (sym e) now) a

-- what is left now has a property that what was left before and by the added states has
pub goes_now : (h g : History) (P : Files → Type 0) → GoesOn h g P → LeavesNow h P → LeavesNow g P
goes_now h g P a now = by_now (LeavesOnly P) h g a now

pub goes_extends : (h g : History) (P : Files → Type 0) → GoesOn h g P → ExtendsHistory h g
goes_extends h g P a = by_extends (LeavesOnly P) h g a

left_by_each : (P : Files → Type 0) (more : List DiskState) (f : Files) → AllByRecursion (LeavesOnly P) more → LeftBy more f → P f
left_by_each P [] f each left = absurd left
left_by_each P (s ∷ more) f each (inl image) = each.0 f image
left_by_each P (s ∷ more) f each (inr left) = left_by_each P more f each.1 left

-- what may be left since a moment could be left since it before, or is left by an added state
pub goes_left : (t : ℕ) (old new : History) (P : Files → Type 0) (f : Files) → GoesOn old new P → LeftSince new t f → P f ⊎ LeftSince old t f
goes_left t old new P f a left =
    elim (left-append t a.more (all_states old) f (subst (λ states. LeftSinceIn t states f) a.grows left)) [
      | inl by ↦ inl (left_by_each P a.more f a.each by)
      | inr before ↦ inr before
    ]

-- what may be left since the calls began, or later, is left by an added state or could be left when they began
pub goes_left_now : (t : ℕ) (old new : History) (P : Files → Type 0) (f : Files) → GoesOn old new P → length old.before ≤ t → LeftSince new t f → P f ⊎ IsImage old.now f
goes_left_now t old new P f a le left = elim (goes_left t old new P f a left) [ inl p ↦ inl p | inr before ↦ inr (left_now old t f le before) ]

-- ---- a history in which nothing changes
pub idle_once : (h : History) → Idles h (next (λ s. s) h)
idle_once h = by_next (λ s. s ≡ h.now) h h h.now (by_nowhere (λ s. s ≡ h.now) h) refl

pub idle_now : (h g : History) → Idles h g → g.now ≡ h.now
idle_now h g a = by_now (λ s. s ≡ h.now) h g a refl

pub idle_further : (g h k : History) → Idles g h → Idles h k → Idles g k
idle_further g h k a b = by_further (λ s. s ≡ g.now) g h k a (by_weaker (λ s. s ≡ h.now) (λ s. s ≡ g.now) h k (λ s e. e ∙ idle_now g h a) b)

-- the present state is unchanged after calls that change nothing
pub idle_told : (h k : History) (n : Option History) → ((g : History) × (n ≡ Some g) × Idles h g) → n ≡ Some k → k.now ≡ h.now
idle_told h k n x told = subst (λ (g : History). g.now ≡ h.now) (told_same x.0 k n x.1 told) (idle_now h x.0 x.2)

-- a call that changes nothing and succeeds
pub idle_went : (h : History) (o n : Option History) → o ≡ Some h → n ≡ option_map (next (λ s. s)) o → (g : History) × (n ≡ Some g) × Idles h g
idle_went h o n told is = (next (λ s. s) h, told_next (λ s. s) o n h told is, idle_once h)

-- a call that changes nothing and fails
pub idle_failed : (h : History) (o n : Option History) → o ≡ Some h → Fails o n TearsNothing → (g : History) × (n ≡ Some g) × Idles h g
idle_failed h o n told fails = fails_by (λ s. s ≡ h.now) h h o n TearsNothing told fails (by_nowhere (λ s. s ≡ h.now) h) refl (λ s torn. absurd torn)

-- ---- added states that keep the other side
abbrev IsAcross : Side → History → DiskState → Type 0
IsAcross w h s = content_on (opposite w) s ≡ content_on (opposite w) h.now

pub other_nowhere : (w : Side) (h : History) → KeepsOther w h h
other_nowhere w h = by_nowhere (IsAcross w h) h

pub other_now : (w : Side) (h g : History) → KeepsOther w h g → content_on (opposite w) g.now ≡ content_on (opposite w) h.now
other_now w h g a = by_now (IsAcross w h) h g a refl

pub other_further : (w : Side) (g h k : History) → KeepsOther w g h → KeepsOther w h k → KeepsOther w g k
other_further w g h k a b = by_further (IsAcross w g) g h k a (by_weaker (IsAcross w h) (IsAcross w g) h k (λ s e. e ∙ other_now w g h a) b)

pub other_idle : (w : Side) (h g : History) → Idles h g → KeepsOther w h g
other_idle w h g a = by_weaker (λ s. s ≡ h.now) (IsAcross w h) h g (λ s e. ap (content_on (opposite w)) e) a

pub opposite_opposite : (w : Side) → opposite (opposite w) ≡ w
opposite_opposite side.A = refl
opposite_opposite side.B = refl

-- ---- calls that leave the files unchanged
pub leaves_nowhere : (h : History) → LeavesFiles h h
leaves_nowhere h = record { same = refl; images = goes_nowhere h _ }

pub leaves_further : (g h k : History) → LeavesFiles g h → LeavesFiles h k → LeavesFiles g k
leaves_further g h k a b = record {
  same = b.same ∙ a.same;
  images = goes_further g h k (IsImage g.now) a.images (goes_weaker h k (IsImage h.now) (IsImage g.now) (λ f image. goes_now g h (IsImage g.now) a.images (λ f image. image) f image) b.images);
}

pub leaves_idle : (h g : History) → Idles h g → LeavesFiles h g
leaves_idle h g idle = record {
  same = ap (λ (s : DiskState). reads (record { now = s; before = [] })) (idle_now h g idle);
  images = goes_idle h g (IsImage h.now) (λ f image. image) idle;
}

-- a sync of a disk that a crash may leave as a read gives it
pub leaves_synced : (w : Side) (h : History) → IsImage h.now (reads h) → LeavesFiles h (next (state_after_sync w) h)
leaves_synced side.A h readable = record {
  same = refl;
  images = by_next (LeavesOnly (IsImage h.now)) h h (state_after_sync side.A h.now) (goes_nowhere h _)
      (λ f image. record { a = subst (MayLeave h.now.a) (sym (image_durable h.now.a.bytes f.a image.a)) readable.a; b = image.b });
}
leaves_synced side.B h readable = record {
  same = refl;
  images = by_next (LeavesOnly (IsImage h.now)) h h (state_after_sync side.B h.now) (goes_nowhere h _)
      (λ f image. record { a = image.a; b = subst (MayLeave h.now.b) (sym (image_durable h.now.b.bytes f.b image.b)) readable.b });
}
