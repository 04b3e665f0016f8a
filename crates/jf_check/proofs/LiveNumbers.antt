-- The live side shows the numbers of the versions.
use Rattle.std.proofs.Common.{◌≡◌, ℕ, ◌+◌, ◌-◌, ◌<◌, List, [], ◌∷◌, length, ap, sym, ◌∙◌, refl, subst, arith, cond, Some, Ok, Bool, true, false}
use Rattle.jf_disk.specs.Disk.{Files, bytes_of}
use Rattle.jf_disk.specs.declared.side.Side.{Side}
use Rattle.jf_model.specs.Versions.{Versions}
use Rattle.jf_frame.specs.Framed.{LogRecord}
use Rattle.jf_frame.specs.Framing.{records, number_of, end_of}
use Rattle.jf_pair.specs.Files.{is_begun, records_of}
use Rattle.jf_payload.specs.Laws.{SpelledIsSpelling}
use Rattle.jf_files.specs.Files.{StandsFor, LeadTo, generation, generation_in}
use Rattle.jf_files.proofs.Judging.{generation_live}
use Rattle.jf_check.specs.declared.numbers.SideNumbers.{SideNumbers}
use Rattle.jf_check.specs.declared.side_check.SideCheck.{SideCheck}
use Rattle.jf_check.specs.declared.side_check.SideCheck.TheVariants as side_check
use Rattle.jf_check.specs.Numbers.{numbers_in}
use Rattle.jf_check.specs.Sides.{log_check, side_shown, numbers_shown}
use Rattle.jf_check.specs.Stores.{live_found}
use Rattle.jf_check.proofs.LiveSides.{live_of_held, live_is, side_records, live_begun}
use Rattle.jf_check.proofs.Telling.{led_told}

shown_if : (b : Bool) (c : SideCheck) (d : SideCheck) → b ≡ true → cond b c d ≡ c
shown_if true c d is = refl
shown_if false c d is = absurd (cc)

-- an initialised side shows the numbers that its records tell
numbers_of_begun : (size : ℕ) (rs : List LogRecord) → is_begun rs ≡ true → numbers_shown (log_check size (Ok rs)) ≡ numbers_in rs
numbers_of_begun size rs begun = ap numbers_shown (shown_if (is_begun rs) (side_check.Whole size (numbers_in rs) (end_of rs) (size - (end_of rs + 1))) (side_check.Damaged size 0) begun)

-- the numbers of versions in a generation
abbrev numbers_for : ℕ → Versions → SideNumbers
numbers_for g v = record { generation = g; base = v.base; floor = v.floor; head = v.head }

led_to : SpelledIsSpelling → (g : ℕ) (rs : List LogRecord) (v : Versions) → 0 < length rs → LeadTo rs v → ((x : LogRecord) (xs : List LogRecord) → rs ≡ x ∷ xs → g ≡ number_of x.payload) → numbers_in rs ≡ Some (numbers_for g v)
led_to spelling g [] v some leads is = absurd (omega arith)
led_to spelling g (x ∷ xs) v some leads is =
    led_told spelling leads.0 x xs leads.1 leads.2.1
    ∙ (λ i. Some (record { generation = sym (is x xs refl) i; base = (sym leads.3 i).base; floor = (sym leads.3 i).floor; head = (sym leads.3 i).head }))

pub live_numbers : SpelledIsSpelling → (files : Files) (v : Versions) (w : Side) → StandsFor files v → live_found files ≡ Some w
    → numbers_shown (side_shown (Some (bytes_of w files))) ≡ Some (numbers_for (generation files) v)
live_numbers spelling files v w stands live =
    let h = stands.held in
    let rs = stands.live in
    let l = live_is h.a_records h.b_records w (sym (live_of_held files rs h) ∙ live) in
    let there : records (bytes_of w files) ≡ Ok rs = side_records files rs h w ∙ ap Ok (ap (λ s. records_of s h.a_records h.b_records) l.0 ∙ h.live) in
    let some : 0 < length rs = subst (λ xs. 0 < length xs) h.live l.1 in
    ap (λ r. numbers_shown (log_check (length (bytes_of w files)) r)) there ∙ numbers_of_begun (length (bytes_of w files)) rs (live_begun files rs h)
    ∙ led_to spelling (generation files) rs v some stands.leads (λ x xs is. generation_live files rs h ∙ ap generation_in is)
