-- What is shown of the sides of a disk over two files is what these files show.
use Rattle.std.proofs.Common.{◌≡◌, ℕ, List, ap, ◌∙◌, refl, subst, Option, Some, None, option_map}
use Rattle.jf_disk.specs.Disk.{DiskState, Files, History, reads, content_on}
use Rattle.jf_disk.specs.Missing.{bytes_found, files_found}
use Rattle.jf_disk.specs.Memory.{start}
use Rattle.jf_disk.specs.declared.side.Side.{Side}
use Rattle.jf_disk.specs.declared.side.Side.TheVariants as side
use Rattle.jf_check.specs.declared.side_check.SideCheck.{SideCheck}
use Rattle.jf_check.specs.declared.store_check.StoreCheck.{StoreCheck}
use Rattle.jf_check.specs.Sides.{side_shown}
use Rattle.jf_check.specs.Stores.{IsStoreCheck, IsCheck}

-- the bytes on a side, if its file is there
abbrev bytes_on : DiskState → Option Side → Option (List ℕ)
bytes_on s there = option_map (λ side. (content_on side s).bytes) there

module _ {X : Type 0} (items : X → List ℕ) where
  on_side : (s : DiskState) (w : Side) (x : Option X) → (content_on w s).bytes ≡ bytes_found (option_map items x) → bytes_on s (option_map (λ _. w) x) ≡ option_map items x
  on_side s w None is = refl
  on_side s w (Some x) is = ap Some is

  pub checked : (a b : Option X) (d e f : History) (a_there b_there : Option Side) (a_shown b_shown : SideCheck) (store : StoreCheck)
      → d ≡ start (files_found (option_map items a) (option_map items b)) → e.now ≡ d.now → f.now ≡ e.now
      → a_there ≡ option_map (λ _. side.A) a → b_there ≡ option_map (λ _. side.B) b
      → a_shown ≡ side_shown (bytes_on d.now a_there) → b_shown ≡ side_shown (bytes_on e.now b_there) → IsStoreCheck (reads f) store
      → IsCheck (option_map items a) (option_map items b) (record { a = a_shown; b = b_shown; store = store })
  checked a b d e f a_there b_there a_shown b_shown store begins same same' on_a on_b is_a is_b found =
      let first : e.now ≡ (start (files_found (option_map items a) (option_map items b))).now = same ∙ ap (λ (h : History). h.now) begins in
      let files : reads f ≡ files_found (option_map items a) (option_map items b) = ap (λ (s : DiskState). let r : Files = record { a = s.a.bytes; b = s.b.bytes } in r) (same' ∙ first) in
      record {
        a_shown = is_a ∙ ap side_shown (ap (bytes_on d.now) on_a ∙ on_side d.now side.A a (ap (λ (h : History). h.now.a.bytes) begins));
        b_shown = is_b ∙ ap side_shown (ap (bytes_on e.now) on_b ∙ on_side e.now side.B b (ap (λ (s : DiskState). s.b.bytes) first));
        store_found = subst (λ files. IsStoreCheck files store) files found;
      }
