-- What two files show follows from their bytes.
use Rattle.std.specs.Prelude.{flat_map, reverse}
use Rattle.std.proofs.Common.{◌≡◌, ℕ, List, [], ◌∷◌, length, ap, ap₂, sym, ◌∙◌, arith, subst, Option}
use Rattle.jf_disk.specs.Disk.{Files}
use Rattle.jf_disk.specs.Missing.{files_found}
use Rattle.jf_model.specs.Nodes.{kept_nodes}
use Rattle.jf_frame.specs.Framed.{LogRecord}
use Rattle.jf_pair.proofs.FileLaws.{holds_one}
use Rattle.jf_codec.specs.declared.format.Format.{Format}
use Rattle.jf_codec.specs.declared.format.Format.TheVariants as format
use Rattle.jf_payload.specs.Spelling.{live_bytes}
use Rattle.jf_standing.specs.Named.{NamedNode}
use Rattle.jf_standing.specs.Standing.{Standing}
use Rattle.jf_standing.specs.FormatLaws.{standing_in}
use Rattle.jf_standing.specs.Building.{nodes_by_name}
use Rattle.jf_standing.specs.Leading.{AllLead}
use Rattle.jf_standing.specs.ItemLaws.{ItemsLeadToOne, SpelledIsRead}
use Rattle.jf_standing.specs.Sound.{IsSound}
use Rattle.jf_standing.specs.Next.{IsReadStanding}
use Rattle.jf_files.specs.Files.{item, items}
use Rattle.jf_files.specs.Laws.{DamageHasOnePlace, DamageIsNoVersions, FilesStandForOne}
use Rattle.jf_files.proofs.Judging.{are_read, one_format}
use Rattle.jf_engine.proofs.Records.{nodes-ordered}
use Rattle.jf_check.specs.declared.store_check.StoreCheck.{StoreCheck}
use Rattle.jf_check.specs.declared.store_check.StoreCheck.TheVariants as store_check
use Rattle.jf_check.specs.declared.check.Check.{Check}
use Rattle.jf_check.specs.Stores.{LeadToCounted, IsCheckpointSize, checkpoint_file, IsStoreCheck, IsCheck}
use Rattle.jf_check.proofs.Sizes.{file_long, nodes_same}

-- standings of which a format keeps the same have files of one size
same_size : (fmt : Format) (s t : Standing) → IsSound format.Two s → IsReadStanding s → IsSound format.Two t → IsReadStanding t → standing_in fmt s ≡ standing_in fmt t → length (checkpoint_file 1 s) ≡ length (checkpoint_file 1 t)
same_size fmt s t sound_s read_s sound_t read_t same =
    let size : List NamedNode → ℕ = λ ns. length (flat_map (live_bytes format.Two) ns) in
    let nodes : size (nodes_by_name s.nodes) ≡ size (nodes_by_name t.nodes) =
    ap size (nodes-ordered s read_s sound_s) ∙ sym (nodes_same fmt s.nodes) ∙ ap (λ (u : Standing). size u.nodes) same ∙ nodes_same fmt t.nodes ∙ sym (ap size (nodes-ordered t read_t sound_t)) in
    let roots : length (flat_map (λ h. h) (reverse s.roots)) ≡ length (flat_map (λ h. h) (reverse t.roots)) = ap (λ (u : Standing). length (flat_map (λ (h : List ℕ). h) (reverse u.roots))) same in
    omega (arith, file_long 1 s, file_long 1 t, nodes, roots)

module _ (leads_to_one : ItemsLeadToOne) (known : SpelledIsRead) where
  counted_once : (rs : List LogRecord) (s t : Standing) → LeadToCounted rs s → LeadToCounted rs t → IsSound format.Two s → IsReadStanding s → IsSound format.Two t → IsReadStanding t → length (checkpoint_file 1 s) ≡ length (checkpoint_file 1 t)
  counted_once [] s t a b sound_s read_s sound_t read_t = ap (λ (u : Standing). length (checkpoint_file 1 u)) (a ∙ sym b)
  counted_once (x ∷ xs) s t a b sound_s read_s sound_t read_t =
      let same = one_format b.0 a.0 (sym b.1.0 ∙ a.1.0) in
      let moved : AllLead a.0 (item a.0 x) (items a.0 xs) (standing_in a.0 t) = subst (λ fmt. AllLead fmt (item fmt x) (items fmt xs) (standing_in fmt t)) same b.1.1 in
      same_size a.0 s t sound_s read_s sound_t read_t (leads_to_one a.0 (item a.0 x) (items a.0 xs) (standing_in a.0 s) (standing_in a.0 t) (are_read known a.0 x xs) a.1.1 moved)

  -- a new checkpoint has one size
  one_size : (files : Files) (m n : ℕ) → IsCheckpointSize files m → IsCheckpointSize files n → m ≡ n
  one_size files m n a b =
      let p = a.holds in let q = b.holds in
      let leads = subst (λ rs. LeadToCounted rs a.standing) (holds_one files p.live q.live p.held q.held) p.leads in
      a.size 1 ∙ counted_once q.live a.standing b.standing leads q.leads p.sound p.read q.sound q.read ∙ sym (b.size 1)

  one_store : DamageHasOnePlace → DamageIsNoVersions → FilesStandForOne → (files : Files) (c d : StoreCheck) → IsStoreCheck files c → IsStoreCheck files d → c ≡ d
  one_store place no_versions one files (store_check.Damaged w m) (store_check.Damaged v n) a b = let same = place files w v m n a b in ap₂ store_check.Damaged same.0 same.1
  one_store place no_versions one files (store_check.Damaged w m) (store_check.Sound live kept size) a b = absurd (no_versions files b.versions w m b.stands a)
  one_store place no_versions one files (store_check.Sound live kept size) (store_check.Damaged w m) a b = absurd (no_versions files a.versions w m a.stands b)
  one_store place no_versions one files (store_check.Sound live kept size) (store_check.Sound live' kept' size') a b =
      let l : live ≡ live' = a.live_is ∙ sym b.live_is in
      let k : kept ≡ kept' = a.kept_is ∙ ap kept_nodes (one files a.versions b.versions a.stands b.stands) ∙ sym b.kept_is in
      let n : size ≡ size' = one_size files size size' a.checkpoint_is b.checkpoint_is in
      λ i. store_check.Sound (l i) (k i) (n i)

  pub one_thing : DamageHasOnePlace → DamageIsNoVersions → FilesStandForOne → (a b : Option (List ℕ)) (c d : Check) → IsCheck a b c → IsCheck a b d → c ≡ d
  one_thing place no_versions one a b c d p q =
      let on_a : c.a ≡ d.a = p.a_shown ∙ sym q.a_shown in
      let on_b : c.b ≡ d.b = p.b_shown ∙ sym q.b_shown in
      let store : c.store ≡ d.store = one_store place no_versions one (files_found a b) c.store d.store p.store_found q.store_found in
      λ i. record { a = on_a i; b = on_b i; store = store i }
