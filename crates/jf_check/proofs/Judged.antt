-- What is found of the live records is what both files represent, or their damage.
use Rattle.std.proofs.Common.{◌≡◌, ◌<◌, List, [], ◌∷◌, length, ap, sym, ◌∙◌, arith, refl, inr, Some, None, true}
use Rattle.jf_disk.specs.Disk.{Files, History, reads}
use Rattle.jf_disk.specs.declared.side.Side.{Side}
use Rattle.jf_model.specs.Versions.{new_store}
use Rattle.jf_model.specs.Nodes.{kept_nodes}
use Rattle.jf_frame.specs.Framed.{LogRecord}
use Rattle.jf_frame.specs.Framing.{records}
use Rattle.jf_pair.specs.Files.{HoldsLive, live_side}
use Rattle.jf_pair.specs.Pairs.{Pair, IsInStep}
use Rattle.jf_pair.specs.Laws.{LiveSideIsThePairs}
use Rattle.jf_codec.specs.declared.format.Format.TheVariants as format
use Rattle.jf_standing.specs.Standing.{versions_of}
use Rattle.jf_standing.specs.FormatLaws.{FormatsAreSound}
use Rattle.jf_standing.specs.OrderLaws.{NewIsSound}
use Rattle.jf_standing.specs.Building.{new_standing}
use Rattle.jf_files.specs.Laws.{StandingsHaveVersions}
use Rattle.jf_engine.proofs.Keeping.{lead_versions}
use Rattle.jf_check.specs.declared.store_check.StoreCheck.{StoreCheck}
use Rattle.jf_check.specs.declared.store_check.StoreCheck.TheVariants as store_check
use Rattle.jf_check.specs.Stores.{IsStoreCheck}
use Rattle.jf_check.specs.Found.{IsLiveCheck, IsSizedStore}
use Rattle.jf_check.proofs.LiveSides.{live_of_held, live_some, live_none}

module _ (formats : FormatsAreSound) (have : StandingsHaveVersions) (on_side : LiveSideIsThePairs) (h g : History) (same : reads g ≡ reads h) (p : Pair) (live : p.is_live ≡ true) (w : Side) (is : w ≡ p.side) where
  -- the live side of the files
  side_is : (rs : List LogRecord) (held : HoldsLive (reads h) rs) → IsInStep p rs g.now → w ≡ live_side held.a_records held.b_records
  side_is rs held step =
      is ∙ sym (on_side p rs g held.a_records held.b_records step live (ap (λ (f : Files). records f.a) same ∙ held.a_held) (ap (λ (f : Files). records f.b) same ∙ held.b_held))

  pub judged_live : (rs : List LogRecord) (c : StoreCheck) → HoldsLive (reads h) rs → IsInStep p rs g.now → 0 < length rs → IsLiveCheck w rs c → IsStoreCheck (reads h) c
  judged_live [] c held step some found = absurd (omega arith)
  judged_live (x ∷ xs) (store_check.Damaged v at) held step some found = inr (x ∷ xs, held, found.0 ∙ side_is (x ∷ xs) held step, found.1)
  judged_live (x ∷ xs) (store_check.Sound side kept n) held step some found =
      let s = found.1 in
      let sized = found.4 in
      record {
        versions = versions_of s;
        stands = record { live = x ∷ xs; held = held; leads = lead_versions formats have (x ∷ xs) found.2 s sized.sound found.3 };
        live_is = found.0 ∙ ap Some (side_is (x ∷ xs) held step) ∙ sym (live_of_held (reads h) (x ∷ xs) held ∙ live_some held.a_records held.b_records x xs held.live);
        kept_is = sized.kept_is;
        checkpoint_is = record { standing = s; holds = record { live = x ∷ xs; held = held; leads = (found.2, found.3); sound = sized.sound; read = sized.read }; size = sized.size };
      }

-- files without a record represent a new store
pub judged_new : NewIsSound → (files : Files) (c : StoreCheck) → HoldsLive files [] → IsSizedStore None (new_standing format.Two) c → IsStoreCheck files c
judged_new new files (store_check.Damaged v at) held found = absurd found
judged_new new files (store_check.Sound side kept n) held found =
    let sized = found.1 in
    record {
      versions = new_store;
      stands = record { live = []; held = held; leads = refl };
      live_is = found.0 ∙ sym (live_of_held files [] held ∙ live_none held.a_records held.b_records held.live);
      kept_is = sized.kept_is ∙ ap kept_nodes (new format.Two).1;
      checkpoint_is = record { standing = new_standing format.Two; holds = record { live = []; held = held; leads = refl; sound = sized.sound; read = sized.read }; size = sized.size };
    }
