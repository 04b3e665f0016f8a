-- The directory is that of the snapshot of the entries.
use Rattle.std.proofs.Common.{◌≤◌, ◌^◌, List, ℕ, T, length, subst, sym, ap, ◌∙◌}
use Rattle.std.specs.FinMap.{is_sorted}
use Rattle.jf_path.specs.Keys.{key_cmp}
use Rattle.jf_hash.specs.Maps.{map_of_entries}
use Rattle.jf_model.specs.Versions.{imported_versions}
use Rattle.jf_codec.specs.declared.format.Format.TheVariants as format
use Rattle.jf_standing.specs.Building.{imported_standing}
use Rattle.jf_dir.specs.Directories.{standing_by_name}
use Rattle.jf_engine.proofs.Imports.{imported-room, imported-standing, versions-imported}
use Rattle.jf_engine.proofs.imported.imported_directory.Goals as goal

pub of-requires-clause-room : goal.of-requires-clause-room
of-requires-clause-room g c = imported-room c.args.version c.as_slice.result.now c.in_ok-snapshot.snapshot c.in_ok-snapshot.ensures (subst (λ (es : List (List ℕ × List ℕ)). length es ≤ 2 ^ 62) (sym c.as_slice.ensures) c.requires.room)

pub returns-clause-versions : goal.returns-clause-versions
returns-clause-versions g c =
    versions-imported c.args.version c.as_slice.result.now c.in_ok-snapshot.snapshot c.in_ok-directory.directory c.in_ok-snapshot.ensures c.know.ensures
    (subst (λ (es : List (List ℕ × List ℕ)). T (is_sorted key_cmp es)) (sym c.as_slice.ensures) c.requires.sorted) c.requires.bounded
    (subst (λ (es : List (List ℕ × List ℕ)). length es ≤ 2 ^ 62) (sym c.as_slice.ensures) c.requires.room) c.in_ok-directory.ensures
    ∙ ap (λ es. imported_versions c.args.version (map_of_entries es)) c.as_slice.ensures

pub returns-clause-standing : goal.returns-clause-standing
returns-clause-standing g c =
    imported-standing c.args.version c.as_slice.result.now c.in_ok-snapshot.snapshot c.in_ok-directory.directory c.in_ok-snapshot.ensures
    (subst (λ (es : List (List ℕ × List ℕ)). T (is_sorted key_cmp es)) (sym c.as_slice.ensures) c.requires.sorted) c.in_ok-directory.ensures
    ∙ ap (λ es. standing_by_name (imported_standing format.Two c.args.version (map_of_entries es))) c.as_slice.ensures
