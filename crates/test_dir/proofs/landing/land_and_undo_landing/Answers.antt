-- What is taken back is the landing on the directory as it was.
use Rattle.std.proofs.Common.{rules}
use Rattle.test_dir.proofs.landing.land_and_undo_landing.Goals as goal

pub undo_landing-requires : goal.undo_landing-requires
undo_landing-requires g c =
    record { made = (c.args.directory.now, c.into_parts-landing.result.1.map, c.know.ensures.read, c.know.ensures.sound, c.know-2.ensures.map, search rules, c.in_ok-apply_landing.ensures.ok) }
