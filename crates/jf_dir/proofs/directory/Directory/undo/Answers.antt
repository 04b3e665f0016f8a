use Rattle.std.proofs.Common.{◌∙◌, ap, length}
use Rattle.jf_dir.proofs.directory.Directory.undo.Goals as goal

pub pop_landing-requires : goal.pop_landing-requires
pop_landing-requires c =
    let made = c.requires.made in
    record { made = (made.0, c.args.update.now.snapshot.map, made.1, made.2, c.know.ensures.map, c.len.ensures ∙ ap length made.3.fresh, made.4) }
