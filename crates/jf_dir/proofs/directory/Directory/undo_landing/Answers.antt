use Rattle.std.proofs.Common.{◌∙◌, ap, length}
use Rattle.jf_payload.specs.declared.records.Commit.{Commit}
use Rattle.jf_dir.proofs.directory.Directory.undo_landing.Goals as goal

pub pop_landing-requires : goal.pop_landing-requires
pop_landing-requires c =
    let made = c.requires.made in
    let is = c.landing.view_is ∙ made.5 in
    record { made = (made.0, made.1, made.2, made.3, made.4, c.len.ensures ∙ ap (λ (k : Commit). length k.fresh) is, made.6) }
