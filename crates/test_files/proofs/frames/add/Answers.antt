use Rattle.std.proofs.Common.{◌≡◌, [], ◌∷◌, refl, sym, ap, ◌∙◌, arith}
use Rattle.jf_disk.specs.Disk.{Content, content_on, durable}
use Rattle.jf_disk.specs.declared.side.Side.TheVariants as side
use Rattle.jf_disk.specs.Memory.{history_of}
use Rattle.jf_path.specs.Numbers.{eight_bytes}
use Rattle.jf_disk.proofs.CrashLaws.{idle_told}
use Rattle.test_files.proofs.frames.add.Goals as goal

pub begin-requires-clause-quiet : goal.begin-requires-clause-quiet
begin-requires-clause-quiet c κs = λ h told.
    let e = idle_told (history_of c.args.disk.now) h _ (c.read_all.ensures.idle (history_of c.args.disk.now) refl) told in
    let empty : content_on c.in_ok-log.log.side h.now ≡ durable [] = ap (λ s. content_on s h.now) c.in_ok-log.ensures.side ∙ ap (content_on side.A) e ∙ c.requires in
    empty ∙ ap (λ (x : Content). durable x.bytes) (sym empty)

pub append-requires-clause-framed : goal.append-requires-clause-framed
unfolding eight_bytes
append-requires-clause-framed c κs = (7, 97 ∷ 98 ∷ 99 ∷ [], record { is = refl; kind_fits = omega arith; length_fits = omega arith })
