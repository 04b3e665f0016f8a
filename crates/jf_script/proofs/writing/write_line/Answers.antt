use Rattle.std.proofs.lemmas.List.{append_assoc}
use Rattle.jf_script.proofs.Texts.{reply_text-pieces}
use Rattle.jf_script.proofs.writing.write_line.Goals as goal

pub returns-clause-ok : goal.returns-clause-ok
returns-clause-ok c =
    let written = rw (c.in_ok-write_words.ensures.ok, c.in_ok-write_number.ensures.ok) at c.push.ensures.ok in
    rw (reply_text-pieces c.args.seen c.args.reply.now) (simp append_assoc (simp append_assoc at written))
