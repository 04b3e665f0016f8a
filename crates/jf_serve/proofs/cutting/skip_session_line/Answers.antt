use Rattle.jf_serve.proofs.ScriptCuts.{scripts_in-none}
use Rattle.jf_serve.proofs.cutting.skip_session_line.Goals as goal

pub returns-in_default : goal.returns-in_default
returns-in_default c = scripts_in-none c.args.input.now (c.cut_line.ensures.empty c.in_default.is)
