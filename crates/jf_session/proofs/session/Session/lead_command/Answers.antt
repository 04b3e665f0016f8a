use Rattle.jf_session.proofs.session.Session.lead_command.Goals as goal

pub returns-in_default : goal.returns-in_default
returns-in_default g c = c.obey_without_blocks.ensures c.args.told.now
