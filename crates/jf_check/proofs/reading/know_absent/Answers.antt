use Rattle.jf_check.proofs.reading.know_absent.Goals as goal

pub returns : goal.returns
returns g c = λ h where_ told none. (g.met.D.Disk g.world.𝓛 g.world.𝓜 g.world.𝓡 ((λ s x. x), (λ x. x), (λ x. x), λ x. x)).absent c.args.disk.now h where_ told none
