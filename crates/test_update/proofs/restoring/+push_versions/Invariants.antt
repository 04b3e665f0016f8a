use Rattle.test_update.proofs.restoring.+push_versions.Given as goal

abbrev pub decreases-push_versions : goal.decreases-push_versions
decreases-push_versions l = l.levels
