use Rattle.std.proofs.Common.{[], ◌∷◌, refl}
use Rattle.test_pair.proofs.Samples.{number, first, second, more, is_one}
use Rattle.test_pair.proofs.pairs.write_files.Goals as goal

pub switch-requires-clause-framed : goal.switch-requires-clause-framed
switch-requires-clause-framed c κs = (4, number 1, first)

pub switch-requires-clause-checkpoint : goal.switch-requires-clause-checkpoint
switch-requires-clause-checkpoint c κs = λ kind payload is. is_one _ 4 kind 1 payload first refl is

pub append-requires-clause-framed : goal.append-requires-clause-framed
append-requires-clause-framed c κs = (7, 97 ∷ 98 ∷ 99 ∷ [], more)

pub switch-requires-2-clause-framed : goal.switch-requires-2-clause-framed
switch-requires-2-clause-framed c κs = (5, number 2, second)

pub switch-requires-2-clause-checkpoint : goal.switch-requires-2-clause-checkpoint
switch-requires-2-clause-checkpoint c κs = λ kind payload is. is_one _ 5 kind 2 payload second refl is
