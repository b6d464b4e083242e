use Rattle.std.proofs.Common.{refl}
use Rattle.rules.specs.Making.{◌▸◌}
use Rattle.rules.proofs.laws.worked_example.Goals as goal

pub returns : goal.returns
unfolding ◌▸◌
returns c = refl
