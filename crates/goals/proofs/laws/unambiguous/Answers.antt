-- At most one tree stands for some tokens. Assumes nothing.
use Rattle.goals.proofs.laws.unambiguous.Goals as goal
use Rattle.goals.proofs.Unambiguous.{unambiguous}

pub returns : goal.returns
returns c = unambiguous
