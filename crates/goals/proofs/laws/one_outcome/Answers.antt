use Rattle.goals.proofs.Verdicts.{answered}
use Rattle.goals.proofs.Single.{single}
use Rattle.goals.proofs.laws.one_outcome.Goals as goal

pub returns : goal.returns
returns c = record { some = answered; only = single }
