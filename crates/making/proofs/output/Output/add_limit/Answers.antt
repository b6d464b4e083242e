use Rattle.making.proofs.Following.{then, done}
use Rattle.making.proofs.Standing.{same_first}
use Rattle.making.proofs.output.Output.add_limit.Goals as goal

pub returns : goal.returns
returns c base k x s = then _ (c.add_bound.ensures base x.first (same_first x s)) (λ _ _. done s)
