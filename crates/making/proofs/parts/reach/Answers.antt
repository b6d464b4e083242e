use Rattle.std.proofs.Common.{arith}
use Rattle.making.proofs.Following.{then, stop, done, met, unmet}
use Rattle.making.proofs.Standing.{above_is, above_not}
use Rattle.making.proofs.parts.reach.Goals as goal

pub returns-then-a-eq0 : goal.returns-then-a-eq0
returns-then-a-eq0 c base o x s = stop _ (unmet _ (above_not x s 0 (omega (arith, c.if-a-eq0.true))))

pub returns : goal.returns
returns c base o x s = then _ (met _ _ (above_is x s 0 (omega (arith, c.if-a-eq0.false)))) (λ _ _. done (c.below.ensures x s))
