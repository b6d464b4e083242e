use Rattle.std.proofs.Common.{◌+◌, None, sym, refl, ap}
use Rattle.rules.specs.Making.{fresh, from_1}
use Rattle.making.proofs.Following.{then, stop, done, met, unmet, by_step}
use Rattle.making.proofs.Standing.{same_first, same_depth, below_is, below_not}
use Rattle.making.proofs.output.Output.add_cell.Goals as goal

pub returns-then-a-ge-DEEPEST : goal.returns-then-a-ge-DEEPEST
returns-then-a-ge-DEEPEST c base x s = stop _ (unmet _ (below_not x s 3 c.if-a-ge-DEEPEST.true))

pub returns : goal.returns
returns c base x s =
    then _ (met _ _ (below_is x s 3 c.if-a-ge-DEEPEST.false))
    (λ _ _. then _ (by_step (ap (λ d. fresh (d + 1)) (sym (same_depth x s))) (c.new_type-t.ensures base))
    (λ t u. then _ (c.add_operator.ensures base None None t.first refl refl (same_first t u))
    (λ _ _. then _ (c.flow_into.ensures base x (from_1 t) s (c.below.ensures t u)) (λ _ _. done u))))
