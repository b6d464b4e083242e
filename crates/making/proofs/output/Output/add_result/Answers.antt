use Rattle.std.proofs.Common.{sym, ◌∙◌}
use Rattle.making.proofs.Following.{then, stop, met, unmet}
use Rattle.making.proofs.Standing.{same_depth, equal_is, equal_not}
use Rattle.making.proofs.output.Output.add_result.Goals as goal

pub returns-then-u-t : goal.returns-then-u-t
returns-then-u-t c base x y s v = stop _ (unmet _ (equal_not x s y.depth (λ e. c.if-u-t.true (e ∙ sym (same_depth y v)))))

pub returns : goal.returns
returns c base x y s v = then _ (met _ _ (equal_is x s y.depth (c.if-u-t.false ∙ same_depth y v))) (λ _ _. c.flow_into.ensures base x y s v)
