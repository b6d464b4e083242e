use Rattle.std.proofs.Common.{◌-◌, sym, ap, ◌∙◌, arith}
use Rattle.rules.specs.Making.{from_1}
use Rattle.making.proofs.Following.{then, stop, done, met, unmet}
use Rattle.making.proofs.Standing.{same_depth, above_is, above_not, equal_is, equal_not}
use Rattle.making.proofs.output.Output.add_assignment.Goals as goal

pub returns-then-p-eq0 : goal.returns-then-p-eq0
returns-then-p-eq0 c base x y z s u v = stop _ (unmet _ (above_not x s 0 (omega (arith, c.if-p-eq0.true))))

pub returns-then-e-p : goal.returns-then-e-p
returns-then-e-p c base x y z s u v =
    then _ (met _ _ (above_is x s 0 (omega (arith, c.if-p-eq0.false))))
    (λ _ _. stop _ (unmet _ (equal_not y u (x.depth - 1) (λ e. c.if-e-p.true (e ∙ ap (λ d. d - 1) (sym (same_depth x s)))))))

pub returns : goal.returns
returns c base x y z s u v =
    then _ (met _ _ (above_is x s 0 (omega (arith, c.if-p-eq0.false))))
    (λ _ _. then _ (met _ _ (equal_is y u (x.depth - 1) (c.if-e-p.false ∙ ap (λ d. d - 1) (same_depth x s))))
    (λ _ _. then _ (c.flow_into.ensures base y (from_1 x) u (c.below.ensures x s)) (λ _ _. done v)))
