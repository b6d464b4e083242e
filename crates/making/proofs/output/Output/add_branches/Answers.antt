use Rattle.std.proofs.Common.{sym, refl, ap, ◌∙◌}
use Rattle.rules.specs.Making.{fresh}
use Rattle.making.proofs.Following.{then, stop, broke, done, met, unmet, by_step}
use Rattle.making.proofs.Standing.{same_depth, equal_is, equal_not}
use Rattle.making.proofs.output.Output.add_branches.Goals as goal

pub returns-in_err-demand_int : goal.returns-in_err-demand_int
returns-in_err-demand_int c base x y z w s u v q =
    broke _ c.from_residual.ensures.1 (c.in_err-demand_int.ensures base c.args.self.now c.args.a.place x refl s)

pub returns-in_err-demand_int-2 : goal.returns-in_err-demand_int-2
returns-in_err-demand_int-2 c base x y z w s u v q =
    then _ (c.in_ok-demand_int.ensures base c.args.self.now c.args.a.place x refl s)
    (λ _ _. broke _ c.from_residual-in_err-demand_int-2.ensures.1 (c.in_err-demand_int-2.ensures base c.args.self.now c.args.b.place y refl u))

pub returns-then-d-c : goal.returns-then-d-c
returns-then-d-c c base x y z w s u v q =
    then _ (c.in_ok-demand_int.ensures base c.args.self.now c.args.a.place x refl s)
    (λ _ _. then _ (c.in_ok-demand_int-2.ensures base c.args.self.now c.args.b.place y refl u)
    (λ _ _. stop _ (unmet _ (equal_not w q z.depth (λ e. c.if-d-c.true (e ∙ sym (same_depth z v)))))))

pub returns : goal.returns
returns c base x y z w s u v q =
    then _ (c.in_ok-demand_int.ensures base c.args.self.now c.args.a.place x refl s)
    (λ _ _. then _ (c.in_ok-demand_int-2.ensures base c.args.self.now c.args.b.place y refl u)
    (λ _ _. then _ (met _ _ (equal_is w q z.depth (c.if-d-c.false ∙ same_depth z v)))
    (λ _ _. then _ (by_step (ap fresh (sym (same_depth z v))) (c.new_type-t.ensures base))
    (λ t k. then _ (c.flow_into.ensures base z t v k) (λ _ _. then _ (c.flow_into-2.ensures base w t q k) (λ _ _. done k))))))
