use Rattle.std.proofs.Common.{Some, refl, ap}
use Rattle.making.proofs.Following.{then, broke, done}
use Rattle.making.proofs.Standing.{same_first}
use Rattle.making.proofs.output.Output.add_arithmetic.Goals as goal

pub returns-in_err-demand_int : goal.returns-in_err-demand_int
returns-in_err-demand_int c base x y s u =
    broke _ c.from_residual.ensures.1 (c.in_err-demand_int.ensures base c.args.self.now c.args.a.place x refl s)

pub returns-in_err-demand_int-2 : goal.returns-in_err-demand_int-2
returns-in_err-demand_int-2 c base x y s u =
    then _ (c.in_ok-demand_int.ensures base c.args.self.now c.args.a.place x refl s)
    (λ _ _. broke _ c.from_residual-in_err-demand_int-2.ensures.1 (c.in_err-demand_int-2.ensures base c.args.self.now c.args.b.place y refl u))

pub returns : goal.returns
returns c base x y s u =
    then _ (c.in_ok-demand_int.ensures base c.args.self.now c.args.a.place x refl s)
    (λ _ _. then _ (c.in_ok-demand_int-2.ensures base c.args.self.now c.args.b.place y refl u)
    (λ _ _. then _ (c.new_type-t.ensures base)
    (λ t v. then _ (c.add_operator.ensures base (Some x.first) (Some y.first) t.first (ap Some (same_first x s)) (ap Some (same_first y u)) (same_first t v))
    (λ _ _. done v))))
