use Rattle.std.proofs.Common.{◌<◌, length, refl, arith}
use Rattle.making.proofs.Arguments.{argument, as_many, place_at, type_at, ints_at, ints_all}
use Rattle.making.proofs.Following.{then, broke, done, by_step}
use Rattle.making.proofs.calling.all_ints.Goals as goal

pub loop-operand-preserved : goal.loop-operand-preserved
loop-operand-preserved c base o args r s rest =
    let xs = c.args.operands.now in
    let i = c.loop-operand.operand-index in
    let here : i < length args = omega (arith, as_many xs args s) in
    c.loop-operand.invariant base o args r s
    (by_step (ints_at args i here)
    (then _ (c.in_ok-demand_int.ensures base o (argument args i).place (argument args i).levels (place_at xs args s i _ c.loop-operand-test.true) (type_at xs args s i _ c.loop-operand-test.true)) (λ _ _. rest)))

pub returns-in_err-demand_int : goal.returns-in_err-demand_int
returns-in_err-demand_int c base o args s =
    let xs = c.args.operands.now in
    let i = c.loop-operand.operand-index in
    let here : i < length args = omega (arith, as_many xs args s) in
    c.loop-operand.invariant base o args _ s
    (by_step (ints_at args i here)
    (broke _ c.from_residual.ensures.1 (c.in_err-demand_int.ensures base o (argument args i).place (argument args i).levels (place_at xs args s i _ c.loop-operand-test.true) (type_at xs args s i _ c.loop-operand-test.true))))

pub returns : goal.returns
returns c base o args s =
    c.loop-operand.invariant base o args _ s (by_step (ints_all args c.loop-operand.operand-index (let e = as_many c.args.operands.now args s in omega arith)) (done refl))
