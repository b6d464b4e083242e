use Rattle.std.proofs.Common.{Some, sym, ap, ◌∙◌, arith}
use Rattle.making.specs.Holding.{clip_source}
use Rattle.making.specs.declared.output.Operand.{Operand}
use Rattle.making.proofs.Arguments.{argument, as_many, type_at, value_in, value_past}
use Rattle.making.proofs.Standing.{same_first}
use Rattle.making.proofs.calling.value_at.Goals as goal

pub returns-in_err-get : goal.returns-in_err-get
returns-in_err-get c args s =
    c.from_residual.ensures
    ∙ sym (ap clip_source (value_past args c.args.i (omega (arith, as_many c.args.operands.now args s, c.in_err-get.ensures.lookup.3))))

pub returns : goal.returns
returns c args s =
    let xs = c.args.operands.now in
    let found = c.in_ok-get.ensures.lookup in
    ap Some (ap (λ (z : Operand). z.levels.first) found.1 ∙ same_first (argument args c.args.i).levels (type_at xs args s c.args.i _ found.3.0))
    ∙ sym (ap clip_source (value_in args c.args.i (omega (arith, as_many xs args s, found.3.0))))
