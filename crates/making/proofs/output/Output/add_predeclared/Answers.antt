use Rattle.std.proofs.Common.{sym, ◌∙◌}
use Rattle.std.proofs.lemmas.Bool.{eq-eqb, ne_eqb}
use Rattle.rules.specs.Calls.{value_of}
use Rattle.making.proofs.Arguments.{as_many}
use Rattle.making.proofs.Following.{then, broke, done, met, refused}
use Rattle.making.proofs.Standing.{same_first}
use Rattle.making.proofs.output.Output.add_predeclared.Goals as goal

pub returns-then-operands-count : goal.returns-then-operands-count
returns-then-operands-count c base f args at s =
    refused _ at _ (ne_eqb _ _ (λ e. c.if-operands-count.true (as_many c.args.operands.now args s ∙ e)))

pub returns-in_err-all_ints : goal.returns-in_err-all_ints
returns-in_err-all_ints c base f args at s =
    then _ (met _ _ (eq-eqb _ _ (sym (as_many c.args.operands.now args s) ∙ c.if-operands-count.false)))
    (λ _ _. broke _ c.from_residual.ensures.1 (c.in_err-all_ints.ensures base c.args.self.now args s))

pub returns : goal.returns
returns c base f args at s =
    then _ (met _ _ (eq-eqb _ _ (sym (as_many c.args.operands.now args s) ∙ c.if-operands-count.false)))
    (λ _ _. then _ (c.in_ok-all_ints.ensures base c.args.self.now args s)
    (λ _ _. then _ (c.new_type-t.ensures base)
    (λ t v. then _ (c.add_operator.ensures base (value_of args 0) (value_of args 1) t.first (c.value_at.ensures args s) (c.value_at-2.ensures args s) (same_first t v)) (λ _ _. done v))))
