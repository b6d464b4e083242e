use Rattle.std.proofs.Common.{sym, ◌∙◌}
use Rattle.std.proofs.lemmas.Bool.{eq-eqb, ne_eqb}
use Rattle.making.proofs.Arguments.{as_many, as_many_types}
use Rattle.making.proofs.Following.{then, broke, done, met, refused}
use Rattle.making.proofs.output.Output.add_call.Goals as goal

pub returns-then-operands-parameters : goal.returns-then-operands-parameters
returns-then-operands-parameters c base f args ps t at s u v =
    refused _ at _ (ne_eqb _ _ (λ e. c.if-operands-parameters.true (as_many c.args.operands.now args s ∙ (e ∙ sym (as_many_types c.args.parameters.now ps u)))))

pub returns-in_err-all_fit : goal.returns-in_err-all_fit
returns-in_err-all_fit c base f args ps t at s u v =
    then _ (met _ _ (eq-eqb _ _ (sym (as_many c.args.operands.now args s) ∙ (c.if-operands-parameters.false ∙ as_many_types c.args.parameters.now ps u))))
    (λ _ _. broke _ c.from_residual.ensures.1 (c.in_err-all_fit.ensures base c.args.self.now args ps s u))

pub returns : goal.returns
returns c base f args ps t at s u v =
    then _ (met _ _ (eq-eqb _ _ (sym (as_many c.args.operands.now args s) ∙ (c.if-operands-parameters.false ∙ as_many_types c.args.parameters.now ps u))))
    (λ _ _. then _ (c.in_ok-all_fit.ensures base c.args.self.now args ps s u)
    (λ _ _. then _ (c.pass.ensures base args ps s u) (λ _ _. done v)))
