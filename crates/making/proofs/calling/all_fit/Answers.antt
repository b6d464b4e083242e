use Rattle.std.proofs.Common.{◌∷◌, sym, refl, ap, ◌∙◌, inl, inr, ⊎_elim}
use Rattle.rules.specs.Calls.{fit}
use Rattle.making.specs.Holding.{clip_operand, clip_levels}
use Rattle.making.specs.declared.output.Operand.{Operand}
use Rattle.making.proofs.Arguments.{front, no_fit, run_out}
use Rattle.making.proofs.Following.{then, done, met, refused, by_step}
use Rattle.making.proofs.Standing.{same_depth, equal_is, equal_not}
use Rattle.making.proofs.calling.all_fit.Goals as goal

pub loop-operand-preserved : goal.loop-operand-preserved
loop-operand-preserved c base o args ps s u =
    let sofar = c.loop-operand.invariant base o args ps s u in
    let step = c.in-Some.ensures.steps in
    let a = front clip_operand _ _ sofar.0 (sym step.0 ∙ sofar.2) in
    let p = front clip_levels _ _ sofar.1 (sym step.1 ∙ sofar.3) in (
      a.1,
      p.1,
      a.4,
      p.4,
      λ r rest. sofar.4 r
          (by_step (ap (λ z. fit z sofar.1) a.2 ∙ ap (λ z. fit (a.0 ∷ a.1) z) p.2)
          (then _ (met _ _ (equal_is a.0.levels (ap (λ (z : Operand). z.levels) a.3) p.0.depth (c.if-operand-parameter.false ∙ same_depth p.0 p.3))) (λ _ _. rest))),
    )

pub returns-then-operand-parameter : goal.returns-then-operand-parameter
returns-then-operand-parameter c base o args ps s u =
    let sofar = c.loop-operand.invariant base o args ps s u in
    let step = c.in-Some.ensures.steps in
    let a = front clip_operand _ _ sofar.0 (sym step.0 ∙ sofar.2) in
    let p = front clip_levels _ _ sofar.1 (sym step.1 ∙ sofar.3) in
    sofar.4 _
    (by_step (ap (λ z. fit z sofar.1) a.2 ∙ ap (λ z. fit (a.0 ∷ a.1) z) p.2)
    (refused _ (ap (λ (z : Operand). z.place) a.3) _
    (equal_not a.0.levels (ap (λ (z : Operand). z.levels) a.3) p.0.depth (λ e. c.if-operand-parameter.true (e ∙ sym (same_depth p.0 p.3))))))

pub returns : goal.returns
returns c base o args ps s u =
    let sofar = c.loop-operand.invariant base o args ps s u in
    let ends = ⊎_elim (λ a. inl a.1.0) (λ p. inr p.1.0) c.in-None.ensures.steps in
    sofar.4 _ (by_step (no_fit sofar.0 sofar.1 (run_out sofar.0 sofar.1 _ _ sofar.2 sofar.3 ends)) (done refl))
