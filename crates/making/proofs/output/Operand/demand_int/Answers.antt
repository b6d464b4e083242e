use Rattle.std.proofs.Common.{Err, subst}
use Rattle.refusals.specs.declared.refusal.Refusal.TheVariants.{Unfit}
use Rattle.rules.specs.Parts.{int}
use Rattle.making.specs.Holding.{Itself, Grown, Holds, Follows}
use Rattle.making.proofs.Following.{met, unmet}
use Rattle.making.proofs.Standing.{equal_is, equal_not}
use Rattle.making.proofs.output.Operand.demand_int.Goals as goal

pub returns-then-self-ne0 : goal.returns-then-self-ne0
returns-then-self-ne0 c base o p x at s =
    subst (λ q. Follows (Holds base) (Grown base) Itself o o (Err (Unfit c.args.self.place)) (int q x)) at (unmet _ (equal_not x s 0 c.if-self-ne0.true))

pub returns : goal.returns
returns c base o p x at s = met _ _ (equal_is x s 0 c.if-self-ne0.false)
