use Rattle.std.proofs.Common.{None, refl}
use Rattle.making.proofs.Following.{then, done}
use Rattle.making.proofs.Standing.{same_first}
use Rattle.making.proofs.output.Output.add_literal.Goals as goal

pub returns : goal.returns
returns c base =
    then _ (c.new_type-t.ensures base)
    (λ t s. then _ (c.add_operator.ensures base None None t.first refl refl (same_first t s)) (λ _ _. done s))
