use Rattle.std.proofs.Common.{refl}
use Rattle.making.proofs.Bounding.{bound_held}
use Rattle.making.proofs.output.Output.add_bound.Goals as goal

pub returns : goal.returns
returns c base v e =
    record { agrees = λ m h. (tt, _, refl, refl, bound_held base c.args.self.now _ m _ _ refl refl refl refl c.saturating_add-self.ensures c.hand_bound.ensures (λ l. c.narrow_bound.ensures v e l) h) }
