use Rattle.std.proofs.Common.{refl}
use Rattle.making.proofs.Keeping.{flow_held}
use Rattle.making.proofs.output.Output.add_flow.Goals as goal

pub returns : goal.returns
returns c base f form =
    record { agrees = λ m h. (tt, _, refl, refl, flow_held base c.args.self.now _ m f _ refl refl refl refl c.saturating_add-self.ensures c.hand_flow.ensures form h) }
