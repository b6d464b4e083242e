use Rattle.std.proofs.Common.{vec_items}
use Rattle.flows.specs.Flows.{held}
use Rattle.flows.specs.Bounds.{Keeps}
use Rattle.flows.proofs.network.Network.lowest_broken.Given as goal

abbrev pub invariant-loop-number : goal.invariant-loop-number
invariant-loop-number g l = Keeps g.K.Kind (vec_items l.self.bounds) (held g.K.Kind l.values) l.number
