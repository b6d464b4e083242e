use Rattle.std.proofs.Common.{vec_items}
use Rattle.flows.specs.Flows.{held}
use Rattle.flows.proofs.Broken.{judged}
use Rattle.flows.proofs.network.Network.first_broken.Goals as goal

pub returns-clause-exact : goal.returns-clause-exact
returns-clause-exact g c =
    let n = c.args.self.now in
    λ least. judged g.K.Kind g.met.K.Kind.lawful (vec_items n.flows) (vec_items n.bounds) (held g.K.Kind c.args.values.now) _ least c.lowest_broken.ensures
