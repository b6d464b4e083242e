use Rattle.rules.proofs.Shared.{all_shared}
use Rattle.rules.proofs.laws.references_are_shared.Goals as goal

pub returns : goal.returns
returns g c = all_shared g.K.Kind g.met.K.Kind.lawful
