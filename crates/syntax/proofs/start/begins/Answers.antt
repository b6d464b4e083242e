use Rattle.syntax.proofs.Starting.{starting}
use Rattle.syntax.proofs.start.begins.Goals as goal

pub returns : goal.returns
returns c = starting
