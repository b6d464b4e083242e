use Rattle.rules.proofs.WalkNumbers.{all_numbered}
use Rattle.rules.proofs.laws.numbering.Goals as goal

pub returns : goal.returns
returns c = all_numbered
