use Rattle.std.proofs.Common.{length}
use Rattle.pieces.specs.Seen.{seen}
use Rattle.pieces.proofs.front.Reader.+params.Given as goal

abbrev pub decreases-params : goal.decreases-params
decreases-params l = length (seen l.self.now.rest)
