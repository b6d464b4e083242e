use Rattle.std.proofs.Common.{arith}
use Rattle.pieces.specs.Seen.{seen}
use Rattle.goals.proofs.Steps.{no_pars}
use Rattle.pieces.proofs.Heads.{params_last}
use Rattle.pieces.proofs.front.Reader.+params.Goals as goal

pub returns-then-room-eq0-clause-read : goal.returns-then-room-eq0-clause-read
returns-then-room-eq0-clause-read t c =
    let r = c.args.self.now in
    let rest = c.param.new.self.rest in
    params_last r.end c.args.room (seen r.rest) (c.in_ok-x.x, rest) c.in_ok-x.ensures.read
    (λ S. no_pars r.end c.args.room (omega arith) S (seen rest))
