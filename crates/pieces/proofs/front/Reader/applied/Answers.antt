use Rattle.std.proofs.Common.{Ok}
use Rattle.pieces.specs.Seen.{seen}
use Rattle.pieces.proofs.Closers.{applies}
use Rattle.pieces.proofs.front.Reader.applied.Goals as goal

pub returns-clause-read : goal.returns-clause-read
returns-clause-read c =
    applies c.args.self.now.end c.args.depth (seen c.args.self.now.rest) c.args.name c.args.args (Ok c.in_ok-call.call) c.expect.new.self.rest (_, c.in_ok-expect.ensures.went) c.in_ok-call.ensures
