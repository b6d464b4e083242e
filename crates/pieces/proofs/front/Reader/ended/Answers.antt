use Rattle.std.proofs.Common.{List, Ok, Err, Result, subst, Bor}
use Rattle.std.proofs.lemmas.Result.{err_from_is_err_and}
use Rattle.tokens.specs.declared.token.Token.{Token}
use Rattle.syntax.specs.declared.tree.Exp.{Exp}
use Rattle.goals.specs.Goals.{marks}
use Rattle.pieces.specs.declared.fault.Fault.{Fault}
use Rattle.pieces.specs.Seen.{seen}
use Rattle.pieces.specs.Reading.{Extends}
use Rattle.pieces.proofs.Closers.{ends}
use Rattle.pieces.proofs.front.Reader.ended.Goals as goal

pub returns-in_err-marked-clause-read : goal.returns-in_err-marked-clause-read
returns-in_err-marked-clause-read c =
    let rest = c.expect.new.self.rest in
    let y : Result (Exp × Bor (List Token)) Fault = Err c.in_err-marked.field-0.0 in
    let p = err_from_is_err_and c.from_residual-in_err-marked.result c.from_residual-in_err-marked.ensures.1 in
    rw (p.1, p.2) (ends c.args.self.now.end c.args.depth c.args.place (seen c.args.self.now.rest) (seen rest) c.args.vals c.args.e c.in_ok-e.e y (_, c.in_ok-expect.ensures.went) c.in_ok-e.ensures
    (subst (λ n. Extends n 0 c.args.depth marks c.in_ok-e.e (seen rest) y) c.expect.ensures.same c.in_err-marked.ensures.read))

pub returns-clause-read : goal.returns-clause-read
returns-clause-read c =
    let rest = c.expect.new.self.rest in
    let y : Result (Exp × Bor (List Token)) Fault = Ok (c.in_ok-marked.marked, c.bounds.new.self.rest) in
    ends c.args.self.now.end c.args.depth c.args.place (seen c.args.self.now.rest) (seen rest) c.args.vals c.args.e c.in_ok-e.e y (_, c.in_ok-expect.ensures.went) c.in_ok-e.ensures
    (subst (λ n. Extends n 0 c.args.depth marks c.in_ok-e.e (seen rest) y) c.expect.ensures.same c.in_ok-marked.ensures.read)
