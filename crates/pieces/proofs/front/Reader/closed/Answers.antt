use Rattle.std.proofs.Common.{List, Ok, Err, Result, subst, Bor}
use Rattle.std.proofs.lemmas.Result.{err_from_is_err_and}
use Rattle.tokens.specs.declared.token.Token.{Token}
use Rattle.syntax.specs.declared.tree.Exp.{Exp}
use Rattle.goals.specs.Goals.{marks}
use Rattle.pieces.specs.declared.fault.Fault.{Fault}
use Rattle.pieces.specs.Seen.{seen}
use Rattle.pieces.specs.Reading.{Extends}
use Rattle.pieces.proofs.Closers.{closes}
use Rattle.pieces.proofs.front.Reader.closed.Goals as goal

pub returns-in_err-atom-clause-read : goal.returns-in_err-atom-clause-read
returns-in_err-atom-clause-read c =
    let rest = c.expect.new.self.rest in
    let y : Result (Exp × Bor (List Token)) Fault = Err c.in_err-atom.field-0.0 in
    let p = err_from_is_err_and c.from_residual-in_err-atom.result c.from_residual-in_err-atom.ensures.1 in
    rw (p.1, p.2) (closes c.args.self.now.end c.args.depth (seen c.args.self.now.rest) (seen rest) c.args.e y (_, c.in_ok-expect.ensures.went)
    (subst (λ n. Extends n 0 c.args.depth marks c.args.e (seen rest) y) c.expect.ensures.same c.in_err-atom.ensures.read))

pub returns-clause-read : goal.returns-clause-read
returns-clause-read c =
    let rest = c.expect.new.self.rest in
    let y : Result (Exp × Bor (List Token)) Fault = Ok (c.in_ok-atom.atom, c.bounds.new.self.rest) in
    closes c.args.self.now.end c.args.depth (seen c.args.self.now.rest) (seen rest) c.args.e y (_, c.in_ok-expect.ensures.went)
    (subst (λ n. Extends n 0 c.args.depth marks c.args.e (seen rest) y) c.expect.ensures.same c.in_ok-atom.ensures.read)
