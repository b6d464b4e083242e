use Rattle.std.proofs.Common.{◌∙◌}
use Rattle.std.proofs.lemmas.Result.{err_from_is_err_and}
use Rattle.pieces.specs.Seen.{seen}
use Rattle.grammar.proofs.Declarations.{same_either, fun_stops, fun_reads}
use Rattle.grammar.proofs.declaration.fun.Goals as goal

pub returns-in_err-expect-3 : goal.returns-in_err-expect-3
returns-in_err-expect-3 c =
    let r = c.args.reader.now in
    let e1 = c.expect.ensures.same ∙ c.identifier.ensures.same in
    let e2 = c.expect-2.ensures.same ∙ (c.params.ensures.same ∙ e1) in
    let e3 = c.typed.ensures.same ∙ e2 in
    let e4 = same_either c.text-mark.result c.typed.new.self c.text-mark.new.self c.text-mark.ensures.same ∙ e3 in
    let p = err_from_is_err_and c.from_residual-in_err-expect-3.result c.from_residual-in_err-expect-3.ensures.1 in
    rw (p.1, p.2)
    (fun_stops r.end c.args.place (seen r.rest)
    (c.in_ok-name.name, c.identifier.new.self.rest) (seen c.expect.new.self.rest) (seen c.expect-2.new.self.rest)
    (c.in_ok-params.params, c.params.new.self.rest) (c.in_ok-ty.ty, c.typed.new.self.rest) (c.text-mark.result, c.text-mark.new.self.rest)
    c.expect.new.self.end c.expect-2.new.self.end c.typed.new.self.end c.text-mark.new.self.end c.expect-3.new.self.end
    e1 e2 e3 e4 (c.expect-3.ensures.same ∙ e4)
    c.in_ok-name.ensures.read (_, c.in_ok-expect.ensures.went) c.in_ok-params.ensures.read (_, c.in_ok-expect-2.ensures.went) c.in_ok-ty.ensures.read c.text-mark.ensures.found
    c.in_err-expect-3.field-0.0 c.in_err-expect-3.ensures.went)

pub returns : goal.returns
returns c =
    let r = c.args.reader.now in
    let e1 = c.expect.ensures.same ∙ c.identifier.ensures.same in
    let e2 = c.expect-2.ensures.same ∙ (c.params.ensures.same ∙ e1) in
    let e3 = c.typed.ensures.same ∙ e2 in
    let e4 = same_either c.text-mark.result c.typed.new.self c.text-mark.new.self c.text-mark.ensures.same ∙ e3 in
    fun_reads r.end c.args.place (seen r.rest)
    (c.in_ok-name.name, c.identifier.new.self.rest) (seen c.expect.new.self.rest) (seen c.expect-2.new.self.rest)
    (c.in_ok-params.params, c.params.new.self.rest) (c.in_ok-ty.ty, c.typed.new.self.rest) (c.text-mark.result, c.text-mark.new.self.rest)
    c.expect.new.self.end c.expect-2.new.self.end c.typed.new.self.end c.text-mark.new.self.end c.expect-3.new.self.end
    e1 e2 e3 e4 (c.expect-3.ensures.same ∙ e4)
    c.in_ok-name.ensures.read (_, c.in_ok-expect.ensures.went) c.in_ok-params.ensures.read (_, c.in_ok-expect-2.ensures.went) c.in_ok-ty.ensures.read c.text-mark.ensures.found
    (seen c.expect-3.new.self.rest) (c.in_ok-e.e, c.exp.new.reader.rest) (_, c.in_ok-expect-3.ensures.went) c.in_ok-e.ensures.read
