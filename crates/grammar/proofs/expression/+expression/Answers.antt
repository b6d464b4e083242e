use Rattle.std.proofs.Common.{ℕ, List, Some, Ok, ◌∙◌, subst, Bor}
use Rattle.std.proofs.lemmas.Result.{err_from_is_err_and}
use Rattle.tokens.specs.declared.token.Token.{Token}
use Rattle.syntax.specs.declared.tree.Operator.{Operator}
use Rattle.goals.specs.Goals.{exp, sum}
use Rattle.pieces.specs.Reading.{Deeper}
use Rattle.pieces.specs.Seen.{seen}
use Rattle.pieces.specs.Looking.{Operates}
use Rattle.pieces.specs.Taking.{strength_of, part_strength, more_of, part_of}
use Rattle.grammar.proofs.Steps.{chain_fails, chain_first, chain_more, same_end, if_reads}
use Rattle.grammar.proofs.expression.+expression.Goals as goal

pub chain-returns-in_err-joined-clause-read : goal.chain-returns-in_err-joined-clause-read
chain-returns-in_err-joined-clause-read t c =
    let r = c.args.reader.now in
    let p = err_from_is_err_and c.from_residual.result c.from_residual.ensures.1 in
    rw (p.1, p.2) (chain_fails c.args.tier r.end c.args.depth (seen r.rest) c.in_err-joined.field-0.0 c.in_err-joined.ensures.read)

pub chain-loop-place-init : goal.chain-loop-place-init
chain-loop-place-init t c =
    let r = c.args.reader.now in
    let q = chain_first c.args.tier r.end c.args.depth (seen r.rest) (c.in_ok-joined.joined, c.part.new.reader.rest) c.in_ok-joined.ensures.read in
    (c.part.ensures.same, q.0, q.1, q.2, q.3)

pub chain-loop-place-preserved : goal.chain-loop-place-preserved
chain-loop-place-preserved t c =
    let r = c.args.reader.now in
    let i = c.loop-place.invariant in
    let e = c.in-Some.ensures.same ∙ i.0 in
    let op : (ℕ × Operator) × Bor (List Token) = ((c.in-Some.place, c.in-Some.op), c.operator.new.self.rest) in
    let rest = c.part-in-Some.new.reader.rest in
    let q = chain_more c.args.tier r.end c.args.depth (seen r.rest) (seen c.loop-place.reader.rest) c.loop-place.joined c.in_ok-next.next c.in_ok-joined-2.joined op rest
    (i.1, i.2, i.3, i.4)
    (subst (λ n. Operates (strength_of c.args.tier) n (more_of c.args.tier) (part_of c.args.tier) (seen c.loop-place.reader.rest) (Some op)) i.0 c.in-Some.ensures.found)
    (same_end r.end (part_strength c.args.tier) c.args.depth (part_of c.args.tier) (seen op.1) (Ok (c.in_ok-next.next, rest)) c.operator.new.self.end e c.in_ok-next.ensures.read)
    c.in_ok-joined-2.ensures in
    (c.part-in-Some.ensures.same ∙ e, q.0, q.1, q.2, q.3)

pub conditional-returns-clause-read : goal.conditional-returns-clause-read
conditional-returns-clause-read t c =
    let r = c.args.reader.now in
    let e1 = c.expect.ensures.same ∙ c.chain.ensures.same in
    let e2 = c.expect-2.ensures.same ∙ (c.chain-2.ensures.same ∙ e1) in
    let e3 = c.expect-3.ensures.same ∙ (c.exp.ensures.same ∙ e2) in
    let s = c.expect.new.self.rest in
    let u = c.expect-2.new.self.rest in
    let v = c.expect-3.new.self.rest in
    if_reads r.end c.args.depth c.in_ok-inner.inner c.args.place (subst (Deeper c.args.depth) c.in_ok-inner.ensures.ok_part c.deeper.ensures) (seen r.rest)
    (c.in_ok-a.a, c.chain.new.reader.rest) (c.in_ok-b.b, c.chain-2.new.reader.rest) (c.in_ok-c.c, c.exp.new.reader.rest) (c.in_ok-d.d, c.exp-2.new.reader.rest)
    (seen s) (seen u) (seen v)
    c.in_ok-a.ensures.read (_, c.in_ok-expect.ensures.went)
    (same_end r.end 3 c.in_ok-inner.inner sum (seen s) (Ok (c.in_ok-b.b, c.chain-2.new.reader.rest)) c.expect.new.self.end e1 c.in_ok-b.ensures.read) (_, c.in_ok-expect-2.ensures.went)
    (same_end r.end 4 c.in_ok-inner.inner exp (seen u) (Ok (c.in_ok-c.c, c.exp.new.reader.rest)) c.expect-2.new.self.end e2 c.in_ok-c.ensures.read) (_, c.in_ok-expect-3.ensures.went)
    (same_end r.end 4 c.in_ok-inner.inner exp (seen v) (Ok (c.in_ok-d.d, c.exp-2.new.reader.rest)) c.expect-3.new.self.end e3 c.in_ok-d.ensures.read)
    c.chosen.result c.chosen.ensures
