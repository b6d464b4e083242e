use Rattle.std.proofs.Common.{◌-◌, ◌≡◌, ◌∷◌, ◌∙◌, length, ap, arith}
use Rattle.pieces.specs.Seen.{seen}
use Rattle.goals.proofs.Steps.{no_refs}
use Rattle.pieces.proofs.Heads.{refs_more, one_more}
use Rattle.pieces.proofs.front.Reader.refs.Goals as goal

pub loop-ty-preserved : goal.loop-ty-preserved
loop-ty-preserved c =
    let r = c.args.self.now in
    let i = c.loop-ty.invariant in
    let m = seen c.loop-ty.self.rest in
    let rest = seen c.take.new.self.rest in
    let found = c.in-Some.ensures.found in (
      c.in-Some.ensures.same ∙ i.0,
      omega arith,
      refs_more c.loop-ty.ty.depth c.args.from c.loop-ty.ty.last c.in-Some.place (seen r.rest) m rest i.2 found,
      omega (arith, i.3, ap length found),
      λ S few. i.4 S few ∙ one_more r.end c.args.room c.loop-ty.ty.depth c.in-Some.place (omega arith) m rest found S few,
    )

pub returns-after-loop-ty-clause-read : goal.returns-after-loop-ty-clause-read
returns-after-loop-ty-clause-read c =
    let r = c.args.self.now in
    let i = c.loop-ty.invariant in (
      i.1,
      i.2,
      i.3,
      λ S few. i.4 S few ∙ no_refs r.end (c.args.room - c.loop-ty.ty.depth) (omega arith) S (seen c.loop-ty.self.rest),
    )
