use Rattle.std.proofs.Common.{◌≡◌, Ok, ◌∷◌, sym, subst, arith}
use Rattle.goals.specs.Goals.{marks}
use Rattle.goals.specs.Machine.{fate}
use Rattle.pieces.specs.declared.front.Reader.{Reader}
use Rattle.pieces.specs.Seen.{seen}
use Rattle.pieces.specs.Reading.{Extends}
use Rattle.pieces.proofs.front.Reader.bounds.Goals as goal

pub returns-clause-read : goal.returns-clause-read
returns-clause-read c =
    let r = c.args.self.now in
    let last = c.loop-mark.ahead in
    let here : Extends r.end 0 c.args.depth marks c.loop-mark.atom (seen last.rest) (Ok (c.loop-mark.atom, last.rest)) = (
      (λ low. low),
      (λ ss low s. s),
      omega arith,
      (λ S d few. subst (λ n. fate n (marks ∷ S) (seen last.rest) ≡ fate n S (seen last.rest)) c.loop-mark.invariant.0 (c.in_default.ensures.found S)),
    ) in
    subst (λ (q : Reader). Extends r.end 0 c.args.depth marks c.args.atom (seen r.rest) (Ok (c.loop-mark.atom, q.rest))) (sym c.in_default.ensures.same)
    (c.loop-mark.invariant.1 (Ok (c.loop-mark.atom, last.rest)) here)
