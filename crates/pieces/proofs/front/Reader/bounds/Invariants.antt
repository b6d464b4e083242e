use Rattle.std.proofs.Common.{◌≡◌, List, Result, Bor, length}
use Rattle.tokens.specs.declared.token.Token.{Token}
use Rattle.syntax.specs.declared.tree.Exp.{Exp}
use Rattle.goals.specs.Goals.{marks}
use Rattle.pieces.specs.declared.fault.Fault.{Fault}
use Rattle.pieces.specs.Seen.{seen}
use Rattle.pieces.specs.Reading.{Extends}
use Rattle.pieces.proofs.front.Reader.bounds.Given as goal

-- what the atom with its marks so far goes on to, the atom goes on to
abbrev pub invariant-loop-mark : goal.invariant-loop-mark
invariant-loop-mark l =
    (l.ahead.end ≡ l.fn.self.end)
    × ((y : Result (Exp × Bor (List Token)) Fault) → Extends l.fn.self.end 0 l.depth marks l.atom (seen l.ahead.rest) y → Extends l.fn.self.end 0 l.depth marks l.fn.atom (seen l.fn.self.rest) y)

abbrev pub decreases-loop-mark : goal.decreases-loop-mark
decreases-loop-mark l = length (seen l.ahead.rest)
