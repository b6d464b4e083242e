use Rattle.std.proofs.Common.{◌≡◌, ◌+◌, ◌-◌, ◌*◌, ◌<◌, ◌≤◌, [], ◌∷◌, length}
use Rattle.syntax.specs.Meanings.{tree_of}
use Rattle.syntax.specs.Grammar.{class, Spans}
use Rattle.pieces.specs.Seen.{seen}
use Rattle.pieces.specs.Reading.{Leads}
use Rattle.pieces.specs.Taking.{strength_of, whole_of, more_of}
use Rattle.grammar.proofs.expression.+expression.Given as goal

-- the tokens left, and then how far the callee stands below the caller
abbrev pub decreases-app : goal.decreases-app
decreases-app l = 12 * length (seen l.reader.now.rest) + 2

abbrev pub decreases-args : goal.decreases-args
decreases-args l = 12 * length (seen l.reader.now.rest) + 8

abbrev pub decreases-assignment : goal.decreases-assignment
decreases-assignment l = 12 * length (seen l.reader.now.rest) + 7

abbrev pub decreases-atom : goal.decreases-atom
decreases-atom l = 12 * length (seen l.reader.now.rest) + 1

abbrev pub decreases-block : goal.decreases-block
decreases-block l = 12 * length (seen l.reader.now.rest) + 1

abbrev pub decreases-bracket : goal.decreases-bracket
decreases-bracket l = 12 * length (seen l.reader.now.rest) + 7

abbrev pub decreases-call : goal.decreases-call
decreases-call l = 12 * length (seen l.reader.now.rest) + 9

abbrev pub decreases-cell : goal.decreases-cell
decreases-cell l = 12 * length (seen l.reader.now.rest) + 2

abbrev pub decreases-chain : goal.decreases-chain
decreases-chain l = 12 * length (seen l.reader.now.rest) + 2 * strength_of l.tier

abbrev pub decreases-conditional : goal.decreases-conditional
decreases-conditional l = 12 * length (seen l.reader.now.rest) + 7

abbrev pub decreases-content : goal.decreases-content
decreases-content l = 12 * length (seen l.reader.now.rest) + 2

abbrev pub decreases-exp : goal.decreases-exp
decreases-exp l = 12 * length (seen l.reader.now.rest) + 7

abbrev pub decreases-group : goal.decreases-group
decreases-group l = 12 * length (seen l.reader.now.rest) + 9

abbrev pub decreases-inside : goal.decreases-inside
decreases-inside l = 12 * length (seen l.reader.now.rest) + 8

abbrev pub decreases-named : goal.decreases-named
decreases-named l = 12 * length (seen l.reader.now.rest) + 1

abbrev pub decreases-part : goal.decreases-part
decreases-part l = 12 * length (seen l.reader.now.rest) + (2 * strength_of l.tier - 1)

abbrev pub decreases-vals : goal.decreases-vals
decreases-vals l = 12 * length (seen l.reader.now.rest) + 1

-- what is joined so far was read, and more may follow
abbrev pub invariant-chain-loop-place : goal.invariant-chain-loop-place
invariant-chain-loop-place l =
    (l.reader.end ≡ l.fn.reader.end)
    × (class (tree_of l.joined) ≤ strength_of l.tier)
    × Spans (tree_of l.joined) (seen l.fn.reader.rest) (seen l.reader.rest)
    × (length (seen l.reader.rest) < length (seen l.fn.reader.rest))
    × Leads l.fn.reader.end l.depth (whole_of l.tier ∷ []) (seen l.fn.reader.rest) (more_of l.tier ∷ []) (seen l.reader.rest)

abbrev pub decreases-chain-loop-place : goal.decreases-chain-loop-place
decreases-chain-loop-place l = length (seen l.reader.rest)
