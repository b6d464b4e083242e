use Rattle.std.proofs.Common.{◌≡◌, ◌-◌, ◌≤◌, ◌∷◌, length}
use Rattle.syntax.specs.Grammar.{Refs}
use Rattle.syntax.specs.Levels.{most_levels}
use Rattle.goals.specs.Goals.{Goals, refs}
use Rattle.goals.specs.Machine.{levels, fate}
use Rattle.pieces.specs.Seen.{seen}
use Rattle.pieces.proofs.front.Reader.refs.Given as goal

-- so many were read, and as many may follow as there is room left for
abbrev pub invariant-loop-ty : goal.invariant-loop-ty
invariant-loop-ty l =
    (l.self.end ≡ l.fn.self.end)
    × (l.ty.depth ≤ l.room)
    × Refs l.ty.depth l.from l.ty.last (seen l.fn.self.rest) (seen l.self.rest)
    × (length (seen l.self.rest) ≤ length (seen l.fn.self.rest))
    × ((S : Goals) → levels S ≤ most_levels → fate l.fn.self.end (refs l.room ∷ S) (seen l.fn.self.rest) ≡ fate l.fn.self.end (refs (l.room - l.ty.depth) ∷ S) (seen l.self.rest))

abbrev pub decreases-loop-ty : goal.decreases-loop-ty
decreases-loop-ty l = l.room - l.ty.depth
