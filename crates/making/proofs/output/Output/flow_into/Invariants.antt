use Rattle.std.proofs.Common.{Ok}
use Rattle.making.specs.declared.output.Output.{Output}
use Rattle.making.specs.Holding.{SameLevels, Itself, Grown, Holds, Follows}
use Rattle.rules.specs.Making.{Levels as TypeLevels, makes, both_ways}
use Rattle.making.proofs.output.Output.flow_into.Given as goal

-- the levels up to i are done
abbrev pub invariant-loop-i : goal.invariant-loop-i
invariant-loop-i l =
    (base : Output) (x y : TypeLevels) → SameLevels l.s x → SameLevels l.t y
    → Follows (Holds base) (Grown base) Itself l.initial.self l.self (Ok tt) (makes (both_ways x.first y.first l.i))
