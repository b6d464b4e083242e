use Rattle.std.proofs.Common.{List, Result}
use Rattle.std.specs.Iterator.Adapters.{zip_first, zip_second}
use Rattle.std.specs.Slice.Iter.{iter_rest}
use Rattle.refusals.specs.declared.refusal.Refusal.{Refusal}
use Rattle.rules.specs.Calls.{Operand as Argument, fit}
use Rattle.rules.specs.Making.{Levels as TypeLevels}
use Rattle.making.specs.Holding.{SameTypes, SameOperands, Itself, Grown, Holds, Follows}
use Rattle.making.specs.declared.output.Output.{Output}
use Rattle.making.proofs.calling.all_fit.Given as goal

-- the arguments and parameters that are left stand for some of the rules, and whatever goes by those goes by all
abbrev pub invariant-loop-operand : goal.invariant-loop-operand
invariant-loop-operand l =
    (base o : Output) (args : List Argument) (ps : List TypeLevels) → SameOperands l.operands args → SameTypes l.parameters ps
    → (left : List Argument) × (more : List TypeLevels) × SameOperands (iter_rest (zip_first l.operand-iterator)) left × SameTypes (iter_rest (zip_second l.operand-iterator)) more
    × ((r : Result (Unit {0}) Refusal) → Follows (Holds base) (Grown base) Itself o o r (fit left more) → Follows (Holds base) (Grown base) Itself o o r (fit args ps))
