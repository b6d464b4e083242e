use Rattle.std.proofs.Common.{List, drop, Result}
use Rattle.refusals.specs.declared.refusal.Refusal.{Refusal}
use Rattle.rules.specs.Calls.{Operand as Argument, ints}
use Rattle.making.specs.Holding.{SameOperands, Itself, Grown, Holds, Follows}
use Rattle.making.specs.declared.output.Output.{Output}
use Rattle.making.proofs.calling.all_ints.Given as goal

-- whatever goes by the rest goes by the whole
abbrev pub invariant-loop-operand : goal.invariant-loop-operand
invariant-loop-operand l =
    (base o : Output) (args : List Argument) (r : Result (Unit {0}) Refusal) → SameOperands l.operands args
    → Follows (Holds base) (Grown base) Itself o o r (ints (drop l.operand-index args)) → Follows (Holds base) (Grown base) Itself o o r (ints args)
