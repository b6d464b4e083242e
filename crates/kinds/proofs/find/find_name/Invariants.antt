use Rattle.kinds.specs.Find.{NoneBelow}
use Rattle.kinds.proofs.find.find_name.Given as goal

abbrev pub invariant-loop-number : goal.invariant-loop-number
invariant-loop-number g l = NoneBelow g.K.Kind.spelling l.sought l.number
