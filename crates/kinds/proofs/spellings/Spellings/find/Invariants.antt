use Rattle.kinds.specs.Find.{NoneBelow}
use Rattle.kinds.specs.Tables.{spelled}
use Rattle.kinds.proofs.spellings.Spellings.find.Given as goal

abbrev pub invariant-loop-number : goal.invariant-loop-number
invariant-loop-number l = NoneBelow (spelled l.self) l.sought l.number
