-- The parser's faults as refusals. Assumes nothing.
use Rattle.refusals.specs.declared.refusal.Refusal.{Refusal}
use Rattle.refusals.specs.declared.refusal.Refusal.TheVariants as cause
use Rattle.pieces.specs.declared.fault.Fault.{Fault}
use Rattle.pieces.specs.declared.fault.Fault.TheVariants.{Misplaced, TooDeep, Memory}

abbrev pub refusal_of : Fault → Refusal
refusal_of (Misplaced p) = cause.Misplaced p
refusal_of (TooDeep p) = cause.TooDeep p
refusal_of Memory = cause.Memory
