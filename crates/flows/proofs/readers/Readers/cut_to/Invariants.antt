use Rattle.std.proofs.Common.{◌≡◌, length, take}
use Rattle.flows.specs.Reading.{filled}
use Rattle.flows.proofs.readers.Readers.cut_to.Given as goal

abbrev pub invariant-loop-self : goal.invariant-loop-self
invariant-loop-self l = take l.kept (filled l.self) ≡ take l.kept (filled l.initial.self)

abbrev pub decreases-loop-self : goal.decreases-loop-self
decreases-loop-self l = length (filled l.self)
