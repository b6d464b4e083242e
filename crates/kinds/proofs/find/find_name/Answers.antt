use Rattle.std.proofs.Common.{rules}
use Rattle.kinds.specs.Find.{NoneBelow, LowestNumber}
use Rattle.kinds.proofs.Finds.{found, not_found}
use Rattle.kinds.proofs.find.find_name.Goals as goal

pub returns-then-same_spelling : goal.returns-then-same_spelling
returns-then-same_spelling g c =
    let low : LowestNumber g.K.Kind c.args.sought.now c.loop-number.number = search rules in
    record { number = found g.K.Kind _ _ low; lowest = low }

pub returns : goal.returns
returns g c =
    let none : NoneBelow g.K.Kind.spelling c.args.sought.now g.K.Kind.names = search rules in
    record { number = not_found g.K.Kind _ none; lowest = none }
