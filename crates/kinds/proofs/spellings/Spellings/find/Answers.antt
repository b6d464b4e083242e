use Rattle.kinds.proofs.Copied.{none_in}
use Rattle.kinds.proofs.spellings.Spellings.find.Goals as goal

pub returns : goal.returns
returns c =
    let words = c.deref-spelling-items in
    none_in c.args.self.now words.result.now words.ensures.0 c.args.sought.now c.loop-number.number c.loop-number-test.false c.loop-number.invariant
