use Rattle.std.proofs.Common.{arith}
use Rattle.flows.proofs.Queues.{numbered_turn}
use Rattle.flows.proofs.queue.Queue.fill.Goals as goal

pub loop-number-preserved : goal.loop-number-preserved
loop-number-preserved c = (
  numbered_turn c.args.from c.loop-number.number _ _ c.loop-number.auto.number c.loop-number.invariant.0 c.push.ensures,
  omega arith,
)
