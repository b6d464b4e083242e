use Rattle.std.proofs.Common.{◌≡◌, ◌-◌, ◌≤◌}
use Rattle.flows.specs.Pending.{pending}
use Rattle.flows.specs.Queues.{numbered}
use Rattle.flows.proofs.queue.Queue.fill.Given as goal

abbrev pub invariant-loop-number : goal.invariant-loop-number
invariant-loop-number l =
    (pending l.self ≡ numbered l.from (l.number - l.from)) × (l.number - l.from ≤ l.to - l.from)
