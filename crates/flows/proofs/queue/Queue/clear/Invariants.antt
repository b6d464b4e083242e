use Rattle.std.proofs.Common.{◌≡◌, vec_items, vec_len}
use Rattle.flows.specs.Limits.{most_flows}
use Rattle.flows.specs.Queues.{Marks}
use Rattle.flows.proofs.queue.Queue.clear.Given as goal

-- the flags that are set are those of the flows still to come
abbrev pub invariant-loop-number : goal.invariant-loop-number
invariant-loop-number l =
    Marks l.number-iterator (vec_items l.self.1.1.0) × (vec_len l.self.1.1.0 ≡ most_flows)
