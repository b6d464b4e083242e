-- What the code's queue holds. Assumes nothing.
use Rattle.std.specs.Prelude.{ℕ, List}
use Rattle.flows.specs.declared.queue.Queue.{Queue}

-- the flows that wait, oldest first
abbrev pub pending : Queue → List ℕ
pending q = q.order.items
