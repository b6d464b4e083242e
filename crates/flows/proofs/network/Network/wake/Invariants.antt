use Rattle.std.proofs.Common.{◌≡◌, ℕ, ◌≤◌, length, fold}
use Rattle.flows.specs.Links.{next_from, listing}
use Rattle.flows.specs.Pending.{pending}
use Rattle.flows.specs.Queues.{joined}
use Rattle.flows.specs.Reading.{filled}
use Rattle.flows.proofs.Links.{left}
use Rattle.flows.proofs.network.Network.wake.Given as goal

abbrev pub invariant-loop-next : goal.invariant-loop-next
invariant-loop-next l = record {
  from : ℕ;
  low : from ≤ length (filled l.self.readers);
  at : l.next ≡ next_from (filled l.self.readers) l.variable from (length (filled l.self.readers));
  queued : pending l.queue ≡ fold joined (pending l.initial.queue) (listing (filled l.self.readers) l.variable from);
}

abbrev pub decreases-loop-next : goal.decreases-loop-next
decreases-loop-next l = left (length (filled l.self.readers)) l.next
