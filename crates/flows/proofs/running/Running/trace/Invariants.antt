use Rattle.std.proofs.Common.{◌≡◌, ℕ, ◌+◌, List, length, vec_items}
use Rattle.flows.specs.Bounds.{Unbroken}
use Rattle.flows.specs.Explaining.{written}
use Rattle.flows.specs.Flows.{held}
use Rattle.flows.specs.Pending.{pending}
use Rattle.flows.specs.Running.{Continues}
use Rattle.flows.specs.Runs.{Run}
use Rattle.flows.proofs.Budget.{budget}
use Rattle.flows.proofs.running.Running.trace.Given as goal

abbrev pub invariant-loop-number : goal.invariant-loop-number
invariant-loop-number g l = record {
  continues : Continues g.K.Kind l.initial.self l.self;
  evaluations : ℕ;
  risen : List ℕ;
  run : Run g.K.Kind (vec_items l.initial.self.network.now.flows) l.initial.self.values.now (pending l.initial.self.queue.now) l.self.values.now (pending l.self.queue.now) evaluations risen;
  unbroken : Unbroken g.K.Kind (vec_items l.initial.self.network.now.bounds) (held g.K.Kind l.self.values.now);
  counted : l.rises ≡ length risen;
  listed : l.list ≡ written risen l.initial.list;
}

abbrev pub decreases-loop-number : goal.decreases-loop-number
decreases-loop-number g l = length (pending l.self.queue.now) + budget g.K.Kind (vec_items l.fn.self.network.now.flows) (held g.K.Kind l.self.values.now)
