use Rattle.std.proofs.Common.{sym, ap, ◌∙◌, vec_items, arith}
use Rattle.flows.specs.Pending.{pending}
use Rattle.flows.specs.Queues.{waits}
use Rattle.flows.proofs.Queues.{wakened_known}
use Rattle.flows.proofs.running.Running.evaluate.Goals as goal

pub invariant_of-self : goal.invariant_of-self
invariant_of-self g c =
    let r = c.args.self.now in
    record {
      room = omega (arith, r.room, c.raise-rose.auto.values);
      known = λ i w. wakened_known (vec_items r.network.now.flows) c.flow-flow.result.target (pending r.queue.now) r.known i (sym (ap (waits i) c.wake.ensures) ∙ w);
    }
