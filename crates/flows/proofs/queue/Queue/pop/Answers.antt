use Rattle.std.proofs.Common.{◌≡◌, ◌∷◌, vec_items, subst, rules, arith}
use Rattle.flows.specs.Pending.{pending}
use Rattle.flows.specs.Queues.{Marks}
use Rattle.flows.proofs.Flags.{pop_known, pop_flags}
use Rattle.flows.proofs.queue.Queue.pop.Goals as goal
use Rattle.flows.proofs.queue.Queue.pop.Goals.{In_ok-number}

left : (c : In_ok-number) → Marks (c.in_ok-number.number ∷ c.pop_front.new.self.items) (vec_items c.args.self.now.waiting)
left c =
    let items : pending c.args.self.now ≡ c.in_ok-number.number ∷ c.pop_front.new.self.items = search rules in
    subst (λ xs. Marks xs (vec_items c.args.self.now.waiting)) items c.args.self.now.marks

pub index_mut-requires : goal.index_mut-requires
index_mut-requires c =
    let long = c.args.self.now.waiting.ok.0 in
    omega (arith, pop_known (left (goal.at.index_mut-requires c).In_ok-number))

pub invariant_of-self-2-clause-marks : goal.invariant_of-self-2-clause-marks
invariant_of-self-2-clause-marks c = pop_flags (left (goal.at.invariant_of-self-2-clause-marks c).In_ok-number)
