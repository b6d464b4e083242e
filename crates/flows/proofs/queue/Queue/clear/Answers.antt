use Rattle.std.proofs.Common.{◌≡◌, ℕ, [], ◌∷◌, vec_items, sym, ap, ◌∙◌, subst, arith, Global}
use Rattle.circular_buffer.specs.declared.heap.HeapCircularBuffer.{HeapCircularBuffer}
use Rattle.flows.specs.Queues.{Marks}
use Rattle.flows.proofs.Flags.{pop_known, pop_flags}
use Rattle.flows.proofs.queue.Queue.clear.Goals as goal
use Rattle.flows.proofs.queue.Queue.clear.Goals.{In-Some}

pub loop-number-init : goal.loop-number-init
loop-number-init c =
    let q = c.args.self.now in
    (subst (λ xs. Marks xs (vec_items q.waiting)) (sym c.into_iter-number-iterator.ensures.into_iter_gives.0) q.marks, q.flagged)

-- the flow that is let go comes first
first : (c : In-Some) → Marks (c.in-Some.number.now ∷ c.next.new.self) (vec_items c.loop-number.self.1.1.0)
first c = subst (λ xs. Marks xs (vec_items c.loop-number.self.1.1.0)) c.in-Some.ensures.steps c.loop-number.invariant.0

pub index_mut-requires : goal.index_mut-requires
index_mut-requires c = omega (arith, pop_known (first (goal.at.index_mut-requires c).In-Some), c.loop-number.self.1.1.0.ok.0)

pub loop-number-preserved : goal.loop-number-preserved
loop-number-preserved c = (pop_flags (first (goal.at.loop-number-preserved c).In-Some), c.loop-number.invariant.1)

pub invariant_of-self-clause-marks : goal.invariant_of-self-clause-marks
invariant_of-self-clause-marks c =
    subst (λ xs. Marks xs (vec_items c.loop-number.self.1.1.0)) (c.in-None.ensures.steps.0 ∙ sym (ap (λ (b : HeapCircularBuffer ℕ Global). b.items) c.clear.ensures)) c.loop-number.invariant.0
