use Rattle.std.proofs.Common.{[], vec_items, sym, ap, subst}
use Rattle.flows.specs.Limits.{most_flows}
use Rattle.flows.specs.Queues.{Marks}
use Rattle.flows.proofs.Flags.{no_flags}
use Rattle.flows.proofs.queue.Queue.new.Goals as goal

pub invariant_of-result-clause-marks : goal.invariant_of-result-clause-marks
invariant_of-result-clause-marks c =
    subst (λ q. Marks q (vec_items c.in_ok-vec.field-0)) (sym (ap (λ b. b.items) c.in_ok-with_capacity.ensures))
    (subst (Marks []) (sym (c.in_ok-vec.ensures.items_if_clones_equal (λ y e. e))) (no_flags most_flows))
