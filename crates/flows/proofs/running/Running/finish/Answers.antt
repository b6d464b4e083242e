use Rattle.std.proofs.Common.{[], refl, vec_items, arith, ap}
use Rattle.flows.specs.Runs.{begins}
use Rattle.flows.proofs.Built.{few}
use Rattle.flows.proofs.Flags.{few_wait}
use Rattle.flows.proofs.Queues.{rest_known}
use Rattle.flows.proofs.Loop.{holds, oldest, goes_on, across, turn_few, turn, turn_falls}
use Rattle.flows.proofs.running.Running.finish.Goals as goal

pub loop-number-init : goal.loop-number-init
loop-number-init g c = record { continues = record { network = refl; values = refl; queue = refl }; run = ([], begins) }

pub invariant_of-self : goal.invariant_of-self
invariant_of-self g c =
    let r = c.loop-number.self in
    record {
      room = r.room;
      known = rest_known _ _ _ c.pop.result c.pop.ensures r.known;
    }

pub evaluate-requires : goal.evaluate-requires
evaluate-requires g c = oldest c.loop-number.self c.in-Some.number _ c.in-Some.ensures

pub overflow_add-evaluations : goal.overflow_add-evaluations
overflow_add-evaluations g c =
    omega (arith, turn_few g.K.Kind g.met.K.Kind.lawful _ _ _ (holds c.args.self.now) g.met.K.Kind.limits.low (few c.args.self.now.network.now) (few_wait c.args.self.now.queue.now) _ _ _ _ c.loop-number.invariant.run.1)

pub loop-number-smaller : goal.loop-number-smaller
loop-number-smaller g c =
    turn_falls g.K.Kind g.met.K.Kind.lawful _ _ _ (holds c.args.self.now) _ _ _ _ _ _ _ _ _ c.loop-number.invariant.run.1 c.in-Some.ensures
    (across g.K.Kind c.evaluate.ensures.evaluates (ap (λ n. vec_items n.now.flows) c.loop-number.invariant.continues.network))

pub loop-number-preserved : goal.loop-number-preserved
loop-number-preserved g c =
    let now = c.loop-number.invariant in
    record {
      continues = goes_on now.continues refl refl refl c.evaluate.ensures.continues;
      run = (
        _,
        turn g.K.Kind g.met.K.Kind.lawful _ _ _ (holds c.args.self.now) _ _ _ _ _ _ _ _ _ now.run.1 c.in-Some.ensures
            (across g.K.Kind c.evaluate.ensures.evaluates (ap (λ n. vec_items n.now.flows) now.continues.network)),
      );
    }
