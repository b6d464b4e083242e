use Rattle.std.proofs.Common.{◌+◌, ◌/◌, ◌<◌, length, get_or, vec_items, fold, Some, sym, ap, ◌∙◌, subst, arith}
use Rattle.std.proofs.lemmas.List.Sums.{fold_push}
use Rattle.flows.specs.Limits.{most_flows}
use Rattle.flows.specs.Links.{next_from, listing}
use Rattle.flows.specs.Pending.{pending}
use Rattle.flows.specs.Queues.{joined}
use Rattle.flows.specs.Reading.{filled}
use Rattle.flows.proofs.Built.{few, slots_few}
use Rattle.flows.proofs.Links.{IsNext, is_next, walk_on, walk_ends, left, left_falls}
use Rattle.flows.proofs.Listed.{woken_all}
use Rattle.flows.proofs.network.Network.wake.Goals as goal
use Rattle.flows.proofs.network.Network.wake.Goals.{In-Some}

-- the slot to which the walk has come
here : (c : In-Some) → IsNext (filled c.args.self.now.readers) c.args.variable c.loop-next.invariant.from (length (filled c.args.self.now.readers)) (Some c.in-Some.slot)
here c =
    let ls = filled c.args.self.now.readers in
    let now = c.loop-next.invariant in
    subst (IsNext ls c.args.variable now.from (length ls)) (sym now.at ∙ c.in-Some.is) (is_next ls c.args.variable now.from (length ls))

pub loop-next-preserved : goal.loop-next-preserved
loop-next-preserved c =
    let ls = filled c.args.self.now.readers in
    let v = c.args.variable in
    let now = c.loop-next.invariant in
    let s = c.in-Some.slot in
    let q = pending c.args.queue.now in
    let is = here (goal.at.loop-next-preserved c).In-Some in
    record {
      from = s + 1;
      low = omega (arith, is.1);
      at = c.after-next.ensures ∙ ap (λ w. next_from ls w (s + 1) (length ls)) is.2;
      queued = c.push.ensures ∙ ap (λ xs. joined xs (s / 2)) now.queued
          ∙ sym (ap (fold joined q) (walk_on ls v now.from (length ls) s is) ∙ fold_push joined q (listing ls v now.from) (s / 2));
    }

flow_bound : (c : In-Some) → c.in-Some.slot / 2 < most_flows
flow_bound c = let n = c.args.self.now in omega (arith, (here c).1, slots_few n, few n)

pub push-requires : goal.push-requires
push-requires c = flow_bound (goal.at.push-requires c).In-Some

pub after-next-requires : goal.after-next-requires
after-next-requires c = (here (goal.at.after-next-requires c).In-Some).1

pub loop-next-smaller : goal.loop-next-smaller
loop-next-smaller c =
    let ls = filled c.args.self.now.readers in
    let n = length ls in
    let s = c.in-Some.slot in
    let w = get_or ls s 0 in
    subst (λ o. left n c.after-next.result < left n o) (sym c.in-Some.is)
    (left_falls ls w s n c.after-next.result (here (goal.at.loop-next-smaller c).In-Some).1 (subst (IsNext ls w (s + 1) n) (sym c.after-next.ensures) (is_next ls w (s + 1) n)))

pub returns : goal.returns
returns c =
    let n = c.args.self.now in
    let ls = filled n.readers in
    let v = c.args.variable in
    let now = c.loop-next.invariant in
    let q = pending c.args.queue.now in
    let end = walk_ends ls v now.from (length ls) now.low (subst (IsNext ls v now.from (length ls)) (sym now.at ∙ c.in_default.is) (is_next ls v now.from (length ls))) in
    now.queued ∙ ap (fold joined q) (sym end ∙ (λ i. listing (n.indexed i) v (length (n.indexed i)))) ∙ woken_all (vec_items n.flows) v q (omega (arith, c.requires, n.counts.few_variables))
