use Rattle.std.proofs.Common.{◌≡◌, ◌-◌, [], length, vec_items, sym, refl, ap, ◌∙◌, subst, List, rules, arith}
use Rattle.flows.specs.Bounds.{Lowest}
use Rattle.flows.specs.Explaining.{Breaks, at_start, bottoms, Traced, Explained}
use Rattle.flows.specs.Flows.{held}
use Rattle.flows.specs.Pending.{pending}
use Rattle.flows.specs.Queues.{waits, numbered}
use Rattle.flows.proofs.Built.{targets, flows_long}
use Rattle.flows.proofs.Explained.{explained, from_bottom}
use Rattle.flows.proofs.worklist.Worklist.explain.Given as given
use Rattle.flows.proofs.worklist.Worklist.explain.Goals as goal
use Rattle.flows.proofs.worklist.Worklist.explain.Goals.{After-fill, After-trace-explanation}

queued : (g : given.Over) (c : After-fill g) → pending c.fill.new.self ≡ numbered 0 (length (vec_items c.args.network.now.flows))
queued g c =
    let n = c.args.network.now in
    let all : n.counts.flows - 0 ≡ length (vec_items n.flows) = omega (arith, flows_long n) in
    c.fill.ensures ∙ ap (numbered 0) all

pub returns-in-Some : goal.returns-in-Some
returns-in-Some g c =
    let kind = g.K.Kind in
    let n = c.args.network.now in
    let flows = vec_items n.flows in
    let bounds = vec_items n.bounds in
    let size = length c.args.values.now in
    let b = c.in-Some.bound in
    let lowest = subst (λ vs. Lowest kind bounds (held kind vs) b) c.reset.ensures c.in-Some.ensures.lowest in
    explained kind g.met.K.Kind.lawful flows bounds size _ _ _ _ _ (targets n _ c.requires)
    (record {
      risen = [];
      run = subst (Breaks kind flows bounds (bottoms kind size) (numbered 0 (length flows)) b []) (sym c.reset.ensures) (at_start lowest);
      counted = refl;
      listed = refl;
    })

pub invariant_of-run : goal.invariant_of-run
invariant_of-run g c =
    let n = c.args.network.now in
    record {
      room = omega (arith, c.requires, ap length c.reset.ensures);
      known = λ i w. (from_bottom g.K.Kind (vec_items n.flows) _ (targets n _ c.requires)).known i (sym (ap (waits i) (queued g (goal.at.invariant_of-run g c).After-fill)) ∙ w);
    }

told : (g : given.Over) (c : After-trace-explanation g) (after : List g.row.K.Denot)
    → pending c.fill.new.self ≡ numbered 0 (length (vec_items c.args.network.now.flows))
    → c.trace-explanation.new.self.values.now ≡ after
    → Explained g.K.Kind (vec_items c.args.network.now.flows) (vec_items c.args.network.now.bounds) (length c.args.values.now) c.trace-explanation.result.bound c.trace-explanation.result.rises c.args.list.now c.trace-explanation.new.list after
told g c after queue same =
    let kind = g.K.Kind in
    let n = c.args.network.now in
    let flows = vec_items n.flows in
    let bounds = vec_items n.bounds in
    let e = c.trace-explanation.result in
    let list = c.args.list.now in
    let list' = c.trace-explanation.new.list in
    let start = bottoms kind (length c.args.values.now) in
    explained kind g.met.K.Kind.lawful flows bounds _ _ _ _ _ _ (targets n _ c.requires)
    (subst (Traced kind flows bounds start (numbered 0 (length flows)) e.bound e.rises list list') same
    (subst (λ q. Traced kind flows bounds start q e.bound e.rises list list' c.trace-explanation.new.self.values.now) queue
    (subst (λ vs. Traced kind flows bounds vs (pending c.fill.new.self) e.bound e.rises list list' c.trace-explanation.new.self.values.now) c.reset.ensures c.trace-explanation.ensures.traced)))

pub returns : goal.returns
returns g c = let here = goal.at.returns g c in told g here.After-trace-explanation _ (queued g here.After-fill) (search rules)
