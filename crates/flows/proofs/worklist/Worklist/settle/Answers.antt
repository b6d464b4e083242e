use Rattle.std.proofs.Common.{◌≡◌, ◌-◌, length, vec_items, sym, ap, ◌∙◌, subst, List, rules}
use Rattle.flows.specs.Pending.{pending}
use Rattle.flows.specs.Queues.{waits, numbered}
use Rattle.flows.specs.Runs.{Ends}
use Rattle.flows.specs.Settling.{Settles}
use Rattle.flows.proofs.Built.{targets, flows_long}
use Rattle.flows.proofs.Once.{ends_once}
use Rattle.flows.proofs.Settled.{goes_on, history_least, history_cost}
use Rattle.flows.proofs.Solved.{start_fits, solved}
use Rattle.flows.proofs.worklist.Worklist.settle.Given as given
use Rattle.flows.proofs.worklist.Worklist.settle.Goals as goal
use Rattle.flows.proofs.worklist.Worklist.settle.Goals.{After-fill, After-finish}

queued : (g : given.Over) (c : After-fill g) → pending c.fill.new.self ≡ numbered c.args.from (length (vec_items c.args.network.now.flows) - c.args.from)
queued g c = c.fill.ensures ∙ ap (λ k. numbered c.args.from (k - c.args.from)) (sym (flows_long c.args.network.now))

pub invariant_of-run : goal.invariant_of-run
invariant_of-run g c =
    let n = c.args.network.now in
    record {
      room = c.requires;
      known = λ i w. (start_fits g.K.Kind (vec_items n.flows) c.args.from c.args.values.now (targets n _ c.requires)).known i (sym (ap (waits i) (queued g (goal.at.invariant_of-run g c).After-fill)) ∙ w);
    }

settles : (g : given.Over) (c : After-finish g) (after : List g.row.K.Denot)
    → pending c.fill.new.self ≡ numbered c.args.from (length (vec_items c.args.network.now.flows) - c.args.from)
    → c.finish.new.self.values.now ≡ after → Settles g.K.Kind (vec_items c.args.network.now.flows) c.args.from c.args.values.now c.finish.result after
settles g c after queue same =
    let kind = g.K.Kind in
    let laws = g.met.K.Kind.lawful in
    let n = c.args.network.now in
    let flows = vec_items n.flows in
    let from = c.args.from in
    let start = c.args.values.now in
    let within = targets n _ c.requires in
    let ends = subst (Ends kind flows start (numbered from (length flows - from)) c.finish.result) same
    (subst (λ q. Ends kind flows start q c.finish.result c.finish.new.self.values.now) queue c.finish.ensures.ends) in
    record {
      run = ends;
      only = λ m other ends'. ends_once kind flows start _ m _ other _ ends' ends;
      least = solved kind laws flows from start within _ _ ends;
      history = goes_on kind flows from start _ _ within ends;
      settled = λ m history. history_least kind laws _ flows _ _ (goes_on kind flows from start _ _ within ends m history);
      cost = λ m history. history_cost kind laws _ flows _ _ (goes_on kind flows from start _ _ within ends m history);
    }

pub returns : goal.returns
returns g c = let here = goal.at.returns g c in settles g here.After-finish _ (queued g here.After-fill) (search rules)
