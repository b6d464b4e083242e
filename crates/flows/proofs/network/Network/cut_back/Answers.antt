use Rattle.std.proofs.Common.{◌≡◌, ◌*◌, ◌<◌, true, length, take, vec_items, sym, ap, ◌∙◌, subst, arith}
use Rattle.flows.specs.Bounds.{bound}
use Rattle.flows.specs.Flows.{flow, inside}
use Rattle.flows.specs.Reading.{both_lists}
use Rattle.flows.proofs.Listed.{both_cut}
use Rattle.flows.proofs.network.Network.cut_back.Goals as goal

pub invariant_of-self-clause-closed : goal.invariant_of-self-clause-closed
invariant_of-self-clause-closed c =
    let to = c.args.to in
    let items = c.truncate.ensures.items in
    let long = c.truncate.new.self.ok.0 in
    λ i h. subst (λ fs. inside to.variables (flow fs i) ≡ true) (sym items) ((c.can_cut.ensures.0 c.if-not-can_cut.false).closed i (omega (arith, long, ap length items)))

pub invariant_of-self-clause-bounded : goal.invariant_of-self-clause-bounded
invariant_of-self-clause-bounded c =
    let to = c.args.to in
    let items = c.truncate-2.ensures.items in
    let long = c.truncate-2.new.self.ok.0 in
    λ i h. subst (λ bs. (bound bs i).variable < to.variables) (sym items) ((c.can_cut.ensures.0 c.if-not-can_cut.false).bounded i (omega (arith, long, ap length items)))

pub invariant_of-self-clause-indexed : goal.invariant_of-self-clause-indexed
invariant_of-self-clause-indexed c =
    let n = c.args.self.now in
    let flows = c.args.to.flows in
    c.cut_to.ensures ∙ ap (take (2 * flows)) n.indexed ∙ both_cut (vec_items n.flows) flows ∙ sym (ap both_lists c.truncate.ensures.items)
