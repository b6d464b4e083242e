use Rattle.std.proofs.Common.{◌≡◌, ◌∷◌, ◌++◌, [], true, length, vec_items, sym, ap, ◌∙◌, subst, arith}
use Rattle.flows.specs.Flows.{flow, inside}
use Rattle.flows.specs.Reading.{first_list, second_list, both_lists}
use Rattle.flows.proofs.Listed.{both_more}
use Rattle.flows.proofs.Built.{closed_push, is_closed, flows_long, slots_few}
use Rattle.flows.proofs.network.Network.add_flow.Goals as goal

pub add-requires : goal.add-requires
add-requires c = let n = c.args.self.now in omega (arith, slots_few n, flows_long n, c.if-flows-ge-MOST_FLOWS.false)

pub invariant_of-self-2-clause-indexed : goal.invariant_of-self-2-clause-indexed
invariant_of-self-2-clause-indexed c =
    let n = c.args.self.now in
    let rule = c.args.flow.rule in
    c.add.ensures ∙ ap (λ xs. xs ++ first_list rule ∷ second_list rule ∷ []) n.indexed ∙ sym (both_more (vec_items n.flows) c.args.flow) ∙ sym (ap both_lists c.push_reserved.ensures.items)

pub invariant_of-self-2-clause-closed : goal.invariant_of-self-2-clause-closed
invariant_of-self-2-clause-closed c =
    let n = c.args.self.now in
    let vars = n.counts.variables in
    let items = c.push_reserved.ensures.items in
    let long = c.push_reserved.new.self.ok.0 in
    let fits : inside vars c.args.flow ≡ true = sym c.flow_inside.ensures ∙ c.if-not-flow_inside.false in
    λ i h. subst (λ fs. inside vars (flow fs i) ≡ true) (sym items) (closed_push vars (vec_items n.flows) c.args.flow (is_closed n) fits i (omega (arith, long, ap length items)))
