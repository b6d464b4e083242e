use Rattle.std.proofs.Common.{◌-◌, ◌++◌, None, set, take, drop, vec_items, length, ap, ◌∙◌, arith}
use Rattle.flows.specs.Reading.{filled}
use Rattle.flows.specs.Slots.{led, begun}
use Rattle.flows.proofs.Walks.{Becomes, kept_items, before_bound, unlink_one}
use Rattle.flows.proofs.readers.Readers.unlink.Goals as goal
use Rattle.flows.proofs.readers.Readers.unlink.Goals.{After-index_mut}

pub lead-requires-clause-before : goal.lead-requires-clause-before
lead-requires-clause-before c =
    before_bound c.args.self.now c.pop.new.self.items c.in-Some.field-0 c.in-Some.ensures.items _ (omega (arith, ap length c.deref_mut.ensures.value))

after : (c : After-index_mut)
    → Becomes (take (length (filled c.args.self.now) - 1) (filled c.args.self.now))
    (take c.pop.new.self.len (c.lead.new.slots ++ drop (length c.lead.new.slots) (vec_items c.pop.new.self)))
    (set (take c.args.self.now.ends.len (c.lead.new.ends ++ drop (length c.lead.new.ends) (vec_items c.args.self.now.ends))) c.in-Some.field-0.list
    (record { first = c.index_mut.result.now.first; last = c.in-Some.field-0.previous }))
after c =
    let r = c.args.self.now in
    let front = c.pop.new.self in
    let s = c.in-Some.field-0 in
    let slots = c.deref_mut.ensures.value in
    let ends = c.deref_mut-in-Some.ensures.value in
    unlink_one r front.items s c.in-Some.ensures.items _ _ c.index_mut.result.now
    (kept_items front.len c.lead.new.slots (vec_items front) front.ok.0 (c.lead.auto.slots ∙ ap length slots) ∙ c.lead.ensures.slots ∙ ap (λ ss. led ss s.previous None) slots)
    (kept_items r.ends.len c.lead.new.ends (vec_items r.ends) r.ends.ok.0 (c.lead.auto.ends ∙ ap length ends) ∙ c.lead.ensures.ends ∙ ap (λ es. begun es s.list s.previous None) ends)
    c.index_mut.ensures.value

pub invariant_of-self-clause-table : goal.invariant_of-self-clause-table
invariant_of-self-clause-table c = (after (goal.at.invariant_of-self-clause-table c).After-index_mut).kept

pub returns-in-Some : goal.returns-in-Some
returns-in-Some c = (after (goal.at.returns-in-Some c).After-index_mut).lists
