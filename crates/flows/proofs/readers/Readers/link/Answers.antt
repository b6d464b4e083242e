use Rattle.std.proofs.Common.{◌≡◌, ◌∷◌, ◌++◌, [], Some, None, ◌<◌, ◌≤◌, IfSome, set, take, drop, vec_items, length, sym, ap, ◌∙◌, subst, arith}
use Rattle.flows.specs.declared.slot.Ends.{Ends}
use Rattle.flows.specs.Reading.{filled}
use Rattle.flows.specs.Slots.{led, begun}
use Rattle.flows.proofs.Walks.{Becomes, kept_items, last_bound, slots_long, ends_read, link_one}
use Rattle.flows.proofs.readers.Readers.link.Goals as goal
use Rattle.flows.proofs.readers.Readers.link.Goals.{After-push_reserved}

pub lead-requires-clause-before : goal.lead-requires-clause-before
lead-requires-clause-before c =
    let r = c.args.self.now in
    let few : length (filled r) ≤ length c.deref_mut.result.now = omega (arith, slots_long r, ap length c.deref_mut.ensures.value) in
    subst (λ (e : Ends). IfSome e.last (λ b. b < length c.deref_mut.result.now)) (sym (ends_read r c.args.list _ c.requires.known c.index.ensures))
    (last_bound (filled r) c.args.list _ few)

after : (c : After-push_reserved)
    → Becomes (filled c.args.self.now ++ c.args.list ∷ []) c.push_reserved.new.self.items
    (set (take c.args.self.now.ends.len (c.lead.new.ends ++ drop (length c.lead.new.ends) (vec_items c.args.self.now.ends))) c.args.list
    (record { first = c.index_mut.result.now.first; last = Some c.len-slot.result }))
after c =
    let r = c.args.self.now in
    let long = r.slots.ok.0 in
    let slots = c.deref_mut.ensures.value in
    let ends = c.deref_mut-2.ensures.value in
    let e = c.index.result.now in
    let t = c.len-slot.result in
    let count : t ≡ length (filled r) = omega (arith, c.len-slot.ensures, slots_long r) in
    link_one r c.args.list t c.requires.known count e (ends_read r c.args.list e c.requires.known c.index.ensures) c.push_reserved.new.self.items _ c.index_mut.result.now
    (c.push_reserved.ensures.items
    ∙ ap (λ ss. ss ++ record { list = c.args.list; previous = e.last; next = None } ∷ [])
    (kept_items r.slots.len c.lead.new.slots (vec_items r.slots) long (c.lead.auto.slots ∙ ap length slots) ∙ c.lead.ensures.slots ∙ ap (λ ss. led ss e.last (Some t)) slots))
    (kept_items r.ends.len c.lead.new.ends (vec_items r.ends) r.ends.ok.0 (c.lead.auto.ends ∙ ap length ends) ∙ c.lead.ensures.ends ∙ ap (λ es. begun es c.args.list e.last (Some t)) ends)
    c.index_mut.ensures.value

pub invariant_of-self-clause-table : goal.invariant_of-self-clause-table
invariant_of-self-clause-table c = (after (goal.at.invariant_of-self-clause-table c).After-push_reserved).kept

pub returns : goal.returns
returns c = (after (goal.at.returns c).After-push_reserved).lists
