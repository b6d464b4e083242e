use Rattle.std.proofs.Common.{◌≡◌, ◌<◌, ◌-◌, ◌∷◌, ◌++◌, [], false, vec_items, sym, ap, ◌∙◌, subst, rules, arith, length, drop, set, true}
use Rattle.std.proofs.lemmas.List.{length_push}
use Rattle.flows.specs.Pending.{pending}
use Rattle.flows.specs.Queues.{waits, Marks}
use Rattle.flows.proofs.Flags.{push_room, push_flags}
use Rattle.flows.proofs.queue.Queue.push.Goals as goal

pub invariant_of-self-clause-marks : goal.invariant_of-self-clause-marks
invariant_of-self-clause-marks c =
    let q = c.args.self.now in
    let n = c.args.number in
    let long = q.waiting.ok.0 in
    let known : n < length (vec_items q.waiting) = omega (arith, c.requires, q.flagged) in
    let none : waits n (pending q) ≡ false = search rules in
    let room = push_room q.marks n known none in
    let over : length (pending q ++ n ∷ []) - q.order.capacity ≡ 0 = omega (arith, room, long, q.flagged, q.placed, length_push (pending q) n) in
    let items : c.push_back.new.self.items ≡ pending q ++ n ∷ [] = ap (λ b. b.items) c.push_back.ensures.items ∙ ap (λ k. drop k (pending q ++ n ∷ [])) over in
    subst (λ xs. Marks xs (set (vec_items q.waiting) n true)) (sym items) (push_flags q.marks n known none)
