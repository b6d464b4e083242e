-- What a history leaves, and what it takes. Assumes nothing.
use Rattle.std.proofs.Common.{◌≡◌, ℕ, ◌+◌, ◌-◌, ◌*◌, ◌≤◌, List, ◌++◌, length, take, drop, sym, refl, ap, ◌∙◌, subst, ⊎_elim, add-mul, mul-one, mul-add, arith, length-append, length-drop, take-append-drop}
use lib.ListN.{length-replicate}
use Rattle.std.proofs.lemmas.List.{take_at, length-take-le}
use Rattle.std.proofs.lemmas.Bool.{cases_lt}
use Rattle.kinds.specs.declared.kind.Kind.{Ghosts as Kind}
use Rattle.kinds.specs.Lawful.{Lawful}
use Rattle.flows.specs.declared.flow.Flow.{Flow}
use Rattle.flows.specs.Flows.{held, Within, Least}
use Rattle.flows.specs.Queues.{numbered}
use Rattle.flows.specs.Runs.{Ends}
use Rattle.flows.specs.Histories.{History, none, settles, allowed}
use Rattle.flows.proofs.Applied.{run_length}
use Rattle.flows.proofs.Budget.{budget}
use Rattle.flows.proofs.Cost.{budget_more}
use Rattle.flows.proofs.Solved.{bottoms_least, solved, paid}

module _ {K : Type 0} (kind : Kind K) (laws : Lawful kind) (size : ℕ) where
  record SoFar (flows : List Flow) (values : List K) (n : ℕ) : Type 0 where
    long : length values ≡ size
    least : Least kind flows (held kind values)
    cost : n + budget kind flows (held kind values) ≤ allowed kind flows

  -- what the run over new flows leaves
  module _ (flows new : List Flow) (values : List K) (n : ℕ) (before : SoFar flows values n) (m : ℕ) (after : List K)
      (within : Within (flows ++ new) size) (ends : Ends kind (flows ++ new) values (numbered (length flows) (length new)) m after) where
    inside : Within (flows ++ new) (length values)
    inside = subst (Within (flows ++ new)) (sym before.long) within

    run : Ends kind (flows ++ new) values (numbered (length flows) (length (flows ++ new) - length flows)) m after
    run =
        let many = length-append flows new in
        let count : length new ≡ length (flows ++ new) - length flows = omega arith in
        subst (λ k. Ends kind (flows ++ new) values (numbered (length flows) k) m after) count ends

    added_least : Least kind (flows ++ new) (held kind after)
    added_least =
        solved kind laws (flows ++ new) (length flows) values inside m after run
        (subst (λ fs. Least kind fs (held kind values)) (sym (take_at flows new (length flows) refl)) before.least)

    added_cost : n + m + budget kind (flows ++ new) (held kind after) ≤ allowed kind (flows ++ new)
    added_cost =
        let h = kind.height in
        omega (
          arith,
          before.cost,
          budget_more kind flows new (held kind values),
          paid kind laws (flows ++ new) (length flows) values inside m after run,
          length-append flows new,
          ap (λ k. k * (1 + 2 * h)) (length-append flows new),
          add-mul (length flows) (length new) (1 + 2 * h),
          mul-add (length new) 1 (2 * h),
          mul-one (length new),
        )

    added : SoFar (flows ++ new) after (n + m)
    added = record { long = run_length kind (flows ++ new) values _ ends.1 ∙ before.long; least = added_least; cost = added_cost }

  so_far : {flows : List Flow} {values : List K} {n : ℕ} → History kind size flows values n → SoFar flows values n
  so_far none = record { long = length-replicate size kind.bottom; least = bottoms_least kind laws size; cost = omega arith }
  so_far (settles {flows} {values} {n} {m} {after} history new within ends) = added flows new values n (so_far history) m after within ends

  pub history_least : (flows : List Flow) (values : List K) (n : ℕ) → History kind size flows values n → Least kind flows (held kind values)
  history_least flows values n history = (so_far history).least

  pub history_cost : (flows : List Flow) (values : List K) (n : ℕ) → History kind size flows values n → n ≤ allowed kind flows
  history_cost flows values n history = omega (arith, (so_far history).cost)

-- the flows from a number on are queued; past the last there are none
queue_same : (flows : List Flow) (from : ℕ) → numbered (length (take from flows)) (length (drop from flows)) ≡ numbered from (length flows - from)
queue_same flows from =
    ⊎_elim
    (λ some. let old : length (take from flows) ≡ from = length-take-le from flows (omega arith) in (λ i. numbered (old i) (length-drop from flows i)))
    (λ past.
    let no_more : length flows - from ≡ 0 = omega arith in
    ap (numbered (length (take from flows))) (length-drop from flows ∙ no_more) ∙ sym (ap (numbered from) no_more))
    (cases_lt from (length flows))

-- a run over the flows from a number on continues a history
pub goes_on : {K : Type 0} (kind : Kind K) (flows : List Flow) (from : ℕ) (start after : List K) (m : ℕ) → Within flows (length start) → Ends kind flows start (numbered from (length flows - from)) m after
    → (n : ℕ) → History kind (length start) (take from flows) start n → History kind (length start) flows after (n + m)
goes_on kind flows from start after m within ends n history =
    let both = take-append-drop from flows in
    let queued = subst (λ q. Ends kind flows start q m after) (sym (queue_same flows from)) ends in
    let run = subst (λ fs. Ends kind fs start (numbered (length (take from flows)) (length (drop from flows))) m after) (sym both) queued in
    let inside = subst (λ fs. Within fs (length start)) (sym both) within in
    subst (λ fs. History kind (length start) fs after (n + m)) both (settles history (drop from flows) inside run)
