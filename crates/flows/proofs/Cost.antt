-- Each evaluation of a run is paid for by the queue or by a rise. Assumes nothing.
use Rattle.std.proofs.Common.{◌≡◌, ℕ, zero, suc, ◌+◌, ◌*◌, ◌<◌, ◌≤◌, Bool, true, false, cond, not, ◌&&◌, ◌||◌, eqb, List, [], ◌∷◌, ◌++◌, length, Some, None, Option, sym, refl, ap, subst, add-zero, add-suc, suc-mul, arith, length-append}
use Rattle.std.proofs.lemmas.List.{get_or_append_left}
use Rattle.std.proofs.lemmas.Bool.{eqb-true, eqb-false}
use Rattle.kinds.specs.declared.kind.Kind.{Ghosts as Kind}
use Rattle.kinds.specs.Lawful.{Lawful}
use Rattle.kinds.proofs.Ranks.{join_rises}
use Rattle.flows.specs.declared.flow.Rule.{Rule}
use Rattle.flows.specs.declared.flow.Rule.TheVariants.{Operator, Name}
use Rattle.flows.specs.declared.flow.Flow.{Flow}
use Rattle.flows.specs.Flows.{held, result, met, is, reads, flow}
use Rattle.flows.specs.Queues.{waits}
use Rattle.flows.specs.Runs.{woken, applied, Run, begins, passes, rises}
use Rattle.flows.proofs.Applied.{applied_target, applied_other, Fits, fits_first, fits_run}
use Rattle.flows.proofs.Budget.{total, room, wakings, budget}

total_less : (f g h : ℕ → ℕ) → ((i : ℕ) → f i + g i ≤ h i) → (n : ℕ) → total f n + total g n ≤ total h n
total_less f g h each zero = omega arith
total_less f g h each (suc n) = omega (arith, total_less f g h each n, each n)

pub total_bound : (f : ℕ → ℕ) (m : ℕ) → ((i : ℕ) → f i ≤ m) → (n k : ℕ) → total f (n + k) ≤ total f n + k * m
total_bound f m each n zero = rw add-zero (omega arith)
total_bound f m each n (suc k) = rw (add-suc, suc-mul) (omega (arith, total_bound f m each n k, each (n + k)))

pub total_same : (f g : ℕ → ℕ) (n : ℕ) → ((i : ℕ) → i < n → f i ≡ g i) → total f n ≡ total g n
total_same f g zero same = refl
total_same f g (suc n) same = omega (arith, total_same f g n (λ i h. same i (omega arith)), same n (omega arith))

woken_few : (flows : List Flow) (v : ℕ) (q : List ℕ) (n : ℕ) → length (woken flows v q n) ≤ total (λ i. cond (reads (flow flows i).rule v) 1 0) n
woken_few flows v q zero = omega arith
woken_few flows v q (suc n) =
    rw length-append (omega (arith, woken_few flows v q n, last (reads (flow flows n).rule v) (not (waits n q))))
  where
    last : (r w : Bool) → length (cond (r && w) (n ∷ []) []) ≤ cond r 1 0
    last true true = omega arith
    last true false = omega arith
    last false w = omega arith

module _ {K : Type 0} (kind : Kind K) where
  wakings_bound : (a : ℕ → K) (r : Rule) → wakings kind a r ≤ 2 * kind.height
  wakings_bound a (Operator o x y) = omega (arith, room_bound x, room_bound y)
    where
      room_bound : (o : Option ℕ) → room kind a o ≤ kind.height
      room_bound None = omega arith
      room_bound (Some v) = omega arith
  wakings_bound a (Name n) = omega arith

  -- new flows add at most twice the height each
  pub budget_more : (old new : List Flow) (a : ℕ → K) → budget kind (old ++ new) a ≤ budget kind old a + length new * (2 * kind.height)
  budget_more old new a =
      let f : ℕ → ℕ = λ i. wakings kind a (flow (old ++ new) i).rule in
      let more = total_bound f (2 * kind.height) (λ i. wakings_bound a (flow (old ++ new) i).rule) (length old) (length new) in
      let same = total_same f (λ i. wakings kind a (flow old i).rule) (length old) (λ i h. ap (λ (x : Flow). wakings kind a x.rule) (get_or_append_left old new _ i h)) in
      omega (arith, more, same, ap (total f) (length-append old new))

  pub budget_bound : (flows : List Flow) (a : ℕ → K) → budget kind flows a ≤ length flows * (2 * kind.height)
  budget_bound flows a = omega (arith, budget_more [] flows a)

module _ {K : Type 0} (kind : Kind K) (laws : Lawful kind) where
  -- a rise leaves its target less room
  pub risen_rank : (f : Flow) (vs : List K) → f.target < length vs → met kind (held kind vs) f ≡ false → kind.rank (held kind vs f.target) < kind.rank (held kind (applied kind f vs) f.target)
  risen_rank f vs inside unmet =
      let old = held kind vs f.target in
      subst (λ x. kind.rank old < kind.rank x) (sym (applied_target kind f vs inside)) (join_rises kind laws old (result kind (held kind vs) f.rule) unmet)

  module _ (f : Flow) (vs : List K) (inside : f.target < length vs) (unmet : met kind (held kind vs) f ≡ false) where
    room_falls : (o : Option ℕ) → room kind (held kind (applied kind f vs)) o + cond (is o f.target) 1 0 ≤ room kind (held kind vs) o
    room_falls None = omega arith
    room_falls (Some v) = go (eqb v f.target) refl
      where
        go : (b : Bool) → eqb v f.target ≡ b → room kind (held kind (applied kind f vs)) (Some v) + cond b 1 0 ≤ room kind (held kind vs) (Some v)
        go true e =
            let same = eqb-true v f.target e in
            subst (λ u. room kind (held kind (applied kind f vs)) (Some u) + 1 ≤ room kind (held kind vs) (Some u)) (sym same)
            (omega (arith, risen_rank f vs inside unmet, laws.ranks.within (held kind (applied kind f vs) f.target)))
        go false e = omega (arith, ap (λ x. kind.rank x) (applied_other kind f vs v (eqb-false v f.target e)))

    wakings_fall : (r : Rule) → wakings kind (held kind (applied kind f vs)) r + cond (reads r f.target) 1 0 ≤ wakings kind (held kind vs) r
    wakings_fall (Operator o x y) = omega (arith, room_falls x, room_falls y, either (is x f.target) (is y f.target))
      where
        either : (a b : Bool) → cond (a || b) 1 0 ≤ cond a 1 0 + cond b 1 0
        either true b = omega arith
        either false b = omega arith
    wakings_fall (Name n) = omega arith

  module _ (flows : List Flow) where
    -- a rise costs one evaluation, and wakes no more flows than it takes from the budget
    pub rises_pays : (vs : List K) (i : ℕ) (q : List ℕ) → Fits kind flows vs (i ∷ q) → met kind (held kind vs) (flow flows i) ≡ false
        → length (q ++ woken flows (flow flows i).target q (length flows)) + budget kind flows (held kind (applied kind (flow flows i) vs)) ≤ length q + budget kind flows (held kind vs)
    rises_pays vs i q fits unmet =
        let f = flow flows i in
        let inside = (fits_first kind flows vs i q fits).1 in
        rw length-append (omega (
          arith,
          woken_few flows f.target q (length flows),
          total_less
              (λ j. wakings kind (held kind (applied kind f vs)) (flow flows j).rule)
              (λ j. cond (reads (flow flows j).rule f.target) 1 0)
              (λ j. wakings kind (held kind vs) (flow flows j).rule)
              (λ j. wakings_fall f vs inside unmet (flow flows j).rule) (length flows),
        ))

    pub run_pays : (start : List K) (first : List ℕ) → Fits kind flows start first → {vs : List K} {q : List ℕ} {n : ℕ} {rs : List ℕ} → Run kind flows start first vs q n rs
        → n + length q + budget kind flows (held kind vs) ≤ length first + budget kind flows (held kind start)
    run_pays start first fits begins = omega arith
    run_pays start first fits (passes {values} {i} {queue} run m) = omega (arith, run_pays start first fits run)
    run_pays start first fits (rises {values} {i} {queue} run m) =
        omega (arith, run_pays start first fits run, rises_pays values i queue (fits_run kind flows start first fits run) m)
