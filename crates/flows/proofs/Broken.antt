-- What breaks a bound. Assumes nothing.
use Rattle.std.proofs.Common.{◌≡◌, ℕ, zero, suc, ◌<◌, true, List, length, Some, None, Option, refl, ap, ◌∙◌, ⊎_elim}
use Rattle.std.proofs.lemmas.List.Sums.{fold_push}
use Rattle.std.proofs.lemmas.Bool.{cases_Bool, both_ways}
use Rattle.kinds.specs.declared.kind.Kind.{Ghosts as Kind}
use Rattle.kinds.specs.Lawful.{Lawful}
use Rattle.flows.specs.declared.flow.Flow.{Flow}
use Rattle.flows.specs.declared.flow.Bound.{Bound}
use Rattle.flows.specs.Flows.{held, flow, Under, Least}
use Rattle.flows.specs.Bounds.{broken, bound, Unbroken, Tested, AlwaysBroken, Judged}
use Rattle.flows.specs.Runs.{applied, Run, begins, passes, rises}
use Rattle.flows.specs.Explaining.{all_applied, bottoms}

module _ {K : Type 0} (kind : Kind K) where
  pub bottom_everywhere : (n v : ℕ) → held kind (bottoms kind n) v ≡ kind.bottom
  bottom_everywhere zero v = refl
  bottom_everywhere (suc n) zero = refl
  bottom_everywhere (suc n) (suc v) = bottom_everywhere n v

  -- a run's values are its rises, applied in order
  pub replays : (flows : List Flow) (start : List K) (first : List ℕ) → {vs : List K} {q : List ℕ} {n : ℕ} {rs : List ℕ} → Run kind flows start first vs q n rs → all_applied kind flows rs start ≡ vs
  replays flows start first begins = refl
  replays flows start first (passes run m) = replays flows start first run
  replays flows start first (rises {values} {i} {queue} {n} {risen} run m) =
      fold_push (λ vs i. applied kind (flow flows i) vs) start risen i ∙ ap (applied kind (flow flows i)) (replays flows start first run)

  -- a bound that every solution of the flows breaks is rightly named
  pub always_judged : (flows : List Flow) (bounds : List Bound) (b : ℕ) → b < length bounds → AlwaysBroken kind flows bounds b → Judged kind flows bounds (Some b)
  always_judged flows bounds b inside always = (always, λ s. both_ways _ (s.unbroken b inside) (always s.solution s.meets))

module _ {K : Type 0} (kind : Kind K) (laws : Lawful kind) where
  -- what breaks a bound at an assignment breaks it above
  pub broken_above : (a b : ℕ → K) (x : Bound) → Under kind a b → broken kind a x ≡ true → broken kind b x ≡ true
  broken_above a b x under breaks = laws.order.transitive _ _ _ breaks (under x.variable)

  pub unbroken_below : (bounds : List Bound) (a b : ℕ → K) → Under kind a b → Unbroken kind bounds b → Unbroken kind bounds a
  unbroken_below bounds a b under whole i inside =
      ⊎_elim
      (λ breaks. absurd (both_ways _ (whole i inside) (broken_above a b (bound bounds i) under breaks)))
      (λ kept. kept)
      (cases_Bool (broken kind a (bound bounds i)))

  -- testing the bounds at the least solution judges them
  pub judged : (flows : List Flow) (bounds : List Bound) (a : ℕ → K) (r : Option ℕ) → Least kind flows a → Tested kind bounds a r → Judged kind flows bounds r
  judged flows bounds a None least whole = record { solution = a; meets = least.meets; unbroken = whole }
  judged flows bounds a (Some b) least lowest =
      always_judged kind flows bounds b lowest.inside (λ c meets. broken_above a c (bound bounds b) (least.lowest c meets) lowest.breaks)
