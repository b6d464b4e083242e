-- Why a bound is broken: the rises that lead to it. Assumes nothing.
use Rattle.std.specs.Prelude.{◌≡◌, ℕ, ◌<◌, true, false, List, [], ◌∷◌, ◌++◌, length, replicate, Some, None, fold, Option}
use Rattle.kinds.specs.declared.kind.Kind.{Ghosts as Kind}
use Rattle.flows.specs.declared.flow.Bound.{Bound}
use Rattle.flows.specs.declared.flow.Flow.{Flow}
use Rattle.flows.specs.Flows.{held, met, flow}
use Rattle.flows.specs.Bounds.{broken, bound, Unbroken, Lowest, Judged}
use Rattle.flows.specs.Queues.{numbered}
use Rattle.flows.specs.Runs.{applied, Run}

-- a run stops as soon as a bound is broken, the lowest of them b: at its start, or at the first rise after which one is. These flows
-- rose, in this order, and these are the values then
pub data Breaks {K : Type 0} (kind : Kind K) (flows : List Flow) (bounds : List Bound) (start : List K) (first : List ℕ) (b : ℕ) : List ℕ → List K → Type 0 where
  at_start : Lowest kind bounds (held kind start) b → Breaks kind flows bounds start first b [] start
  at_rise : {values : List K} {i : ℕ} {queue : List ℕ} {n : ℕ} {risen : List ℕ}
      → Run kind flows start first values (i ∷ queue) n risen
      → Unbroken kind bounds (held kind values)
      → met kind (held kind values) (flow flows i) ≡ false
      → Lowest kind bounds (held kind (applied kind (flow flows i) values)) b
      → Breaks kind flows bounds start first b (risen ++ i ∷ []) (applied kind (flow flows i) values)

-- a run that goes to its end, with no bound broken
pub record Passes {K : Type 0} (kind : Kind K) (flows : List Flow) (bounds : List Bound) (start : List K) (first : List ℕ) (risen : List ℕ) (after : List K) : Type 0 where
  pub evaluations : ℕ
  pub run : Run kind flows start first after [] evaluations risen
  pub unbroken : Unbroken kind bounds (held kind after)

-- what an explaining run tells: the bound that is broken first, or that none is when the run ends
abbrev pub Told : {K : Type 0} → Kind K → List Flow → List Bound → List K → List ℕ → Option ℕ → List ℕ → List K → Type 0
Told kind flows bounds start first (Some b) risen after = Breaks kind flows bounds start first b risen after
Told kind flows bounds start first None risen after = Passes kind flows bounds start first risen after

-- the values after flows are applied in order
abbrev pub all_applied : {K : Type 0} → Kind K → List Flow → List ℕ → List K → List K
all_applied kind flows numbers values = fold (λ vs i. applied kind (flow flows i) vs) values numbers

-- flows, applied in order from these values, break the bound that is told
abbrev pub Leads : {K : Type 0} → Kind K → List Flow → List Bound → List K → List ℕ → Option ℕ → Type 0
Leads kind flows bounds start risen (Some b) = broken kind (held kind (all_applied kind flows risen start)) (bound bounds b) ≡ true
Leads kind flows bounds start risen None = Unit {0}

-- a list after numbers are written to its front: those that have no place are left out, and later entries stay
abbrev pub written : List ℕ → List ℕ → List ℕ
written [] list = list
written (n ∷ numbers) [] = []
written (n ∷ numbers) (x ∷ list) = n ∷ written numbers list

-- every bound has a name of the kind
abbrev pub Named : {K : Type 0} → Kind K → List Bound → Type 0
Named kind bounds = (i : ℕ) → i < length bounds → (bound bounds i).name < kind.names

-- every variable is bottom
abbrev pub bottoms : {K : Type 0} → Kind K → ℕ → List K
bottoms kind n = replicate n kind.bottom

-- a run that stops at a broken bound tells this; so many flows rise, and they are written to a list
pub record Traced {K : Type 0} (kind : Kind K) (flows : List Flow) (bounds : List Bound) (start : List K) (first : List ℕ) (told : Option ℕ) (rises : ℕ) (list list' : List ℕ) (after : List K) : Type 0 where
  pub risen : List ℕ
  pub run : Told kind flows bounds start first told risen after
  pub counted : rises ≡ length risen
  pub listed : list' ≡ written risen list

-- the explaining run, over all flows in number order, with every variable at bottom first
pub record Explained {K : Type 0} (kind : Kind K) (flows : List Flow) (bounds : List Bound) (size : ℕ) (told : Option ℕ) (rises : ℕ) (list list' : List ℕ) (after : List K) : Type 0 where
  pub traced : Traced kind flows bounds (bottoms kind size) (numbered 0 (length flows)) told rises list list' after
  -- where every bound has a name of the kind, none is broken at bottom: the run then stops at a rise, or at its end
  pub starts : Named kind bounds → Unbroken kind bounds (held kind (bottoms kind size))
  -- nothing else can be told
  pub only : (told' : Option ℕ) (risen' : List ℕ) (after' : List K) → Told kind flows bounds (bottoms kind size) (numbered 0 (length flows)) told' risen' after'
      → (told' ≡ told) × (risen' ≡ traced.risen) × (after' ≡ after)
  -- the list, applied in order from bottom, breaks the bound
  pub leads : Leads kind flows bounds (bottoms kind size) traced.risen told
  -- a bound is told just where flows and bounds cannot be met together
  pub judged : Judged kind flows bounds told
