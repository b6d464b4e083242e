-- Runs over flows: a queue of flow numbers, oldest first, and the values that they raise. Assumes nothing.
use Rattle.std.specs.Prelude.{◌≡◌, ℕ, zero, suc, ◌+◌, Bool, true, false, cond, not, ◌&&◌, List, [], ◌∷◌, ◌++◌, length, slice_set}
use Rattle.kinds.specs.declared.kind.Kind.{Ghosts as Kind}
use Rattle.flows.specs.declared.flow.Flow.{Flow}
use Rattle.flows.specs.Queues.{waits}
use Rattle.flows.specs.Flows.{held, result, met, reads, flow}

-- of the first n flows, those that read a variable and do not wait in the queue, in ascending number
abbrev pub woken : List Flow → ℕ → List ℕ → ℕ → List ℕ
woken flows v queue zero = []
woken flows v queue (suc n) =
    woken flows v queue n ++ cond (reads (flow flows n).rule v && not (waits n queue)) (n ∷ []) []

-- the queue after a rise of flow i: each flow that reads its target and does not wait has joined, in ascending number
abbrev pub wakened : List Flow → ℕ → List ℕ → List ℕ
wakened flows i queue = queue ++ woken flows (flow flows i).target queue (length flows)

-- applying a flow: its target becomes its join with what the flow brings
abbrev pub applied : {K : Type 0} → Kind K → Flow → List K → List K
applied kind f values =
    slice_set values f.target (kind.join (held kind values f.target) (result kind (held kind values) f.rule))

-- one evaluation of flow i, which has left the queue: if it is met, nothing changes; else it is applied, a rise
pub record Evaluates {K : Type 0} (kind : Kind K) (flows : List Flow) (i : ℕ) (values : List K) (queue : List ℕ) (rose : Bool) (values' : List K) (queue' : List ℕ) : Type 0 where
  pub unmet : met kind (held kind values) (flow flows i) ≡ not rose
  pub after : values' ≡ cond rose (applied kind (flow flows i) values) values
  pub queued : queue' ≡ cond rose (wakened flows i queue) queue

-- a run that began with the values `start` and the queue `first` has come to these values and this queue, after so many evaluations,
-- in which these flows rose. An evaluation takes the oldest flow. If it is met, nothing changes; else it is applied, a rise,
-- and each flow that reads its target and does not wait joins the queue.
pub data Run {K : Type 0} (kind : Kind K) (flows : List Flow) (start : List K) (first : List ℕ) : List K → List ℕ → ℕ → List ℕ → Type 0 where
  begins : Run kind flows start first start first 0 []
  passes : {values : List K} {i : ℕ} {queue : List ℕ} {n : ℕ} {risen : List ℕ}
      → Run kind flows start first values (i ∷ queue) n risen
      → met kind (held kind values) (flow flows i) ≡ true
      → Run kind flows start first values queue (n + 1) risen
  rises : {values : List K} {i : ℕ} {queue : List ℕ} {n : ℕ} {risen : List ℕ}
      → Run kind flows start first values (i ∷ queue) n risen
      → met kind (held kind values) (flow flows i) ≡ false
      → Run kind flows start first (applied kind (flow flows i) values) (wakened flows i queue) (n + 1) (risen ++ i ∷ [])

-- the run ends with these values, after so many evaluations
abbrev pub Ends : {K : Type 0} → Kind K → List Flow → List K → List ℕ → ℕ → List K → Type 0
Ends kind flows start first n values = (risen : List ℕ) × Run kind flows start first values [] n risen
