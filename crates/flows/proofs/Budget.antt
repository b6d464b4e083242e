-- How many evaluations a run can still have. Assumes nothing.
use Rattle.std.proofs.Common.{ℕ, zero, suc, ◌+◌, ◌-◌, List, length, Some, None, Option}
use Rattle.flows.specs.declared.flow.Flow.{Flow}
use Rattle.flows.specs.declared.flow.Rule.{Rule}
use Rattle.flows.specs.declared.flow.Rule.TheVariants.{Operator, Name}
use Rattle.kinds.specs.declared.kind.Kind.{Ghosts as Kind}
use Rattle.flows.specs.Flows.{flow}

-- f 0 + f 1 + .. + f (n - 1)
abbrev pub total : (ℕ → ℕ) → ℕ → ℕ
total f zero = 0
total f (suc n) = total f n + f n

-- how often an operand can still rise
abbrev pub room : {K : Type 0} → Kind K → (ℕ → K) → Option ℕ → ℕ
room kind a None = 0
room kind a (Some v) = kind.height - kind.rank (a v)

-- how often a flow can still be woken
abbrev pub wakings : {K : Type 0} → Kind K → (ℕ → K) → Rule → ℕ
wakings kind a (Operator o x y) = room kind a x + room kind a y
wakings kind a (Name n) = 0

-- how often flows can still be woken, all together
abbrev pub budget : {K : Type 0} → Kind K → List Flow → (ℕ → K) → ℕ
budget kind flows a = total (λ i. wakings kind a (flow flows i).rule) (length flows)
