-- Bounds on variables, and what breaks them. Assumes nothing.
use Rattle.std.specs.Prelude.{◌≡◌, ℕ, ◌<◌, Bool, true, false, List, length, Some, None, Option, slice_index_or}
use Rattle.kinds.specs.declared.kind.Kind.{Ghosts as Kind}
use Rattle.flows.specs.declared.flow.Flow.{Flow}
use Rattle.flows.specs.declared.flow.Bound.{Bound}
use Rattle.flows.specs.Flows.{Meets}

-- a bound is broken when its name's value is at or below its variable's, else met
abbrev pub broken : {K : Type 0} → Kind K → (ℕ → K) → Bound → Bool
broken kind a b = kind.below (kind.value b.name) (a b.variable)

-- bounds are numbered from 0
abbrev pub bound : List Bound → ℕ → Bound
bound bounds i = slice_index_or bounds i (record { name = 0; variable = 0 })

-- an assignment meets the first n bounds
abbrev pub Keeps : {K : Type 0} → Kind K → List Bound → (ℕ → K) → ℕ → Type 0
Keeps kind bounds a n = (i : ℕ) → i < n → broken kind a (bound bounds i) ≡ false

-- an assignment meets all bounds
abbrev pub Unbroken : {K : Type 0} → Kind K → List Bound → (ℕ → K) → Type 0
Unbroken kind bounds a = Keeps kind bounds a (length bounds)

-- the lowest bound that an assignment breaks
pub record Lowest {K : Type 0} (kind : Kind K) (bounds : List Bound) (a : ℕ → K) (b : ℕ) : Type 0 where
  pub inside : b < length bounds
  pub breaks : broken kind a (bound bounds b) ≡ true
  pub before : Keeps kind bounds a b

-- what is found by testing the bounds in number order: the lowest broken one, or that none is
abbrev pub Tested : {K : Type 0} → Kind K → List Bound → (ℕ → K) → Option ℕ → Type 0
Tested kind bounds a None = Unbroken kind bounds a
Tested kind bounds a (Some b) = Lowest kind bounds a b

-- some assignment meets all flows and bounds
pub record Solvable {K : Type 0} (kind : Kind K) (flows : List Flow) (bounds : List Bound) : Type 0 where
  pub solution : ℕ → K
  pub meets : Meets kind flows solution
  pub unbroken : Unbroken kind bounds solution

-- every assignment that meets the flows breaks a bound
abbrev pub AlwaysBroken : {K : Type 0} → Kind K → List Flow → List Bound → ℕ → Type 0
AlwaysBroken {K} kind flows bounds b = (a : ℕ → K) → Meets kind flows a → broken kind a (bound bounds b) ≡ true

-- a bound is named just where flows and bounds cannot be met together, and then every assignment that meets the flows breaks it
abbrev pub Judged : {K : Type 0} → Kind K → List Flow → List Bound → Option ℕ → Type 0
Judged kind flows bounds None = Solvable kind flows bounds
Judged kind flows bounds (Some b) = AlwaysBroken kind flows bounds b × (Solvable kind flows bounds → ⊥)
