-- Flows between variables, and the assignments that meet them. Assumes nothing.
use Rattle.std.specs.Prelude.{◌≡◌, ℕ, ◌<◌, Bool, true, false, ◌&&◌, ◌||◌, List, length, Some, None, Option, ◌==◌, nat_lt, slice_index_or}
use Rattle.kinds.specs.declared.kind.Kind.{Ghosts as Kind}
use Rattle.flows.specs.declared.flow.Rule.{Rule}
use Rattle.flows.specs.declared.flow.Rule.TheVariants.{Operator, Name}
use Rattle.flows.specs.declared.flow.Flow.{Flow}

-- an assignment gives each variable, by its number, a value; a list of values gives bottom past its end
abbrev pub held : {K : Type 0} → Kind K → List K → ℕ → K
held kind values v = slice_index_or values v kind.bottom

-- an absent operand is bottom
abbrev pub operand : {K : Type 0} → Kind K → (ℕ → K) → Option ℕ → K
operand kind a None = kind.bottom
operand kind a (Some v) = a v

-- what a flow brings to its target: the operator's result, or the name's value
abbrev pub result : {K : Type 0} → Kind K → (ℕ → K) → Rule → K
result kind a (Operator o x y) = kind.operate o (operand kind a x) (operand kind a y)
result kind a (Name n) = kind.value n

-- an assignment meets a flow when the flow's result is at or below the target's value
abbrev pub met : {K : Type 0} → Kind K → (ℕ → K) → Flow → Bool
met kind a f = kind.below (result kind a f.rule) (a f.target)

abbrev pub is : Option ℕ → ℕ → Bool
is None v = false
is (Some u) v = u == v

-- whether a flow reads a variable: has it as a source
abbrev pub reads : Rule → ℕ → Bool
reads (Operator o x y) v = is x v || is y v
reads (Name n) v = false

-- flows are numbered from 0; a number past the last stands for operator 0 on nothing, into variable 0
abbrev pub flow : List Flow → ℕ → Flow
flow flows i = slice_index_or flows i (record { rule = Operator 0 None None; target = 0 })

-- whether all variables of a flow are among the first n
abbrev pub known : ℕ → Option ℕ → Bool
known n None = true
known n (Some v) = nat_lt v n

abbrev pub knows : ℕ → Rule → Bool
knows n (Operator o x y) = known n x && known n y
knows n (Name m) = true

abbrev pub inside : ℕ → Flow → Bool
inside n f = nat_lt f.target n && knows n f.rule

-- every flow's target is one of the first n variables
abbrev pub Within : List Flow → ℕ → Type 0
Within flows n = (i : ℕ) → i < length flows → (flow flows i).target < n

-- an assignment meets all flows
abbrev pub Meets : {K : Type 0} → Kind K → List Flow → (ℕ → K) → Type 0
Meets kind flows a = (i : ℕ) → i < length flows → met kind a (flow flows i) ≡ true

-- one assignment is at or below another at every variable
abbrev pub Under : {K : Type 0} → Kind K → (ℕ → K) → (ℕ → K) → Type 0
Under kind a b = (v : ℕ) → kind.below (a v) (b v) ≡ true

-- an assignment meets all flows, and is at or below every other that does
pub record Least {K : Type 0} (kind : Kind K) (flows : List Flow) (a : ℕ → K) : Type 0 where
  pub meets : Meets kind flows a
  pub lowest : (b : ℕ → K) → Meets kind flows b → Under kind a b
