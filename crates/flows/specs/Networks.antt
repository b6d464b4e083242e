-- What a network holds, and how it grows and shrinks. Assumes nothing.
use Rattle.std.specs.Prelude.{◌≡◌, ℕ, ◌+◌, ◌<◌, ◌≤◌, Bool, true, cond, ◌&&◌, List, [], ◌∷◌, ◌++◌, length, take, Some, None, vec_items, Option, nat_lt}
use Rattle.flows.specs.declared.flow.Bound.{Bound}
use Rattle.flows.specs.declared.flow.Flow.{Flow}
use Rattle.flows.specs.declared.network.Counts.{Counts}
use Rattle.flows.specs.declared.network.Network.{Network}
use Rattle.flows.specs.Bounds.{bound}
use Rattle.flows.specs.Flows.{flow, inside}
use Rattle.flows.specs.Limits.{most_variables, most_flows, most_bounds}

-- the number of variables, the flows and the bounds
pub record Contents : Type 0 where
  pub variables : ℕ
  pub flows : List Flow
  pub bounds : List Bound

abbrev pub contents : Network → Contents
contents n = record { variables = n.counts.variables; flows = vec_items n.flows; bounds = vec_items n.bounds }

abbrev pub nothing : Contents
nothing = record { variables = 0; flows = []; bounds = [] }

-- what is added where it fits gets the next number; else nothing changes
abbrev pub number_if : Bool → ℕ → Option ℕ
number_if fits n = cond fits (Some n) None

abbrev pub room_for_variable : Contents → Bool
room_for_variable c = nat_lt c.variables most_variables

abbrev pub with_variable : Contents → Contents
with_variable c = record { variables = c.variables + 1; flows = c.flows; bounds = c.bounds }

-- a flow fits where there is room and its variables are there
abbrev pub room_for_flow : Contents → Flow → Bool
room_for_flow c f = nat_lt (length c.flows) most_flows && inside c.variables f

abbrev pub with_flow : Contents → Flow → Contents
with_flow c f = record { variables = c.variables; flows = c.flows ++ f ∷ []; bounds = c.bounds }

abbrev pub room_for_bound : Contents → Bound → Bool
room_for_bound c b = nat_lt (length c.bounds) most_bounds && nat_lt b.variable c.variables

abbrev pub with_bound : Contents → Bound → Contents
with_bound c b = record { variables = c.variables; flows = c.flows; bounds = c.bounds ++ b ∷ [] }

-- all variables of flows and of bounds are among the first n
abbrev pub Closed : ℕ → List Flow → Type 0
Closed n flows = (i : ℕ) → i < length flows → inside n (flow flows i) ≡ true

abbrev pub Bounded : ℕ → List Bound → Type 0
Bounded n bounds = (i : ℕ) → i < length bounds → (bound bounds i).variable < n

-- the counts of contents
pub record Counted (c : Contents) (counts : Counts) : Type 0 where
  pub variables : counts.variables ≡ c.variables
  pub flows : counts.flows ≡ length c.flows
  pub bounds : counts.bounds ≡ length c.bounds

-- the contents as they were at earlier counts
abbrev pub cut : Contents → Counts → Contents
cut c to = record { variables = to.variables; flows = take to.flows c.flows; bounds = take to.bounds c.bounds }

-- counts to which contents can be cut back: of nothing more than there is, and what stays has only variables that stay
pub record Earlier (c : Contents) (to : Counts) : Type 0 where
  pub variables : to.variables ≤ c.variables
  pub flows : to.flows ≤ length c.flows
  pub bounds : to.bounds ≤ length c.bounds
  pub closed : Closed to.variables (cut c to).flows
  pub bounded : Bounded to.variables (cut c to).bounds
