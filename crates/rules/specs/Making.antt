-- What the rules make of a declaration, and the steps that a rule is written with. Assumes nothing.
use Rattle.std.specs.Prelude.{ℕ, zero, suc, ◌+◌, ◌-◌, Bool, true, false, List, [], ◌∷◌, ◌++◌, Some, None, Ok, Err, Result}
use Rattle.flows.specs.declared.flow.Bound.{Bound}
use Rattle.flows.specs.declared.flow.Flow.{Flow}
use Rattle.flows.specs.declared.flow.Rule.{Rule}
use Rattle.flows.specs.declared.flow.Rule.TheVariants.{Operator}
use Rattle.refusals.specs.declared.refusal.Refusal.{Refusal}

-- a type of depth d has d + 1 variables, numbered on from the first: level 0 for the value, level i for what i dereferences reach
pub record Levels : Type 0 where
  pub first : ℕ
  pub depth : ℕ

abbrev pub levels : ℕ → ℕ → Levels
levels first depth = record { first = first; depth = depth }

-- a type's levels from 1 on
abbrev pub from_1 : Levels → Levels
from_1 t = levels (t.first + 1) (t.depth - 1)

-- where a binder's mark stands, with its length, or where one would go
pub data Spot : Type 0 where
  stands : ℕ → ℕ → Spot
  would_go : ℕ → Spot

-- a binder: each `val` name, each parameter and each function result
pub record Binder : Type 0 where
  pub levels : Levels
  pub spot : Spot

-- the number of the next variable, and the flows, bounds and binders so far, as met
pub record Made : Type 0 where
  pub next : ℕ
  pub flows : List Flow
  pub bounds : List Bound
  pub binders : List Binder

abbrev pub nothing : Made
nothing = record { next = 0; flows = []; bounds = []; binders = [] }

-- a step: from what was made so far to an answer and what is made then, or to a refusal
abbrev pub Step : Type 0 → Type 0
Step X = Made → Result (X × Made) Refusal

-- one step, and then another that knows its answer; a refusal ends all
infixr 20 ◌▸◌
abbrev pub go_on : {X Y : Type 0} → Result (X × Made) Refusal → (X → Step Y) → Result (Y × Made) Refusal
go_on (Ok p) g = g p.0 p.1
go_on (Err e) g = Err e

unfoldable pub ◌▸◌ : {X Y : Type 0} → Step X → (X → Step Y) → Step Y
◌▸◌ f g m = go_on (f m) g

abbrev pub give : {X : Type 0} → X → Step X
give x m = Ok (x, m)

abbrev pub refuse : {X : Type 0} → Refusal → Step X
refuse e m = Err e

abbrev pub demand : Bool → Refusal → Step (Unit {0})
demand true e m = Ok (tt, m)
demand false e m = Err e

-- a new type of some depth
abbrev pub fresh : ℕ → Step Levels
fresh depth m =
    Ok (levels m.next depth, record { next = m.next + (depth + 1); flows = m.flows; bounds = m.bounds; binders = m.binders })

abbrev pub makes : List Flow → Step (Unit {0})
makes fs m = Ok (tt, record { next = m.next; flows = m.flows ++ fs; bounds = m.bounds; binders = m.binders })

abbrev pub limits : Bound → Step (Unit {0})
limits b m = Ok (tt, record { next = m.next; flows = m.flows; bounds = m.bounds ++ b ∷ []; binders = m.binders })

abbrev pub notes : Binder → Step (Unit {0})
notes b m = Ok (tt, record { next = m.next; flows = m.flows; bounds = m.bounds; binders = m.binders ++ b ∷ [] })

abbrev pub flow : Rule → ℕ → Flow
flow rule target = record { rule = rule; target = target }

-- operator 0
abbrev pub move : ℕ → ℕ → Flow
move s t = flow (Operator 0 (Some s) None) t

-- operator 1
abbrev pub literal_flow : ℕ → Flow
literal_flow t = flow (Operator 1 None None) t

-- for i from 1 to d the moves of level i, there and back
abbrev pub both_ways : ℕ → ℕ → ℕ → List Flow
both_ways s t zero = []
both_ways s t (suc d) = both_ways s t d ++ move (s + (d + 1)) (t + (d + 1)) ∷ move (t + (d + 1)) (s + (d + 1)) ∷ []

-- s flows into t
abbrev pub into : Levels → Levels → List Flow
into s t = move s.first t.first ∷ both_ways s.first t.first s.depth
