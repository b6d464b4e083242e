-- The rule of calls, where the arguments have been walked. Assumes nothing.
use Rattle.std.specs.Prelude.{ℕ, zero, suc, List, [], ◌∷◌, length, Some, None, Option, ◌==◌}
use Rattle.flows.specs.declared.flow.Rule.TheVariants.{Operator}
use Rattle.refusals.specs.declared.refusal.Refusal.TheVariants.{NotInForce, Unfit}
use Rattle.syntax.specs.Trees.{Text}
use Rattle.rules.specs.Making.{Levels, Step, ◌▸◌, give, refuse, demand, fresh, makes, flow, into}
use Rattle.rules.specs.Parts.{int}
use Rattle.rules.specs.Scopes.{Sense, a_value, predeclared, function}

-- an operand of a call, an argument that has been walked: the place of its first token, and its type
pub record Operand : Type 0 where
  pub place : ℕ
  pub levels : Levels

-- each argument is an int
abbrev pub ints : List Operand → Step (Unit {0})
ints [] = give tt
ints (a ∷ args) = int a.place a.levels ▸ λ _. ints args

-- each argument has its parameter's depth
abbrev pub fit : List Operand → List Levels → Step (Unit {0})
fit [] ps = give tt
fit (a ∷ args) [] = give tt
fit (a ∷ args) (p ∷ ps) = demand (a.levels.depth == p.depth) (Unfit a.place) ▸ λ _. fit args ps

-- each argument flows into its parameter
abbrev pub passes : List Operand → List Levels → Step (Unit {0})
passes [] ps = give tt
passes (a ∷ args) [] = give tt
passes (a ∷ args) (p ∷ ps) = makes (into a.levels p) ▸ λ _. passes args ps

-- the variable of the value of argument i
abbrev pub value_of : List Operand → ℕ → Option ℕ
value_of [] i = None
value_of (a ∷ args) zero = Some a.levels.first
value_of (a ∷ args) (suc i) = value_of args i

-- a call of f, by what it means
abbrev pub called : Text → List Operand → Option Sense → Step Levels
called f args None = refuse (NotInForce f.place)
called f args (Some (a_value t)) = refuse (NotInForce f.place)
called f args (Some (predeclared op n)) =
    demand (length args == n) (Unfit f.place) ▸ λ _.
    ints args ▸ λ _.
    fresh 0 ▸ λ t.
    makes (flow (Operator op (value_of args 0) (value_of args 1)) t.first ∷ []) ▸ λ _.
    give t
called f args (Some (function ps t)) =
    demand (length args == length ps) (Unfit f.place) ▸ λ _.
    fit args ps ▸ λ _.
    passes args ps ▸ λ _.
    give t
