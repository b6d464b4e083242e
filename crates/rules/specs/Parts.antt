-- The rules' own parts, as steps, where the parts of the expression have been walked. Assumes nothing.
use Rattle.std.specs.Prelude.{ℕ, ◌+◌, ◌-◌, [], ◌∷◌, Some, None, Option, ◌==◌, nat_lt}
use Rattle.flows.specs.declared.flow.Rule.TheVariants.{Operator}
use Rattle.refusals.specs.declared.refusal.Refusal.TheVariants.{NotInForce, Unfit}
use Rattle.syntax.specs.Trees.{Text}
use Rattle.rules.specs.Making.{Levels, from_1, Step, ◌▸◌, give, refuse, demand, fresh, makes, limits, flow, literal_flow, into}
use Rattle.rules.specs.Scopes.{Sense, a_value, predeclared, function}

abbrev pub literal : Step Levels
literal = fresh 0 ▸ λ t. makes (literal_flow t.first ∷ []) ▸ λ _. give t

-- an identifier, by what it means
abbrev pub identifier : Text → Option Sense → Step Levels
identifier x None = refuse (NotInForce x.place)
identifier x (Some (a_value t)) = give t
identifier x (Some (predeclared op n)) = refuse (NotInForce x.place)
identifier x (Some (function ps t)) = refuse (NotInForce x.place)

abbrev pub deepest : ℕ
deepest = 3

-- `ref a`, which stands at `at`
abbrev pub cell : ℕ → Levels → Step Levels
cell at a =
    demand (nat_lt a.depth deepest) (Unfit at) ▸ λ _.
    fresh (a.depth + 1) ▸ λ t.
    makes (literal_flow t.first ∷ []) ▸ λ _.
    makes (into a (from_1 t)) ▸ λ _.
    give t

-- an operand is a reference, an int; its first token stands at `at`
abbrev pub reference : ℕ → Levels → Step (Unit {0})
reference at a = demand (nat_lt 0 a.depth) (Unfit at)

abbrev pub int : ℕ → Levels → Step (Unit {0})
int at a = demand (a.depth == 0) (Unfit at)

-- `!a`
abbrev pub reached : ℕ → Levels → Step Levels
reached at a = reference at a ▸ λ _. give (from_1 a)

abbrev pub arithmetic : ℕ → Levels → ℕ → Levels → Step Levels
arithmetic at a bt b =
    int at a ▸ λ _.
    int bt b ▸ λ _.
    fresh 0 ▸ λ t.
    makes (flow (Operator 2 (Some a.first) (Some b.first)) t.first ∷ []) ▸ λ _.
    give t

-- `if a < b then c else d`
abbrev pub branches : ℕ → Levels → ℕ → Levels → Levels → ℕ → Levels → Step Levels
branches at a bt b c dt d =
    int at a ▸ λ _.
    int bt b ▸ λ _.
    demand (d.depth == c.depth) (Unfit dt) ▸ λ _.
    fresh c.depth ▸ λ t.
    makes (into c t) ▸ λ _.
    makes (into d t) ▸ λ _.
    give t

-- `(p := e; f)`
abbrev pub assigned : ℕ → Levels → ℕ → Levels → Levels → Step Levels
assigned pt p et e f =
    reference pt p ▸ λ _.
    demand (e.depth == p.depth - 1) (Unfit et) ▸ λ _.
    makes (into e (from_1 p)) ▸ λ _.
    give f

-- a bound mark k behind an atom, by the number that its name is found as
abbrev pub limited : Text → Levels → Option ℕ → Step Levels
limited k a None = refuse (NotInForce k.place)
limited k a (Some n) = limits (record { name = n; variable = a.first }) ▸ λ _. give a

-- a body with the type u, of a function whose result has the type t
abbrev pub returned : ℕ → Levels → Levels → Step (Unit {0})
returned at u t = demand (u.depth == t.depth) (Unfit at) ▸ λ _. makes (into u t)
