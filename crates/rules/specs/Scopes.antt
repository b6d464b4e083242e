-- The names in force, and what they mean. Assumes nothing.
use Rattle.std.specs.Prelude.{ℕ, cond, List, [], ◌∷◌, Some, None, codes, Option}
use Rattle.std.specs.Str.{bytes_eq}
use Rattle.rules.specs.Making.{Levels}

-- what a name means
pub data Sense : Type 0 where
  a_value : Levels → Sense
  predeclared : ℕ → ℕ → Sense  -- an operator, and how many ints it takes
  function : List Levels → Levels → Sense  -- its parameters and its result

pub record Binding : Type 0 where
  pub name : List ℕ
  pub sense : Sense

abbrev pub bind : List ℕ → Sense → Binding
bind name sense = record { name = name; sense = sense }

-- the bindings in force, the oldest first
abbrev pub Scope : Type 0
Scope = List Binding

abbrev pub or_else : {X : Type 0} → Option X → Option X → Option X
or_else None y = y
or_else (Some x) y = Some x

-- a name means its latest binding in force
abbrev pub latest : List ℕ → Scope → Option Sense
latest name [] = None
latest name (b ∷ later) = or_else (latest name later) (cond (bytes_eq b.name name) (Some b.sense) None)

-- in force before every declaration
abbrev pub predeclared_names : Scope
predeclared_names =
    bind (codes "field") (predeclared 3 1)
    ∷ bind (codes "detector") (predeclared 4 1)
    ∷ bind (codes "clock") (predeclared 5 1)
    ∷ bind (codes "check") (predeclared 6 2)
    ∷ []
