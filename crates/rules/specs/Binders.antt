-- The rules of binders: `val` names, parameters and results. Assumes nothing.
use Rattle.std.specs.Prelude.{ℕ, ◌+◌, Bool, false, not, ◌||◌, List, [], ◌∷◌, ◌++◌, map, length, Some, None, Option}
use Rattle.refusals.specs.declared.refusal.Refusal.TheVariants.{NotInForce}
use Rattle.std.specs.Str.{bytes_eq}
use Rattle.syntax.specs.declared.tree.Ty.{Ty}
use Rattle.syntax.specs.Trees.{Text, Parameter, Parameters, Sole, And}
use Rattle.rules.specs.Making.{Levels, Spot, stands, would_go, Step, ◌▸◌, give, demand, fresh, makes, notes, into}
use Rattle.rules.specs.Marks.{marked}
use Rattle.rules.specs.Scopes.{a_value, function, Binding, bind, Scope}

-- a mark has five bytes around what stands in it
abbrev pub spot : ℕ → Option Text → Spot
spot end None = would_go end
spot end (Some k) = stands k.place (length k.bytes + 5)

abbrev pub name_end : Text → ℕ
name_end x = x.place + length x.bytes

abbrev pub type_end : Ty → ℕ
type_end ty = ty.last + 3

-- a parameter that has got its type
pub record Typed : Type 0 where
  pub name : List ℕ
  pub levels : Levels

-- whether a name is one of these
abbrev pub among : List ℕ → List Typed → Bool
among name [] = false
among name (p ∷ ps) = bytes_eq p.name name || among name ps

abbrev pub types_of : List Typed → List Levels
types_of ps = map (λ p. p.levels) ps

abbrev pub values_of : List Typed → Scope
values_of ps = map (λ p. bind p.name (a_value p.levels)) ps

-- the function f with these parameters and this result
abbrev pub function_with : Text → List Typed → Levels → Binding
function_with f ps t = bind f.bytes (function (types_of ps) t)

-- `find` gives the number of a name in marks, where it is known
module _ (find : List ℕ → Option ℕ) where
  -- `val x = e`, where e has the type a
  abbrev pub valued : Text → Option Text → Levels → Step Binding
  valued x mark a =
      fresh a.depth ▸ λ t.
      makes (into a t) ▸ λ _.
      notes (record { levels = t; spot = spot (name_end x) mark }) ▸ λ _.
      marked find mark t ▸ λ _.
      give (bind x.bytes (a_value t))

  -- a parameter or a result, whose mark, where it has none, would go at `end`
  abbrev pub created : Ty → ℕ → Option Text → Step Levels
  created ty end mark =
      fresh ty.depth ▸ λ t.
      notes (record { levels = t; spot = spot end mark }) ▸ λ _.
      marked find mark t ▸ λ _.
      give t

  -- one more parameter, behind the earlier ones
  abbrev pub parameter : List Typed → Parameter → Step (List Typed)
  parameter earlier p =
      demand (not (among p.name.bytes earlier)) (NotInForce p.name.place) ▸ λ _.
      created p.ty (name_end p.name) p.mark ▸ λ t.
      give (earlier ++ record { name = p.name.bytes; levels = t } ∷ [])

  -- all parameters, behind the earlier ones
  abbrev pub parameters : List Typed → Parameters → Step (List Typed)
  parameters earlier (Sole p) = parameter earlier p
  parameters earlier (And p ps) = parameter earlier p ▸ λ ts. parameters ts ps
