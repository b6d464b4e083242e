-- The rules by which a declaration gets its variables, flows, bounds and binders. Assumes nothing.
use Rattle.std.specs.Prelude.{ℕ, List, [], ◌∷◌, ◌++◌, Option}
use Rattle.syntax.specs.Trees.{Expr, Literal, Variable, Group, Assign, Let, Bounded, Ref, Read, Call, Arith, If, Arguments, Last, More, Bindings, Final, Then, Declaration, Val, Fun}
use Rattle.rules.specs.Making.{Levels, Step, ◌▸◌, give}
use Rattle.rules.specs.Scopes.{Binding, Scope, latest}
use Rattle.syntax.specs.Starts.{start}
use Rattle.rules.specs.Parts.{literal, identifier, cell, reached, arithmetic, branches, assigned, limited, returned}
use Rattle.rules.specs.Calls.{Operand, called}
use Rattle.rules.specs.Binders.{type_end, values_of, function_with, valued, created, parameters}

abbrev pub operand : Expr → Levels → Operand
operand e t = record { place = start e; levels = t }

-- `find` gives the number of a name in marks, where it is known
module _ (find : List ℕ → Option ℕ) where
  abbrev mutual
    -- the type of an expression, where Σ is in force
    pub infers : Scope → Expr → Step Levels
    infers Σ (Literal x) = literal
    infers Σ (Variable x) = identifier x (latest x.bytes Σ)
    infers Σ (Group at e) = infers Σ e
    infers Σ (Assign at p e f) = infers Σ p ▸ λ t. infers Σ e ▸ λ u. infers Σ f ▸ λ v. assigned (start p) t (start e) u v
    infers Σ (Let at vals e) = locals Σ vals ▸ λ new. infers (Σ ++ new) e
    infers Σ (Bounded a k) = infers Σ a ▸ λ t. limited k t (find k.bytes)
    infers Σ (Ref at a) = infers Σ a ▸ λ t. cell at t
    infers Σ (Read at a) = infers Σ a ▸ λ t. reached (start a) t
    infers Σ (Call f args) = arguments Σ [] args ▸ λ ts. called f ts (latest f.bytes Σ)
    infers Σ (Arith a at o b) = infers Σ a ▸ λ t. infers Σ b ▸ λ u. arithmetic (start a) t (start b) u
    infers Σ (If at a b c d) =
        infers Σ a ▸ λ t. infers Σ b ▸ λ u. infers Σ c ▸ λ v. infers Σ d ▸ λ w. branches (start a) t (start b) u v (start d) w

    -- all arguments of a call, behind the earlier ones
    pub arguments : Scope → List Operand → Arguments → Step (List Operand)
    arguments Σ earlier (Last e) = infers Σ e ▸ λ t. give (earlier ++ operand e t ∷ [])
    arguments Σ earlier (More e more) = infers Σ e ▸ λ t. arguments Σ (earlier ++ operand e t ∷ []) more

    -- what the declarations of a `let` bring in force
    pub locals : Scope → Bindings → Step (List Binding)
    locals Σ (Final x mark e) = infers Σ e ▸ λ t. valued find x mark t ▸ λ new. give (new ∷ [])
    locals Σ (Then x mark e more) = infers Σ e ▸ λ t. valued find x mark t ▸ λ new. locals (Σ ++ new ∷ []) more ▸ λ later. give (new ∷ later)

  -- what a declaration brings in force; in its body a function is in force, hidden by its parameters
  abbrev pub declared_by : Scope → Declaration → Step (List Binding)
  declared_by Σ (Val x mark e) = infers Σ e ▸ λ t. valued find x mark t ▸ λ new. give (new ∷ [])
  declared_by Σ (Fun f ps ty mark e) =
      parameters find [] ps ▸ λ ts.
      created find ty (type_end ty) mark ▸ λ t.
      infers (Σ ++ function_with f ts t ∷ values_of ts) e ▸ λ u.
      returned (start e) u t ▸ λ _.
      give (function_with f ts t ∷ [])

  -- a script: one declaration after the other, each with all earlier ones in force; gives all that is in force at the end
  abbrev pub script : Scope → List Declaration → Step Scope
  script Σ [] = give Σ
  script Σ (d ∷ ds) = declared_by Σ d ▸ λ new. script (Σ ++ new) ds
