-- Variables are numbered as they are made: all that is made, and all that is in force, has variables below the next. Assumes nothing.
use Rattle.std.specs.Prelude.{ℕ, ◌+◌, ◌<◌, List, [], ◌++◌, Option}
use Rattle.flows.specs.Networks.{Closed, Bounded}
use Rattle.std.specs.List.{AllByRecursion}
use Rattle.syntax.specs.Trees.{Expr, Arguments, Bindings, Declaration}
use Rattle.rules.specs.Making.{Levels, Made, nothing}
use Rattle.rules.specs.Scopes.{Sense, a_value, predeclared, function, Binding, Scope, predeclared_names}
use Rattle.rules.specs.Calls.{Operand}
use Rattle.rules.specs.Rules.{infers, arguments, locals, declared_by, script}
use Rattle.rules.specs.Staying.{Gives}

-- all variables of a type
abbrev pub Below : ℕ → Levels → Type 0
Below n t = t.first + t.depth < n

-- of what a name means
abbrev pub SenseBelow : ℕ → Sense → Type 0
SenseBelow n (a_value t) = Below n t
SenseBelow n (predeclared op count) = Unit {0}
SenseBelow n (function ps t) = AllByRecursion (Below n) ps × Below n t

-- of all that is in force
abbrev pub ScopeBelow : ℕ → Scope → Type 0
ScopeBelow n Σ = AllByRecursion (λ b. SenseBelow n b.sense) Σ

-- of all that is made
pub record Ordered (m : Made) : Type 0 where
  pub flows : Closed m.next m.flows
  pub bounds : Bounded m.next m.bounds
  pub binders : AllByRecursion (λ b. Below m.next b.levels) m.binders

pub record Numbered : Type 0 where
  pub expression : (find : List ℕ → Option ℕ) (Σ : Scope) (e : Expr) (m m' : Made) (t : Levels)
      → Gives (infers find Σ e) m t m'
      → ScopeBelow m.next Σ
      → Ordered m
      → Ordered m' × Below m'.next t
  pub call : (find : List ℕ → Option ℕ) (Σ : Scope) (args : Arguments) (m m' : Made) (operands : List Operand)
      → Gives (arguments find Σ [] args) m operands m'
      → ScopeBelow m.next Σ
      → Ordered m
      → Ordered m' × AllByRecursion (λ a. Below m'.next a.levels) operands
  pub lets : (find : List ℕ → Option ℕ) (Σ : Scope) (vals : Bindings) (m m' : Made) (new : List Binding)
      → Gives (locals find Σ vals) m new m'
      → ScopeBelow m.next Σ
      → Ordered m
      → Ordered m' × ScopeBelow m'.next (Σ ++ new)
  pub declaration : (find : List ℕ → Option ℕ) (Σ : Scope) (d : Declaration) (m m' : Made) (new : List Binding)
      → Gives (declared_by find Σ d) m new m'
      → ScopeBelow m.next Σ
      → Ordered m
      → Ordered m' × ScopeBelow m'.next (Σ ++ new)
  -- a script from the start on
  pub declarations : (find : List ℕ → Option ℕ) (ds : List Declaration) (m : Made) (Σ : Scope)
      → Gives (script find predeclared_names ds) nothing Σ m
      → Ordered m × ScopeBelow m.next Σ
