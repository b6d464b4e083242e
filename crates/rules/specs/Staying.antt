-- Nothing that a part makes is lost. Assumes nothing.
use Rattle.std.specs.Prelude.{◌≡◌, ℕ, ◌≤◌, List, ◌++◌, Ok, Option}
use Rattle.syntax.specs.Trees.{Expr, Arguments, Bindings, Declaration}
use Rattle.rules.specs.Making.{Made, Step}
use Rattle.rules.specs.Scopes.{Scope}
use Rattle.rules.specs.Calls.{Operand}
use Rattle.rules.specs.Rules.{infers, arguments, locals, declared_by, script}

-- from what was made before, a step gives an answer and what is made then
abbrev pub Gives : {X : Type 0} → Step X → Made → X → Made → Type 0
Gives step m x m' = step m ≡ Ok (x, m')

-- a list, and perhaps more behind it
abbrev pub Longer : {X : Type 0} → List X → List X → Type 0
Longer {X} xs ys = (more : List X) × (ys ≡ xs ++ more)

-- all that was made stays
pub record Extends (m m' : Made) : Type 0 where
  pub next : m.next ≤ m'.next
  pub flows : Longer m.flows m'.flows
  pub bounds : Longer m.bounds m'.bounds
  pub binders : Longer m.binders m'.binders

abbrev pub Stays : {X : Type 0} → Step X → Type 0
Stays {X} step = (m m' : Made) (x : X) → Gives step m x m' → Extends m m'

pub record Staying : Type 0 where
  pub expression : (find : List ℕ → Option ℕ) (Σ : Scope) (e : Expr) → Stays (infers find Σ e)
  pub call : (find : List ℕ → Option ℕ) (Σ : Scope) (earlier : List Operand) (args : Arguments) → Stays (arguments find Σ earlier args)
  pub lets : (find : List ℕ → Option ℕ) (Σ : Scope) (vals : Bindings) → Stays (locals find Σ vals)
  pub declaration : (find : List ℕ → Option ℕ) (Σ : Scope) (d : Declaration) → Stays (declared_by find Σ d)
  pub declarations : (find : List ℕ → Option ℕ) (Σ : Scope) (ds : List Declaration) → Stays (script find Σ ds)
