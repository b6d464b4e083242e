-- What lies below a number lies below every greater one. Assumes nothing.
use Rattle.std.proofs.Common.{◌≡◌, ℕ, zero, suc, ◌+◌, ◌<◌, ◌≤◌, true, cond, ◌&&◌, ltb, List, [], ◌∷◌, length, Some, None, Option, refl, arith}
use Rattle.flows.specs.declared.flow.Flow.{Flow}
use Rattle.flows.specs.declared.flow.Rule.{Rule}
use Rattle.flows.specs.declared.flow.Rule.TheVariants.{Operator, Name}
use Rattle.flows.specs.Flows.{known, knows, inside}
use Rattle.std.proofs.ByRecursion.{All-append, All-weaker}
use Rattle.std.proofs.lemmas.Bool.{and_parts, and_from, ltb-true, lt-ltb, cond_both}
use Rattle.std.specs.List.{AllByRecursion}
use Rattle.std.specs.Str.{bytes_eq}
use Rattle.rules.specs.Making.{Levels, flow, move, both_ways, into}
use Rattle.rules.specs.Marks.{name_flow, group_flows, mark_flows}
use Rattle.rules.specs.Numbering.{Below, SenseBelow, ScopeBelow}
use Rattle.rules.specs.Calls.{Operand, value_of}
use Rattle.rules.specs.Scopes.{Sense, a_value, predeclared, function, Scope, or_else, latest}

abbrev pub Inside : ℕ → Flow → Type 0
Inside n f = inside n f ≡ true

module _ (n k : ℕ) (l : n ≤ k) where
  known_more : (x : Option ℕ) → known n x ≡ true → known k x ≡ true
  known_more None h = refl
  known_more (Some v) h = lt-ltb v k (omega (arith, ltb-true v n h))

  knows_more : (r : Rule) → knows n r ≡ true → knows k r ≡ true
  knows_more (Operator o x y) h =
      let p = and_parts (known n x) (known n y) h in
      and_from (known k x) (known k y) (known_more x p.0) (known_more y p.1)
  knows_more (Name m) h = refl

  pub inside_more : (f : Flow) → Inside n f → Inside k f
  inside_more f h =
      let p = and_parts (ltb f.target n) (knows n f.rule) h in
      and_from (ltb f.target k) (knows k f.rule) (lt-ltb f.target k (omega (arith, ltb-true f.target n p.0))) (knows_more f.rule p.1)

  pub types_more : (ts : List Levels) → AllByRecursion (Below n) ts → AllByRecursion (Below k) ts
  types_more ts h = All-weaker (Below n) (Below k) (λ t b. omega arith) ts h

  sense_more : (s : Sense) → SenseBelow n s → SenseBelow k s
  sense_more (a_value t) h = omega arith
  sense_more (predeclared op c) h = tt
  sense_more (function ps t) h = (types_more ps h.0, omega (arith, h.1))

  pub scope_more : (Σ : Scope) → ScopeBelow n Σ → ScopeBelow k Σ
  scope_more Σ h = All-weaker (λ b. SenseBelow n b.sense) (λ b. SenseBelow k b.sense) (λ b p. sense_more b.sense p) Σ h

  pub operands_more : (args : List Operand) → AllByRecursion (λ a. Below n a.levels) args → AllByRecursion (λ a. Below k a.levels) args
  operands_more args h = All-weaker (λ a. Below n a.levels) (λ a. Below k a.levels) (λ a b. omega arith) args h

module _ (n : ℕ) where
  -- a flow of an operator, of a name
  pub operator_inside : (o : ℕ) (x y : Option ℕ) (t : ℕ) → known n x ≡ true → known n y ≡ true → t < n → Inside n (flow (Operator o x y) t)
  operator_inside o x y t p q l = and_from (ltb t n) (known n x && known n y) (lt-ltb t n l) (and_from (known n x) (known n y) p q)

  move_inside : (s t : ℕ) → s < n → t < n → Inside n (move s t)
  move_inside s t l k = operator_inside 0 (Some s) None t (lt-ltb s n l) refl k

  both_inside : (s t d : ℕ) → s + d < n → t + d < n → AllByRecursion (Inside n) (both_ways s t d)
  both_inside s t zero l k = tt
  both_inside s t (suc d) l k =
      All-append (Inside n) (both_ways s t d) _ (both_inside s t d (omega arith) (omega arith))
      (move_inside (s + (d + 1)) (t + (d + 1)) (omega arith) (omega arith), (move_inside (t + (d + 1)) (s + (d + 1)) (omega arith) (omega arith), tt))

  pub into_inside : (s t : Levels) → Below n s → t.first + s.depth < n → AllByRecursion (Inside n) (into s t)
  into_inside s t l k = (move_inside s.first t.first (omega arith) (omega arith), both_inside s.first t.first s.depth l k)

  module _ (find : List ℕ → Option ℕ) where
    name_inside : (found : Option ℕ) (t : ℕ) → t < n → AllByRecursion (Inside n) (name_flow find found t)
    name_inside None t l = tt
    name_inside (Some k) t l = (and_from (ltb t n) true (lt-ltb t n l) refl, tt)

    group_inside : (names : List (List ℕ)) (t : ℕ) → t < n → AllByRecursion (Inside n) (group_flows find names t)
    group_inside [] t l = tt
    group_inside (name ∷ names) t l = All-append (Inside n) (name_flow find (find name) t) _ (name_inside (find name) t l) (group_inside names t l)

    pub mark_inside : (groups : List (List (List ℕ))) (t : ℕ) → t + length groups ≤ n → AllByRecursion (Inside n) (mark_flows find groups t)
    mark_inside [] t l = tt
    mark_inside (group ∷ groups) t l = All-append (Inside n) (group_flows find group t) _ (group_inside group t (omega arith)) (mark_inside groups (t + 1) (omega arith))

  pub value_known : (args : List Operand) (i : ℕ) → AllByRecursion (λ a. Below n a.levels) args → known n (value_of args i) ≡ true
  value_known [] i h = refl
  value_known (a ∷ args) zero h = lt-ltb a.levels.first n (omega (arith, h.0))
  value_known (a ∷ args) (suc i) h = value_known args i h.1

  abbrev pub FoundBelow : Option Sense → Type 0
  FoundBelow None = Unit {0}
  FoundBelow (Some s) = SenseBelow n s

  or_else_below : (x y : Option Sense) → FoundBelow x → FoundBelow y → FoundBelow (or_else x y)
  or_else_below None y p q = q
  or_else_below (Some s) y p q = p

  pub latest_below : (name : List ℕ) (Σ : Scope) → ScopeBelow n Σ → FoundBelow (latest name Σ)
  latest_below name [] h = tt
  latest_below name (b ∷ later) h =
      or_else_below (latest name later) (cond (bytes_eq b.name name) (Some b.sense) None) (latest_below name later h.1)
      (cond_both (bytes_eq b.name name) (Some b.sense) None FoundBelow (λ _. h.0) (λ _. tt))
