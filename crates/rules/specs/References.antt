-- References by the rules: all names of a reference share what it holds. Assumes nothing.
use Rattle.std.specs.Prelude.{◌≡◌, ℕ, ◌+◌, ◌<◌, ◌≤◌, true, List, ◌++◌, length, Some, Option, slice_index_or}
use Rattle.flows.specs.declared.flow.Flow.{Flow}
use Rattle.flows.specs.Flows.{Meets}
use Rattle.kinds.specs.declared.kind.Kind.{Ghosts as Kind}
use Rattle.syntax.specs.Trees.{Text, Expr, Assign, Declaration}
use Rattle.rules.specs.Making.{Levels, from_1, Made, into}
use Rattle.rules.specs.Scopes.{a_value, function, Binding, bind, Scope}
use Rattle.rules.specs.Parts.{cell, assigned, branches, returned}
use Rattle.rules.specs.Calls.{Operand, called}
use Rattle.rules.specs.Binders.{valued}
use Rattle.rules.specs.Rules.{script}
use Rattle.rules.specs.Positions.{InScript, Walked}
use Rattle.rules.specs.Staying.{Gives, Extends, Staying}

-- some flows stand among others
abbrev pub Among : List Flow → List Flow → Type 0
Among part flows = (before : List Flow) × (after : List Flow) × (flows ≡ before ++ (part ++ after))

-- an assignment has equal values at the levels from 1 on of s and t
abbrev pub Equal : {K : Type 0} → (ℕ → K) → Levels → Levels → Type 0
Equal a s t = (i : ℕ) → 1 ≤ i → i ≤ s.depth → a (s.first + i) ≡ a (t.first + i)

-- s and t share what they refer to: s flows into t, and every assignment that meets the flows has equal values at their levels from 1 on
pub record Shares {K : Type 0} (kind : Kind K) (flows : List Flow) (s t : Levels) : Type 0 where
  pub depth : s.depth ≡ t.depth
  pub among : Among (into s t) flows
  pub equal : (a : ℕ → K) → Meets kind flows a → Equal a s t

-- a chain between two references: they are one, or one flows into the next or the next into it, and so on
pub data Linked (flows : List Flow) : Levels → Levels → Type 0 where
  same : {p : Levels} → Linked flows p p
  onward : {p q r : Levels} → 1 ≤ p.depth → 1 ≤ q.depth → Among (into p q) flows → Linked flows q r → Linked flows p r
  back : {p q r : Levels} → 1 ≤ p.depth → 1 ≤ q.depth → Among (into q p) flows → Linked flows q r → Linked flows p r

-- the value of e, stored through p, is seen through every q that a chain links to p
abbrev pub Seen : {K : Type 0} → Kind K → List Flow → Levels → Levels → Type 0
Seen {K} kind flows e p =
    (q : Levels) → Linked flows p q → (a : ℕ → K) → Meets kind flows a → (kind.below (a e.first) (a (q.first + 1)) ≡ true) × (a (p.first + 1) ≡ a (q.first + 1))

-- of `(p := e; f)`: p and e have been walked, and the value is seen
pub record Stored {K : Type 0} (kind : Kind K) (find : List ℕ → Option ℕ) (p e : Expr) (m : Made) : Type 0 where
  pub target : Levels
  pub source : Levels
  pub p_walked : Walked find p target m
  pub e_walked : Walked find e source m
  pub shares : Shares kind m.flows source (from_1 target)
  pub seen : Seen kind m.flows source target

pub record Shared {K : Type 0} (kind : Kind K) : Type 0 where
  -- s flows into t
  pub flowing : (s t : Levels) (flows : List Flow) → Among (into s t) flows → (a : ℕ → K) → Meets kind flows a → Equal a s t
  -- nothing that a part makes is lost, so what is shared stays shared
  pub staying : Staying
  pub lasting : (s t : Levels) (m m' : Made) → Shares kind m.flows s t → Extends m m' → Shares kind m'.flows s t
  -- `val x = e`: e and x
  pub val : (find : List ℕ → Option ℕ) (x : Text) (mark : Option Text) (e : Levels) (m m' : Made) (new : Binding)
      → Gives (valued find x mark e) m new m'
      → (t : Levels) × (new ≡ bind x.bytes (a_value t)) × Shares kind m'.flows e t
  -- `ref e`: e and what the new cell holds
  pub new_cell : (at : ℕ) (e : Levels) (m m' : Made) (t : Levels)
      → Gives (cell at e) m t m'
      → (t.depth ≡ e.depth + 1) × Shares kind m'.flows e (from_1 t)
  -- the new cell's variables are new, so it has none of e's
  pub fresh_cell : (at : ℕ) (e : Levels) (m m' : Made) (t : Levels)
      → Gives (cell at e) m t m'
      → (i : ℕ)
      → m.next ≤ t.first + i
  pub apart : (at : ℕ) (e : Levels) (m m' : Made) (t : Levels)
      → Gives (cell at e) m t m'
      → e.first + e.depth < m.next
      → (i j : ℕ)
      → j ≤ e.depth
      → t.first + i ≡ e.first + j
      → ⊥
  -- `(p := e; f)`: e and what p refers to
  pub assignment : (pt et : ℕ) (p e f : Levels) (m m' : Made) (t : Levels)
      → Gives (assigned pt p et e f) m t m'
      → (1 ≤ p.depth) × Shares kind m'.flows e (from_1 p)
  -- a call of a function: each argument and its parameter
  pub call : (f : Text) (args : List Operand) (ps : List Levels) (result : Levels) (m m' : Made) (t : Levels)
      → Gives (called f args (Some (function ps result))) m t m'
      → (length args ≡ length ps) × ((i : ℕ) (a : Operand) (p : Levels) → i < length args → Shares kind m'.flows (slice_index_or args i a).levels (slice_index_or ps i p))
  -- `if`: each branch and the whole
  pub branch : (at bt dt : ℕ) (a b c d : Levels) (m m' : Made) (t : Levels)
      → Gives (branches at a bt b c dt d) m t m'
      → Shares kind m'.flows c t × Shares kind m'.flows d t
  -- `fun`: the body and the result
  pub body : (at : ℕ) (u t : Levels) (m m' : Made)
      → Gives (returned at u t) m tt m'
      → Shares kind m'.flows u t
  -- what flows into what p refers to is stored through p
  pub stored : (e p : Levels) (flows : List Flow) → Among (into e (from_1 p)) flows → Seen kind flows e p
  -- wherever in a script `(p := e; f)` stands, and whatever comes after it
  pub anywhere : (find : List ℕ → Option ℕ) (at : ℕ) (p e f : Expr) (Σ Σ' : Scope) (ds : List Declaration) (m m' : Made)
      → InScript (Assign at p e f) ds
      → Gives (script find Σ ds) m Σ' m'
      → Stored kind find p e m'
