-- Where an expression begins. Assumes nothing.
use Rattle.std.specs.Prelude.{◌≡◌, ℕ, List, ◌∷◌}
use Rattle.tokens.specs.Tokens.{Placed}
use Rattle.syntax.specs.Trees.{Expr, Literal, Variable, Group, Assign, Let, Bounded, Ref, Read, Call, Arith, If}
use Rattle.syntax.specs.Grammar.{Spans}

-- the place of the first token
abbrev pub start : Expr → ℕ
start (Literal x) = x.place
start (Variable x) = x.place
start (Group n e) = n
start (Assign n a b c) = n
start (Let n vals e) = n
start (Bounded e x) = start e
start (Ref n e) = n
start (Read n e) = n
start (Call f args) = f.place
start (Arith a n o b) = start a
start (If n a b c d) = n

-- the first of these tokens stands at p
pub record Fronted (ts : List Placed) (p : ℕ) : Type 0 where
  pub first : Placed
  pub later : List Placed
  pub split : ts ≡ first ∷ later
  pub place : first.place ≡ p

-- It is that of the first of the tokens that the expression stands for.
abbrev pub Begins : Type 0
Begins = (e : Expr) (ts m : List Placed) → Spans e ts m → Fronted ts (start e)
