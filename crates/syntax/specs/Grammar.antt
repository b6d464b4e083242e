-- The grammar: which tokens a tree stands for, a clause for each production. Assumes nothing.
use Rattle.std.specs.Prelude.{◌≡◌, ℕ, zero, suc, ◌<◌, ◌≤◌, List, ◌∷◌, Some, None, Option}
use Rattle.tokens.specs.Tokens.{Tok, word, symbol, literal, identifier, binder, bound, Placed}
use Rattle.tokens.specs.declared.token.Word.TheVariants as kw
use Rattle.tokens.specs.declared.token.Symbol.TheVariants as sg
use Rattle.syntax.specs.declared.tree.Operator.{Operator}
use Rattle.syntax.specs.declared.tree.Operator.TheVariants as op
use Rattle.syntax.specs.declared.tree.Ty.{Ty}
use Rattle.syntax.specs.Trees.{Text, Expr, Literal, Variable, Group, Assign, Let, Bounded, Ref, Read, Call, Arith, If, Arguments, Last, More, Bindings, Final, Then, Parameter, Parameters, Sole, And, Declaration, Val, Fun, count}
use Rattle.syntax.specs.Sorts.{at, After}

abbrev pub sign_of : Operator → Tok
sign_of op.Plus = symbol sg.Plus
sign_of op.Minus = symbol sg.Minus
sign_of op.Times = symbol sg.Star
sign_of op.Div = word kw.Div
sign_of op.Mod = word kw.Mod

-- the grammar's classes of expressions, each within the next: 0 atom, 1 app, 2 term, 3 sum, 4 exp
abbrev pub strength : Operator → ℕ
strength op.Plus = 3
strength op.Minus = 3
strength op.Times = 2
strength op.Div = 2
strength op.Mod = 2

abbrev pub class : Expr → ℕ
class (Literal x) = 0
class (Variable x) = 0
class (Group n e) = 0
class (Assign n a b c) = 0
class (Let n vals e) = 0
class (Bounded e x) = 0
class (Ref n e) = 1
class (Read n e) = 1
class (Call f args) = 1
class (Arith a n o b) = strength o
class (If n a b c d) = 4

abbrev pub Named : Text → List Placed → List Placed → Type 0
Named x ts m = ts ≡ at x.place (identifier x.bytes) ∷ m

-- a binder mark may be absent
abbrev pub Marked : Option Text → List Placed → List Placed → Type 0
Marked None ts m = ts ≡ m
Marked (Some x) ts m = ts ≡ at x.place (binder x.bytes) ∷ m

-- what stands behind `val`: a name, its mark, and `=`
abbrev pub Heads : Text → Option Text → List Placed → List Placed → Type 0
Heads x mark ts m = (i j : List Placed) × (Named x ts i × Marked mark i j × After (symbol sg.Equals) j m)

-- Spans e ts m: the tokens ts are those of e, and then m
abbrev mutual
  pub Spans : Expr → List Placed → List Placed → Type 0
  Spans (Literal x) ts m = ts ≡ at x.place (literal x.bytes) ∷ m
  Spans (Variable x) ts m = Named x ts m
  Spans (Group n e) ts m =
      (i j : List Placed) × ((ts ≡ at n (symbol sg.Open) ∷ i) × Spans e i j × After (symbol sg.Close) j m)
  Spans (Assign n a b c) ts m =
      (i j k l o x : List Placed) × ((ts ≡ at n (symbol sg.Open) ∷ i) × (class a ≤ 3) × Spans a i j × After (symbol sg.Assign) j k × (class b ≤ 3) × Spans b k l × After (symbol sg.Semicolon) l o × Spans c o x × After (symbol sg.Close) x m)
  Spans (Let n vals e) ts m =
      (h i j k l : List Placed) × ((ts ≡ at n (word kw.Let) ∷ h) × After (word kw.Val) h i × Binds vals i j × After (word kw.In) j k × Spans e k l × After (word kw.End) l m)
  Spans (Bounded e x) ts m = (i : List Placed) × ((class e ≤ 0) × Spans e ts i × (i ≡ at x.place (bound x.bytes) ∷ m))
  Spans (Ref n e) ts m = (i : List Placed) × ((ts ≡ at n (word kw.Ref) ∷ i) × (class e ≤ 0) × Spans e i m)
  Spans (Read n e) ts m = (i : List Placed) × ((ts ≡ at n (symbol sg.Bang) ∷ i) × (class e ≤ 0) × Spans e i m)
  Spans (Call f args) ts m =
      (i j k : List Placed) × (Named f ts i × After (symbol sg.Open) i j × Lists args j k × After (symbol sg.Close) k m)
  Spans (Arith a n o b) ts m =
      (i j : List Placed) × ((class a ≤ strength o) × Spans a ts i × (i ≡ at n (sign_of o) ∷ j) × (class b < strength o) × Spans b j m)
  Spans (If n a b c d) ts m =
      (h i j k l o x : List Placed) × ((ts ≡ at n (word kw.If) ∷ h) × (class a ≤ 3) × Spans a h i × After (symbol sg.Less) i j × (class b ≤ 3) × Spans b j k × After (word kw.Then) k l × Spans c l o × After (word kw.Else) o x × Spans d x m)

  -- the arguments, with `,` between them
  pub Lists : Arguments → List Placed → List Placed → Type 0
  Lists (Last e) ts m = Spans e ts m
  Lists (More e more) ts m = (i j : List Placed) × (Spans e ts i × After (symbol sg.Comma) i j × Lists more j m)

  -- the declarations of a `let`, from behind the first `val`
  pub Binds : Bindings → List Placed → List Placed → Type 0
  Binds (Final x mark e) ts m = (i : List Placed) × (Heads x mark ts i × Spans e i m)
  Binds (Then x mark e more) ts m =
      (i j k : List Placed) × (Heads x mark ts i × Spans e i j × After (word kw.Val) j k × Binds more k m)

-- n times `ref`, behind a word at `from`: the last word begins at `last`
abbrev pub Refs : ℕ → (from last : ℕ) → List Placed → List Placed → Type 0
Refs zero from last ts m = (from ≡ last) × (ts ≡ m)
Refs (suc n) from last ts m = (p : ℕ) × ((i : List Placed) × ((ts ≡ at p (word kw.Ref) ∷ i) × Refs n p last i m))

-- `:`, and `int` with at most three times `ref` after it
abbrev pub Typed : Ty → List Placed → List Placed → Type 0
Typed t ts m =
    (p : ℕ) × ((i j : List Placed) × (After (symbol sg.Colon) ts i × (i ≡ at p (word kw.Int) ∷ j) × (t.depth ≤ 3) × Refs t.depth p t.last j m))

abbrev pub Par : Parameter → List Placed → List Placed → Type 0
Par x ts m = (i j : List Placed) × (Named x.name ts i × Marked x.mark i j × Typed x.ty j m)

-- the parameters, with `,` between them
abbrev pub Pars : Parameters → List Placed → List Placed → Type 0
Pars (Sole x) ts m = Par x ts m
Pars (And x more) ts m = (i j : List Placed) × (Par x ts i × After (symbol sg.Comma) i j × Pars more j m)

-- the tokens are those of this declaration, and then m; a function has at most eight parameters
abbrev pub Declares : Declaration → List Placed → List Placed → Type 0
Declares (Val x mark e) ts m = (i j : List Placed) × (After (word kw.Val) ts i × Heads x mark i j × Spans e j m)
Declares (Fun f params t mark e) ts m =
    (h i j k l o x y : List Placed) × (After (word kw.Fun) ts h × Named f h i × After (symbol sg.Open) i j × (count params ≤ 8) × Pars params j k × After (symbol sg.Close) k l × Typed t l o × Marked mark o x × After (symbol sg.Equals) x y × Spans e y m)
