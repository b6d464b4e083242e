-- Where an expression stands in a script, and what its walk gave. Assumes nothing.
use Rattle.std.specs.Prelude.{ℕ, List, ◌∷◌, Option}
use Rattle.syntax.specs.declared.tree.Operator.{Operator}
use Rattle.syntax.specs.declared.tree.Ty.{Ty}
use Rattle.syntax.specs.Trees.{Text, Expr, Group, Assign, Let, Bounded, Ref, Read, Call, Arith, If, Arguments, Last, More, Bindings, Final, Then, Parameters, Declaration, Val, Fun}
use Rattle.rules.specs.Making.{Levels, Made}
use Rattle.rules.specs.Scopes.{Scope}
use Rattle.rules.specs.Rules.{infers}
use Rattle.rules.specs.Staying.{Gives, Extends}

-- x stands in an expression, among arguments, among the declarations of a `let`
mutual
  pub data In (x : Expr) : Expr → Type 0 where
    itself : In x x
    of_group : {at : ℕ} {e : Expr} → In x e → In x (Group at e)
    of_assign_1 : {at : ℕ} {p e f : Expr} → In x p → In x (Assign at p e f)
    of_assign_2 : {at : ℕ} {p e f : Expr} → In x e → In x (Assign at p e f)
    of_assign_3 : {at : ℕ} {p e f : Expr} → In x f → In x (Assign at p e f)
    of_let_1 : {at : ℕ} {vals : Bindings} {e : Expr} → InVals x vals → In x (Let at vals e)
    of_let_2 : {at : ℕ} {vals : Bindings} {e : Expr} → In x e → In x (Let at vals e)
    of_bounded : {a : Expr} {k : Text} → In x a → In x (Bounded a k)
    of_ref : {at : ℕ} {a : Expr} → In x a → In x (Ref at a)
    of_read : {at : ℕ} {a : Expr} → In x a → In x (Read at a)
    of_call : {f : Text} {args : Arguments} → InArgs x args → In x (Call f args)
    of_arith_1 : {at : ℕ} {o : Operator} {a b : Expr} → In x a → In x (Arith a at o b)
    of_arith_2 : {at : ℕ} {o : Operator} {a b : Expr} → In x b → In x (Arith a at o b)
    of_if_1 : {at : ℕ} {a b c d : Expr} → In x a → In x (If at a b c d)
    of_if_2 : {at : ℕ} {a b c d : Expr} → In x b → In x (If at a b c d)
    of_if_3 : {at : ℕ} {a b c d : Expr} → In x c → In x (If at a b c d)
    of_if_4 : {at : ℕ} {a b c d : Expr} → In x d → In x (If at a b c d)

  pub data InArgs (x : Expr) : Arguments → Type 0 where
    of_last : {e : Expr} → In x e → InArgs x (Last e)
    of_more_1 : {e : Expr} {more : Arguments} → In x e → InArgs x (More e more)
    of_more_2 : {e : Expr} {more : Arguments} → InArgs x more → InArgs x (More e more)

  pub data InVals (x : Expr) : Bindings → Type 0 where
    of_final : {y : Text} {mark : Option Text} {e : Expr} → In x e → InVals x (Final y mark e)
    of_then_1 : {y : Text} {mark : Option Text} {e : Expr} {more : Bindings} → In x e → InVals x (Then y mark e more)
    of_then_2 : {y : Text} {mark : Option Text} {e : Expr} {more : Bindings} → InVals x more → InVals x (Then y mark e more)

-- in a declaration, in a script
pub data InDeclaration (x : Expr) : Declaration → Type 0 where
  of_val : {y : Text} {mark : Option Text} {e : Expr} → In x e → InDeclaration x (Val y mark e)
  of_fun : {f : Text} {ps : Parameters} {ty : Ty} {mark : Option Text} {e : Expr} → In x e → InDeclaration x (Fun f ps ty mark e)

pub data InScript (x : Expr) : List Declaration → Type 0 where
  of_first : {d : Declaration} {ds : List Declaration} → InDeclaration x d → InScript x (d ∷ ds)
  of_later : {d : Declaration} {ds : List Declaration} → InScript x ds → InScript x (d ∷ ds)

-- x has been walked, with the type t, and all that was made then stands in m
pub record Walked (find : List ℕ → Option ℕ) (x : Expr) (t : Levels) (m : Made) : Type 0 where
  pub scope : Scope
  pub before : Made
  pub after : Made
  pub gives : Gives (infers find scope x) before t after
  pub stays : Extends after m
