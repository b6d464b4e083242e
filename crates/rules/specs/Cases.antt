-- Declarations that the rules refuse, with the place and the order of checks. Assumes nothing.
use Rattle.std.specs.Prelude.{◌≡◌, ℕ, List, [], ◌∷◌, Some, None, Err, codes}
use Prim.Native.String.{String}
use Rattle.refusals.specs.declared.refusal.Refusal.{Refusal}
use Rattle.refusals.specs.declared.refusal.Refusal.TheVariants.{NotInForce, Unfit}
use Rattle.syntax.specs.declared.tree.Ty.{Ty}
use Rattle.syntax.specs.Trees.{Text, Expr, Literal, Variable, Assign, Bounded, Ref, Read, Call, If, Last, More, Parameter, Parameters, Sole, And, Declaration, Val, Fun}
use Rattle.rules.specs.Making.{nothing}
use Rattle.rules.specs.Scopes.{predeclared_names}
use Rattle.rules.specs.Rules.{script}
use Rattle.rules.specs.Example.{find}

-- the last of these declarations is refused so; the names in marks are checked and entered
abbrev Refuses : List Declaration → Refusal → Type 0
Refuses ds e = script find predeclared_names ds nothing ≡ Err e

abbrev word : String → ℕ → Text
word s place = record { place = place; bytes = codes s }

abbrev name : String → ℕ → Expr
name x place = Variable (word x place)

-- the literal 1
abbrev one : ℕ → Expr
one place = Literal (word "1" place)

abbrev val : Expr → List Declaration
val e = Val (word "x" 4) None e ∷ []

abbrev marked : String → List Declaration
marked mark = Val (word "x" 4) (Some (word mark 6)) (one 30) ∷ []

abbrev ty : ℕ → Ty
ty depth = record { depth = depth; last = 0 }

abbrev par : String → ℕ → ℕ → Parameter
par x place depth = record { name = word x place; mark = None; ty = ty depth }

abbrev fun : Parameters → ℕ → Expr → Declaration
fun ps depth e = Fun (word "f" 4) ps (ty depth) None e

-- fun f(r : int ref, x : int) : int ref = r
abbrev given : Declaration
given = fun (And (par "r" 6 1) (Sole (par "x" 19 0))) 1 (name "r" 40)

pub record Cases : Type 0 where
  pub not_in_force : Refuses (val (name "y" 8)) (NotInForce 8)
  pub function_as_value : Refuses (val (name "field" 8)) (NotInForce 8)
  pub value_called : Refuses (Val (word "y" 4) None (one 8) ∷ val (Call (word "y" 8) (Last (one 10)))) (NotInForce 8)
  pub named_twice : Refuses (fun (And (par "a" 7 0) (Sole (par "a" 17 0))) 0 (one 30) ∷ []) (NotInForce 17)
  pub hidden_by_parameter : Refuses (fun (Sole (par "f" 6 0)) 0 (Call (word "f" 20) (Last (one 22))) ∷ []) (NotInForce 20)
  pub bound_unknown : Refuses (val (Bounded (one 8) (word "foo" 10))) (NotInForce 10)
  pub mark_unknown : Refuses (marked "entered,foo") (NotInForce 6)
  pub names_before_groups : Refuses (marked "foo/") (NotInForce 6)
  pub groups : Refuses (marked "entered/") (Unfit 6)
  pub no_reference : Refuses (val (Read 8 (one 9))) (Unfit 9)
  pub too_deep : Refuses (val (Ref 8 (Ref 12 (Ref 16 (Ref 20 (one 24)))))) (Unfit 8)
  pub arguments_before_name : Refuses (val (Call (word "g" 8) (Last (name "y" 10)))) (NotInForce 10)
  pub name_before_count : Refuses (val (Call (word "g" 8) (More (one 10) (Last (one 12))))) (NotInForce 8)
  pub count_before_depths : Refuses (given ∷ val (Call (word "f" 8) (Last (one 10)))) (Unfit 8)
  pub first_argument : Refuses (given ∷ val (Call (word "f" 8) (More (one 10) (Last (Ref 13 (one 17)))))) (Unfit 10)
  pub second_argument : Refuses (given ∷ val (Call (word "f" 8) (More (Ref 10 (one 14)) (Last (Ref 17 (one 21)))))) (Unfit 17)
  pub body : Refuses (fun (Sole (par "a" 6 0)) 1 (one 30) ∷ []) (Unfit 30)
  pub parts_before_if : Refuses (val (If 8 (Ref 11 (one 15)) (one 19) (name "y" 26) (one 33))) (NotInForce 26)
  pub compared : Refuses (val (If 8 (Ref 11 (one 15)) (one 19) (one 26) (one 33))) (Unfit 11)
  pub else_branch : Refuses (val (If 8 (one 11) (one 15) (one 22) (Ref 29 (one 33)))) (Unfit 29)
  pub parts_before_assignment : Refuses (val (Assign 8 (one 9) (one 14) (name "y" 17))) (NotInForce 17)
  pub assigned_to : Refuses (val (Assign 8 (one 9) (one 14) (one 17))) (Unfit 9)
  pub assigned : Refuses (val (Assign 8 (Ref 9 (one 13)) (Ref 18 (one 22)) (one 25))) (Unfit 18)
