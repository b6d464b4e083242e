-- A walk only adds to what was made. Assumes nothing.
use Rattle.std.proofs.Common.{ℕ, List, [], ◌∷◌, ◌++◌, Option}
use Rattle.syntax.specs.declared.tree.Ty.{Ty}
use Rattle.syntax.specs.Trees.{Text, Expr, Literal, Variable, Group, Assign, Let, Bounded, Ref, Read, Call, Arith, If, Arguments, Last, More, Bindings, Final, Then, Parameter, Parameters, Sole, And, Declaration, Val, Fun}
use Rattle.rules.specs.Making.{Levels}
use Rattle.rules.specs.Scopes.{Scope, latest}
use Rattle.rules.specs.Calls.{Operand}
use Rattle.rules.specs.Binders.{Typed, valued, created, parameter, parameters}
use Rattle.rules.specs.Rules.{infers, arguments, locals, declared_by, script}
use Rattle.rules.specs.Staying.{Staying}
use Rattle.rules.proofs.Grown.{Grows, then_grows, give_grows, demand_grows, fresh_grows, makes_grows, notes_grows, marked_grows, literal_grows, identifier_grows, cell_grows, reached_grows, arithmetic_grows, branches_grows, assigned_grows, limited_grows, called_grows, returned_grows}

module _ (find : List ℕ → Option ℕ) where
  pub valued_grows : (x : Text) (mark : Option Text) (a : Levels) → Grows (valued find x mark a)
  valued_grows x mark a =
      then_grows _ (fresh_grows _) (λ t. then_grows _ (makes_grows _) (λ _. then_grows _ (notes_grows _) (λ _. then_grows _ (marked_grows find mark t) (λ _. give_grows _))))

  pub created_grows : (ty : Ty) (end : ℕ) (mark : Option Text) → Grows (created find ty end mark)
  created_grows ty end mark = then_grows _ (fresh_grows _) (λ t. then_grows _ (notes_grows _) (λ _. then_grows _ (marked_grows find mark t) (λ _. give_grows t)))

  parameter_grows : (earlier : List Typed) (p : Parameter) → Grows (parameter find earlier p)
  parameter_grows earlier p = then_grows _ (demand_grows _ _) (λ _. then_grows _ (created_grows p.ty _ p.mark) (λ t. give_grows _))

  pub parameters_grows : (earlier : List Typed) (ps : Parameters) → Grows (parameters find earlier ps)
  parameters_grows earlier (Sole p) = parameter_grows earlier p
  parameters_grows earlier (And p ps) = then_grows _ (parameter_grows earlier p) (λ ts. parameters_grows ts ps)

  mutual
    pub infers_grows : (Σ : Scope) (e : Expr) → Grows (infers find Σ e)
    infers_grows Σ (Literal x) = literal_grows
    infers_grows Σ (Variable x) = identifier_grows x (latest x.bytes Σ)
    infers_grows Σ (Group at e) = infers_grows Σ e
    infers_grows Σ (Assign at p e f) =
        then_grows _ (infers_grows Σ p) (λ t. then_grows _ (infers_grows Σ e) (λ u. then_grows _ (infers_grows Σ f) (λ v. assigned_grows _ t _ u v)))
    infers_grows Σ (Let at vals e) = then_grows _ (locals_grows Σ vals) (λ new. infers_grows (Σ ++ new) e)
    infers_grows Σ (Bounded a k) = then_grows _ (infers_grows Σ a) (λ t. limited_grows k t (find k.bytes))
    infers_grows Σ (Ref at a) = then_grows _ (infers_grows Σ a) (λ t. cell_grows at t)
    infers_grows Σ (Read at a) = then_grows _ (infers_grows Σ a) (λ t. reached_grows _ t)
    infers_grows Σ (Call f args) = then_grows _ (arguments_grows Σ [] args) (λ ts. called_grows f ts (latest f.bytes Σ))
    infers_grows Σ (Arith a at o b) = then_grows _ (infers_grows Σ a) (λ t. then_grows _ (infers_grows Σ b) (λ u. arithmetic_grows _ t _ u))
    infers_grows Σ (If at a b c d) =
        then_grows _ (infers_grows Σ a) (λ t. then_grows _ (infers_grows Σ b) (λ u. then_grows _ (infers_grows Σ c) (λ v. then_grows _ (infers_grows Σ d) (λ w. branches_grows _ t _ u v _ w))))

    pub arguments_grows : (Σ : Scope) (earlier : List Operand) (args : Arguments) → Grows (arguments find Σ earlier args)
    arguments_grows Σ earlier (Last e) = then_grows _ (infers_grows Σ e) (λ t. give_grows _)
    arguments_grows Σ earlier (More e more) = then_grows _ (infers_grows Σ e) (λ t. arguments_grows Σ _ more)

    pub locals_grows : (Σ : Scope) (vals : Bindings) → Grows (locals find Σ vals)
    locals_grows Σ (Final x mark e) = then_grows _ (infers_grows Σ e) (λ t. then_grows _ (valued_grows x mark t) (λ new. give_grows _))
    locals_grows Σ (Then x mark e more) =
        then_grows _ (infers_grows Σ e) (λ t. then_grows _ (valued_grows x mark t) (λ new. then_grows _ (locals_grows (Σ ++ new ∷ []) more) (λ later. give_grows _)))

  pub declared_grows : (Σ : Scope) (d : Declaration) → Grows (declared_by find Σ d)
  declared_grows Σ (Val x mark e) = then_grows _ (infers_grows Σ e) (λ t. then_grows _ (valued_grows x mark t) (λ new. give_grows _))
  declared_grows Σ (Fun f ps ty mark e) =
      then_grows _ (parameters_grows [] ps) (λ ts. then_grows _ (created_grows ty _ mark) (λ t. then_grows _ (infers_grows _ e) (λ u. then_grows _ (returned_grows _ u t) (λ _. give_grows _))))

  pub script_grows : (Σ : Scope) (ds : List Declaration) → Grows (script find Σ ds)
  script_grows Σ [] = give_grows Σ
  script_grows Σ (d ∷ ds) = then_grows _ (declared_grows Σ d) (λ new. script_grows (Σ ++ new) ds)

pub all_stay : Staying
all_stay = record {
  expression = λ find Σ e. (infers_grows find Σ e).more;
  call = λ find Σ earlier args. (arguments_grows find Σ earlier args).more;
  lets = λ find Σ vals. (locals_grows find Σ vals).more;
  declaration = λ find Σ d. (declared_grows find Σ d).more;
  declarations = λ find Σ ds. (script_grows find Σ ds).more;
}
