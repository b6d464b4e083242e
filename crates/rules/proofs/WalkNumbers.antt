-- A walk numbers in order. Assumes nothing.
use Rattle.std.proofs.Common.{ℕ, ◌≤◌, List, [], ◌∷◌, ◌++◌, Option, arith}
use Rattle.std.proofs.ByRecursion.{All-append, All-push, All-map, All-weaker}
use Rattle.std.specs.List.{AllByRecursion}
use Rattle.syntax.specs.declared.tree.Ty.{Ty}
use Rattle.syntax.specs.Trees.{Text, Expr, Literal, Variable, Group, Assign, Let, Bounded, Ref, Read, Call, Arith, If, Arguments, Last, More, Bindings, Final, Then, Parameter, Parameters, Sole, And, Declaration, Val, Fun}
use Rattle.rules.specs.Making.{Levels, nothing}
use Rattle.rules.specs.Numbering.{Below, SenseBelow, ScopeBelow, Numbered}
use Rattle.rules.specs.Calls.{Operand}
use Rattle.rules.specs.Binders.{Typed, types_of, values_of, valued, created, parameter, parameters}
use Rattle.rules.specs.Rules.{operand, infers, arguments, locals, declared_by, script}
use Rattle.rules.specs.Scopes.{a_value, Binding, bind, Scope, latest, predeclared_names}
use Rattle.rules.proofs.Lower.{scope_more, operands_more, latest_below}
use Rattle.rules.proofs.Ordering.{neat_ordered, ordered_neat, Numbers, then_numbers, give_numbers, demand_numbers, fresh_numbers, makes_numbers, notes_numbers}
use Rattle.rules.proofs.PartNumbers.{literal_numbers, identifier_numbers, cell_numbers, reached_numbers, arithmetic_numbers, branches_numbers, assigned_numbers, limited_numbers, called_numbers, returned_numbers, marked_numbers}
use Rattle.rules.proofs.Lower.{into_inside}

abbrev BindingBelow : ℕ → Binding → Type 0
BindingBelow k b = SenseBelow k b.sense

abbrev OperandsBelow : ℕ → List Operand → Type 0
OperandsBelow k args = AllByRecursion (λ a. Below k a.levels) args

abbrev TypedBelow : ℕ → List Typed → Type 0
TypedBelow k ps = AllByRecursion (λ p. Below k p.levels) ps

typed_more : (n k : ℕ) → n ≤ k → (ps : List Typed) → TypedBelow n ps → TypedBelow k ps
typed_more n k l ps h = All-weaker (λ p. Below n p.levels) (λ p. Below k p.levels) (λ p b. omega arith) ps h

types_below : (n : ℕ) (ps : List Typed) → TypedBelow n ps → AllByRecursion (Below n) (types_of ps)
types_below n ps h = All-map (Below n) (λ p. p.levels) ps h

values_below : (n : ℕ) (ps : List Typed) → TypedBelow n ps → ScopeBelow n (values_of ps)
values_below n ps h = All-map (λ b. SenseBelow n b.sense) (λ p. bind p.name (a_value p.levels)) ps h

module _ (find : List ℕ → Option ℕ) where
  valued_numbers : (n : ℕ) (x : Text) (mark : Option Text) (a : Levels) → Below n a → Numbers BindingBelow n (valued find x mark a)
  valued_numbers n x mark a b =
      then_numbers _ (fresh_numbers n a.depth) (λ k t l p. then_numbers _ (makes_numbers k _ (into_inside k a t (omega arith) (omega (arith, p.0, p.1)))) (λ j _ u _.
      then_numbers _ (notes_numbers j _ (omega (arith, p.0))) (λ i _ v _. then_numbers _ (marked_numbers i find mark t (omega (arith, p.0))) (λ h _ w _.
      give_numbers BindingBelow h _ (λ g y. omega (arith, p.0))))))

  created_numbers : (n : ℕ) (ty : Ty) (end : ℕ) (mark : Option Text) → Numbers Below n (created find ty end mark)
  created_numbers n ty end mark =
      then_numbers _ (fresh_numbers n ty.depth) (λ k t l p. then_numbers _ (notes_numbers k _ p.0) (λ j _ u _.
      then_numbers _ (marked_numbers j find mark t (omega (arith, p.0))) (λ i _ v _. give_numbers Below i t (λ g y. omega (arith, p.0)))))

  parameter_numbers : (n : ℕ) (earlier : List Typed) (p : Parameter) → TypedBelow n earlier → Numbers TypedBelow n (parameter find earlier p)
  parameter_numbers n earlier p h =
      then_numbers _ (demand_numbers n _ _) (λ k _ l _. then_numbers _ (created_numbers k p.ty _ p.mark) (λ j t u b.
      give_numbers TypedBelow j _ (λ i v. All-push (λ p. Below i p.levels) earlier _ (typed_more n i (omega arith) earlier h) (omega arith))))

  parameters_numbers : (n : ℕ) (earlier : List Typed) (ps : Parameters) → TypedBelow n earlier → Numbers TypedBelow n (parameters find earlier ps)
  parameters_numbers n earlier (Sole p) h = parameter_numbers n earlier p h
  parameters_numbers n earlier (And p ps) h = then_numbers _ (parameter_numbers n earlier p h) (λ k ts l b. parameters_numbers k ts ps b)

  mutual
    infers_numbers : (n : ℕ) (Σ : Scope) (e : Expr) → ScopeBelow n Σ → Numbers Below n (infers find Σ e)
    infers_numbers n Σ (Literal x) h = literal_numbers n
    infers_numbers n Σ (Variable x) h = identifier_numbers n x (latest x.bytes Σ) (latest_below n x.bytes Σ h)
    infers_numbers n Σ (Group at e) h = infers_numbers n Σ e h
    infers_numbers n Σ (Assign at p e f) h =
        then_numbers _ (infers_numbers n Σ p h) (λ k t l a. then_numbers _ (infers_numbers k Σ e (scope_more n k l Σ h)) (λ j u m b.
        then_numbers _ (infers_numbers j Σ f (scope_more n j (omega arith) Σ h)) (λ i v o c. assigned_numbers i _ t _ u v (omega arith) (omega arith) c)))
    infers_numbers n Σ (Let at vals e) h =
        then_numbers _ (locals_numbers n Σ vals h) (λ k new l b. infers_numbers k (Σ ++ new) e (All-append (BindingBelow k) Σ new (scope_more n k l Σ h) b))
    infers_numbers n Σ (Bounded a x) h = then_numbers _ (infers_numbers n Σ a h) (λ k t l b. limited_numbers k x t (find x.bytes) b)
    infers_numbers n Σ (Ref at a) h = then_numbers _ (infers_numbers n Σ a h) (λ k t l b. cell_numbers k at t b)
    infers_numbers n Σ (Read at a) h = then_numbers _ (infers_numbers n Σ a h) (λ k t l b. reached_numbers k _ t b)
    infers_numbers n Σ (Call f args) h =
        then_numbers _ (arguments_numbers n Σ [] args h tt) (λ k ts l b. called_numbers k f ts (latest f.bytes Σ) b (latest_below k f.bytes Σ (scope_more n k l Σ h)))
    infers_numbers n Σ (Arith a at o b) h =
        then_numbers _ (infers_numbers n Σ a h) (λ k t l p. then_numbers _ (infers_numbers k Σ b (scope_more n k l Σ h)) (λ j u m q. arithmetic_numbers j _ t _ u (omega arith) q))
    infers_numbers n Σ (If at a b c d) h =
        then_numbers _ (infers_numbers n Σ a h) (λ k t l p. then_numbers _ (infers_numbers k Σ b (scope_more n k l Σ h)) (λ j u m q.
        then_numbers _ (infers_numbers j Σ c (scope_more n j (omega arith) Σ h)) (λ i v o r. then_numbers _ (infers_numbers i Σ d (scope_more n i (omega arith) Σ h)) (λ g w x s.
        branches_numbers g _ t _ u v _ w (omega arith) s))))

    arguments_numbers : (n : ℕ) (Σ : Scope) (earlier : List Operand) (args : Arguments) → ScopeBelow n Σ → OperandsBelow n earlier → Numbers OperandsBelow n (arguments find Σ earlier args)
    arguments_numbers n Σ earlier (Last e) h p =
        then_numbers _ (infers_numbers n Σ e h) (λ k t l b. give_numbers OperandsBelow k _ (λ j u. All-push (λ a. Below j a.levels) earlier (operand e t) (operands_more n j (omega arith) earlier p) (omega arith)))
    arguments_numbers n Σ earlier (More e more) h p =
        then_numbers _ (infers_numbers n Σ e h) (λ k t l b.
        arguments_numbers k Σ (earlier ++ operand e t ∷ []) more (scope_more n k l Σ h) (All-push (λ a. Below k a.levels) earlier (operand e t) (operands_more n k l earlier p) b))

    locals_numbers : (n : ℕ) (Σ : Scope) (vals : Bindings) → ScopeBelow n Σ → Numbers ScopeBelow n (locals find Σ vals)
    locals_numbers n Σ (Final x mark e) h =
        then_numbers _ (infers_numbers n Σ e h) (λ k t l b. then_numbers _ (valued_numbers k x mark t b) (λ j new m c. give_numbers ScopeBelow j (new ∷ []) (λ i o. scope_more j i o (new ∷ []) (c, tt))))
    locals_numbers n Σ (Then x mark e more) h =
        then_numbers _ (infers_numbers n Σ e h) (λ k t l b. then_numbers _ (valued_numbers k x mark t b) (λ j new m c.
        then_numbers _ (locals_numbers j (Σ ++ new ∷ []) more (All-push (BindingBelow j) Σ new (scope_more n j (omega arith) Σ h) c)) (λ i later o d.
        give_numbers ScopeBelow i (new ∷ later) (λ g y. scope_more i g y (new ∷ later) ((scope_more j i o (new ∷ []) (c, tt)).0, d)))))

  declared_numbers : (n : ℕ) (Σ : Scope) (d : Declaration) → ScopeBelow n Σ → Numbers ScopeBelow n (declared_by find Σ d)
  declared_numbers n Σ (Val x mark e) h =
      then_numbers _ (infers_numbers n Σ e h) (λ k t l b. then_numbers _ (valued_numbers k x mark t b) (λ j new m c. give_numbers ScopeBelow j (new ∷ []) (λ i o. scope_more j i o (new ∷ []) (c, tt))))
  declared_numbers n Σ (Fun f ps ty mark e) h =
      then_numbers _ (parameters_numbers n [] ps tt) (λ k ts l b. then_numbers _ (created_numbers k ty _ mark) (λ j t m c.
      let typed = typed_more k j m ts b in
      then_numbers _ (infers_numbers j _ e (All-append (BindingBelow j) Σ _ (scope_more n j (omega arith) Σ h) ((types_below j ts typed, c), values_below j ts typed))) (λ i u o d.
      then_numbers _ (returned_numbers i _ u t d (omega arith)) (λ g _ y _.
      give_numbers ScopeBelow g _ (λ x z. ((types_below x ts (typed_more j x (omega arith) ts typed), omega arith), tt))))))

  script_numbers : (n : ℕ) (Σ : Scope) (ds : List Declaration) → ScopeBelow n Σ → Numbers ScopeBelow n (script find Σ ds)
  script_numbers n Σ [] h = give_numbers ScopeBelow n Σ (λ k l. scope_more n k l Σ h)
  script_numbers n Σ (d ∷ ds) h = then_numbers _ (declared_numbers n Σ d h) (λ k new l b. script_numbers k (Σ ++ new) ds (All-append (BindingBelow k) Σ new (scope_more n k l Σ h) b))

pub all_numbered : Numbered
all_numbered = record {
  expression = λ find Σ e m m' t h low ordered.
      let d = (infers_numbers find m.next Σ e low).after m m' t h (omega arith) (ordered_neat m ordered) in
      (neat_ordered m' d.1, d.2);
  call = λ find Σ args m m' operands h low ordered.
      let d = (arguments_numbers find m.next Σ [] args low tt).after m m' operands h (omega arith) (ordered_neat m ordered) in
      (neat_ordered m' d.1, d.2);
  lets = λ find Σ vals m m' new h low ordered.
      let d = (locals_numbers find m.next Σ vals low).after m m' new h (omega arith) (ordered_neat m ordered) in
      (neat_ordered m' d.1, All-append (BindingBelow m'.next) Σ new (scope_more m.next m'.next d.0 Σ low) d.2);
  declaration = λ find Σ d m m' new h low ordered.
      let d = (declared_numbers find m.next Σ d low).after m m' new h (omega arith) (ordered_neat m ordered) in
      (neat_ordered m' d.1, All-append (BindingBelow m'.next) Σ new (scope_more m.next m'.next d.0 Σ low) d.2);
  declarations = λ find ds m Σ h.
      let d = (script_numbers find 0 predeclared_names ds (tt, (tt, (tt, (tt, tt))))).after nothing m Σ h (omega arith) (record { flows = tt; bounds = tt; binders = tt }) in
      (neat_ordered m d.1, d.2);
}
