-- Every part of a script is walked, and what was made then stays. Assumes nothing.
use Rattle.std.proofs.Common.{ℕ, List, [], ◌∷◌, ◌++◌, Option}
use Rattle.syntax.specs.Trees.{Expr, Arguments, Bindings, Declaration}
use Rattle.rules.specs.Making.{Levels, Made, Step, ◌▸◌}
use Rattle.rules.specs.Scopes.{Scope, latest}
use Rattle.rules.specs.Calls.{Operand}
use Rattle.rules.specs.Rules.{infers, arguments, locals, declared_by, script}
use Rattle.rules.specs.Staying.{Gives}
use Rattle.rules.specs.Positions.{In, itself, of_group, of_assign_1, of_assign_2, of_assign_3, of_let_1, of_let_2, of_bounded, of_ref, of_read, of_call, of_arith_1, of_arith_2, of_if_1, of_if_2, of_if_3, of_if_4, InArgs, of_last, of_more_1, of_more_2, InVals, of_final, of_then_1, of_then_2, InDeclaration, of_val, of_fun, InScript, of_first, of_later, Walked}
use Rattle.rules.proofs.Steps.{invert}
use Rattle.rules.proofs.Grown.{Grows, extends_refl, extends_trans, then_grows, give_grows, cell_grows, reached_grows, arithmetic_grows, branches_grows, assigned_grows, limited_grows, called_grows, returned_grows}
use Rattle.rules.proofs.Walked.{valued_grows, infers_grows, arguments_grows, locals_grows, script_grows}

module _ (find : List ℕ → Option ℕ) (x : Expr) where
  -- after a step x has been walked
  pub record Reaches {X : Type 0} (f : Step X) : Type 0 where
    pub always : (m m' : Made) (y : X) → Gives f m y m' → (t : Levels) × Walked find x t m'

  first : {X Y : Type 0} {f : Step X} (g : X → Step Y) → Reaches f → ((y : X) → Grows (g y)) → Reaches (f ▸ g)
  first {f = f} g p q = record {
    always = λ m m' z h.
        let d = invert f g m h in
        let w = p.always m d.1 d.0 d.2 in (
          w.0,
          record {
            scope = w.1.scope;
            before = w.1.before;
            after = w.1.after;
            gives = w.1.gives;
            stays = extends_trans w.1.after d.1 m' w.1.stays ((q d.0).more d.1 m' z d.3);
          },
        );
  }

  next : {X Y : Type 0} (f : Step X) (g : X → Step Y) → ((y : X) → Reaches (g y)) → Reaches (f ▸ g)
  next f g q = record { always = λ m m' z h. let d = invert f g m h in (q d.0).always d.1 m' z d.3 }

module _ (find : List ℕ → Option ℕ) (x : Expr) where
  at_itself : (Σ : Scope) → Reaches find x (infers find Σ x)
  at_itself Σ = record { always = λ m m' t h. (t, record { scope = Σ; before = m; after = m'; gives = h; stays = extends_refl m' }) }

  mutual
    reaches : (Σ : Scope) {e : Expr} → In x e → Reaches find x (infers find Σ e)
    reaches Σ itself = at_itself Σ
    reaches Σ (of_group i) = reaches Σ i
    reaches Σ (of_assign_1 {e = e} {f = f} i) =
        first find x _ (reaches Σ i) (λ t. then_grows _ (infers_grows find Σ e) (λ u. then_grows _ (infers_grows find Σ f) (λ v. assigned_grows _ t _ u v)))
    reaches Σ (of_assign_2 {f = f} i) = next find x _ _ (λ t. first find x _ (reaches Σ i) (λ u. then_grows _ (infers_grows find Σ f) (λ v. assigned_grows _ t _ u v)))
    reaches Σ (of_assign_3 i) = next find x _ _ (λ t. next find x _ _ (λ u. first find x _ (reaches Σ i) (λ v. assigned_grows _ t _ u v)))
    reaches Σ (of_let_1 {e = e} i) = first find x _ (reaches_vals Σ i) (λ new. infers_grows find (Σ ++ new) e)
    reaches Σ (of_let_2 i) = next find x _ _ (λ new. reaches (Σ ++ new) i)
    reaches Σ (of_bounded {k = k} i) = first find x _ (reaches Σ i) (λ t. limited_grows k t (find k.bytes))
    reaches Σ (of_ref {at} i) = first find x _ (reaches Σ i) (λ t. cell_grows at t)
    reaches Σ (of_read i) = first find x _ (reaches Σ i) (λ t. reached_grows _ t)
    reaches Σ (of_call {f} i) = first find x _ (reaches_args Σ [] i) (λ ts. called_grows f ts (latest f.bytes Σ))
    reaches Σ (of_arith_1 {b = b} i) = first find x _ (reaches Σ i) (λ t. then_grows _ (infers_grows find Σ b) (λ u. arithmetic_grows _ t _ u))
    reaches Σ (of_arith_2 i) = next find x _ _ (λ t. first find x _ (reaches Σ i) (λ u. arithmetic_grows _ t _ u))
    reaches Σ (of_if_1 {b = b} {c = c} {d = d} i) =
        first find x _ (reaches Σ i) (λ t. then_grows _ (infers_grows find Σ b) (λ u. then_grows _ (infers_grows find Σ c) (λ v. then_grows _ (infers_grows find Σ d) (λ w. branches_grows _ t _ u v _ w))))
    reaches Σ (of_if_2 {c = c} {d = d} i) =
        next find x _ _ (λ t. first find x _ (reaches Σ i) (λ u. then_grows _ (infers_grows find Σ c) (λ v. then_grows _ (infers_grows find Σ d) (λ w. branches_grows _ t _ u v _ w))))
    reaches Σ (of_if_3 {d = d} i) =
        next find x _ _ (λ t. next find x _ _ (λ u. first find x _ (reaches Σ i) (λ v. then_grows _ (infers_grows find Σ d) (λ w. branches_grows _ t _ u v _ w))))
    reaches Σ (of_if_4 i) = next find x _ _ (λ t. next find x _ _ (λ u. next find x _ _ (λ v. first find x _ (reaches Σ i) (λ w. branches_grows _ t _ u v _ w))))

    reaches_args : (Σ : Scope) (earlier : List Operand) {args : Arguments} → InArgs x args → Reaches find x (arguments find Σ earlier args)
    reaches_args Σ earlier (of_last i) = first find x _ (reaches Σ i) (λ t. give_grows _)
    reaches_args Σ earlier (of_more_1 {more = more} i) = first find x _ (reaches Σ i) (λ t. arguments_grows find Σ _ more)
    reaches_args Σ earlier (of_more_2 i) = next find x _ _ (λ t. reaches_args Σ _ i)

    reaches_vals : (Σ : Scope) {vals : Bindings} → InVals x vals → Reaches find x (locals find Σ vals)
    reaches_vals Σ (of_final {y} {mark} i) = first find x _ (reaches Σ i) (λ t. then_grows _ (valued_grows find y mark t) (λ new. give_grows _))
    reaches_vals Σ (of_then_1 {y} {mark} {more = more} i) =
        first find x _ (reaches Σ i) (λ t. then_grows _ (valued_grows find y mark t) (λ new. then_grows _ (locals_grows find (Σ ++ new ∷ []) more) (λ later. give_grows _)))
    reaches_vals Σ (of_then_2 i) = next find x _ _ (λ t. next find x _ _ (λ new. first find x _ (reaches_vals (Σ ++ new ∷ []) i) (λ later. give_grows _)))

  declaration_reaches : (Σ : Scope) {d : Declaration} → InDeclaration x d → Reaches find x (declared_by find Σ d)
  declaration_reaches Σ (of_val {y} {mark} i) = first find x _ (reaches Σ i) (λ t. then_grows _ (valued_grows find y mark t) (λ new. give_grows _))
  declaration_reaches Σ (of_fun i) =
      next find x _ _ (λ ts. next find x _ _ (λ t. first find x _ (reaches _ i) (λ u. then_grows _ (returned_grows _ u t) (λ _. give_grows _))))

  pub script_reaches : (Σ : Scope) {ds : List Declaration} → InScript x ds → Reaches find x (script find Σ ds)
  script_reaches Σ (of_first {ds = ds} i) = first find x _ (declaration_reaches Σ i) (λ new. script_grows find (Σ ++ new) ds)
  script_reaches Σ (of_later i) = next find x _ _ (λ new. script_reaches (Σ ++ new) i)
