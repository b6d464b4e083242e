-- A run keeps its values at or below every solution, and each flow that does not wait met. Assumes nothing.
use Rattle.std.proofs.Common.{◌≡◌, ℕ, ◌<◌, true, false, List, [], ◌∷◌, ◌++◌, length, Some, None, Option, sym, refl, ◌∙◌, subst, ⊎_elim}
use Rattle.std.proofs.lemmas.Bool.{cases_eq, or_parts}
use Rattle.kinds.specs.declared.kind.Kind.{Ghosts as Kind}
use Rattle.kinds.specs.Lawful.{Lawful}
use Rattle.flows.specs.declared.flow.Rule.{Rule}
use Rattle.flows.specs.declared.flow.Rule.TheVariants.{Operator, Name}
use Rattle.flows.specs.declared.flow.Flow.{Flow}
use Rattle.flows.specs.Flows.{held, operand, result, met, flow, Meets, Under, Least}
use Rattle.flows.specs.Queues.{waits}
use Rattle.flows.specs.Runs.{woken, applied, Run, begins, passes, rises}
use Rattle.flows.proofs.Queues.{waits_append, waits_other, not_woken}
use Rattle.flows.proofs.Applied.{result_same, applied_target, applied_other, applied_each, Fits, fits_first, fits_run}

module _ {K : Type 0} (kind : Kind K) (flows : List Flow) where
  -- each flow that does not wait is met, and no solution is below the values
  pub record Sound (vs : List K) (q : List ℕ) : Type 0 where
    pub settled : (i : ℕ) → i < length flows → waits i q ≡ false → met kind (held kind vs) (flow flows i) ≡ true
    pub lowest : (a : ℕ → K) → Meets kind flows a → Under kind (held kind vs) a

  sound_passes : (vs : List K) (i : ℕ) (q : List ℕ) → Sound vs (i ∷ q) → met kind (held kind vs) (flow flows i) ≡ true → Sound vs q
  sound_passes vs i q s m = record {
    settled = λ j h none. ⊎_elim (λ same. subst (λ k. met kind (held kind vs) (flow flows k) ≡ true) (sym same) m) (λ ne. s.settled j h (waits_other j i q ne none)) (cases_eq j i);
    lowest = s.lowest;
  }

  -- where nothing waits, the values are the least solution
  pub sound_least : (vs : List K) → Sound vs [] → Least kind flows (held kind vs)
  sound_least vs s = record { meets = λ i h. s.settled i h refl; lowest = s.lowest }

module _ {K : Type 0} (kind : Kind K) (laws : Lawful kind) where
  -- a flow brings more where an assignment is higher
  operand_grows : (a b : ℕ → K) → Under kind a b → (o : Option ℕ) → kind.below (operand kind a o) (operand kind b o) ≡ true
  operand_grows a b under None = laws.order.reflexive _
  operand_grows a b under (Some u) = under u

  pub result_grows : (a b : ℕ → K) → Under kind a b → (r : Rule) → kind.below (result kind a r) (result kind b r) ≡ true
  result_grows a b under (Operator o x y) = laws.operators.monotone o _ _ _ _ (operand_grows a b under x) (operand_grows a b under y)
  result_grows a b under (Name n) = laws.order.reflexive _

  -- applying a flow lowers no value, and leaves the flow's target at or above what it brought
  pub applied_grows : (f : Flow) (vs : List K) → f.target < length vs → Under kind (held kind vs) (held kind (applied kind f vs))
  applied_grows f vs h =
      applied_each kind (λ u x. kind.below (held kind vs u) x ≡ true) f vs h (laws.order.join_left _ _) (λ u ne. laws.order.reflexive _)

  applied_brings : (f : Flow) (vs : List K) → f.target < length vs → kind.below (result kind (held kind vs) f.rule) (held kind (applied kind f vs) f.target) ≡ true
  applied_brings f vs h =
      subst (λ x. kind.below (result kind (held kind vs) f.rule) x ≡ true) (sym (applied_target kind f vs h)) (laws.order.join_right _ _)

  module _ (flows : List Flow) where
    -- after a rise, a flow that does not wait is met: it does not read the target, so it brings what it brought
    rises_settled : (vs : List K) (i : ℕ) (q : List ℕ) → Fits kind flows vs (i ∷ q) → Sound kind flows vs (i ∷ q) → (j : ℕ) → j < length flows
        → waits j (q ++ woken flows (flow flows i).target q (length flows)) ≡ false → met kind (held kind (applied kind (flow flows i) vs)) (flow flows j) ≡ true
    rises_settled vs i q fits s j h none =
        let f = flow flows i in
        let inside = (fits_first kind flows vs i q fits).1 in
        let new = applied kind f vs in
        let more = woken flows f.target q (length flows) in
        let parts = or_parts (waits j q) (waits j more) (sym (waits_append j q more) ∙ none) in
        let unread = not_woken flows f.target q (length flows) j h parts.0 parts.1 in
        let brings = result_same kind (held kind vs) (held kind new) f.target (λ u ne. sym (applied_other kind f vs u ne)) (flow flows j).rule unread in
        subst (λ x. kind.below x (held kind new (flow flows j).target) ≡ true) brings
        (⊎_elim
        (λ same. subst (λ k. kind.below (result kind (held kind vs) (flow flows k).rule) (held kind new (flow flows k).target) ≡ true) (sym same) (applied_brings f vs inside))
        (λ ne. laws.order.transitive _ _ _ (s.settled j h (waits_other j i q ne parts.0)) (applied_grows f vs inside (flow flows j).target))
        (cases_eq j i))

    -- and no solution is below the values: the join is the least value above both
    rises_lowest : (vs : List K) (i : ℕ) (q : List ℕ) → Fits kind flows vs (i ∷ q) → Sound kind flows vs (i ∷ q) → (a : ℕ → K) → Meets kind flows a
        → Under kind (held kind (applied kind (flow flows i) vs)) a
    rises_lowest vs i q fits s a meets =
        let f = flow flows i in
        let known = fits_first kind flows vs i q fits in
        let low = s.lowest a meets in
        applied_each kind (λ u x. kind.below x (a u) ≡ true) f vs known.1
        (laws.order.join_least _ _ _ (low f.target) (laws.order.transitive _ _ _ (result_grows (held kind vs) a low f.rule) (meets i known.0)))
        (λ u ne. low u)

    pub sound_rises : (vs : List K) (i : ℕ) (q : List ℕ) → Fits kind flows vs (i ∷ q) → Sound kind flows vs (i ∷ q)
        → Sound kind flows (applied kind (flow flows i) vs) (q ++ woken flows (flow flows i).target q (length flows))
    sound_rises vs i q fits s = record { settled = rises_settled vs i q fits s; lowest = rises_lowest vs i q fits s }

    pub sound_run : (start : List K) (first : List ℕ) → Fits kind flows start first → Sound kind flows start first → {vs : List K} {q : List ℕ} {n : ℕ} {rs : List ℕ} → Run kind flows start first vs q n rs
        → Sound kind flows vs q
    sound_run start first fits s begins = s
    sound_run start first fits s (passes {values} {i} {queue} run m) = sound_passes kind flows values i queue (sound_run start first fits s run) m
    sound_run start first fits s (rises {values} {i} {queue} run m) =
        sound_rises values i queue (fits_run kind flows start first fits run) (sound_run start first fits s run)
