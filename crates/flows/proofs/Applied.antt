-- What applying a flow changes, and what a run keeps of its shape. Assumes nothing.
use Rattle.std.proofs.Common.{◌≡◌, ℕ, ◌<◌, true, false, eqb, List, ◌∷◌, ◌++◌, length, Some, None, Option, sym, refl, ◌∙◌, subst, ⊎_elim, length-set, get_or-set_other, get_or-set_same}
use Rattle.std.proofs.lemmas.Bool.{eqb-false, cases_eq, or_parts, or_right}
use Rattle.kinds.specs.declared.kind.Kind.{Ghosts as Kind}
use Rattle.flows.specs.declared.flow.Rule.{Rule}
use Rattle.flows.specs.declared.flow.Rule.TheVariants.{Operator, Name}
use Rattle.flows.specs.declared.flow.Flow.{Flow}
use Rattle.flows.specs.Flows.{held, operand, result, is, reads, flow, Within}
use Rattle.flows.specs.Queues.{waits}
use Rattle.flows.specs.Runs.{woken, applied, Run, begins, passes, rises}
use Rattle.flows.proofs.Queues.{waits_here, wakened_known}

module _ {K : Type 0} (kind : Kind K) where
  -- a flow brings the same where two assignments agree on what it reads
  operand_same : (a b : ℕ → K) (v : ℕ) → ((u : ℕ) → (u ≡ v → ⊥) → a u ≡ b u) → (o : Option ℕ) → is o v ≡ false → operand kind a o ≡ operand kind b o
  operand_same a b v same None unread = refl
  operand_same a b v same (Some u) unread = same u (eqb-false u v unread)

  pub result_same : (a b : ℕ → K) (v : ℕ) → ((u : ℕ) → (u ≡ v → ⊥) → a u ≡ b u) → (r : Rule) → reads r v ≡ false → result kind a r ≡ result kind b r
  result_same a b v same (Operator o x y) unread =
      let parts = or_parts (is x v) (is y v) unread in
      (λ i. kind.operate o (operand_same a b v same x parts.0 i) (operand_same a b v same y parts.1 i))
  result_same a b v same (Name n) unread = refl

  -- what applying a flow does to each variable
  pub applied_target : (f : Flow) (vs : List K) → f.target < length vs → held kind (applied kind f vs) f.target ≡ kind.join (held kind vs f.target) (result kind (held kind vs) f.rule)
  applied_target f vs h = get_or-set_same vs f.target _ kind.bottom h

  pub applied_other : (f : Flow) (vs : List K) (u : ℕ) → (u ≡ f.target → ⊥) → held kind (applied kind f vs) u ≡ held kind vs u
  applied_other f vs u ne = get_or-set_other vs f.target u _ kind.bottom ne

  -- what holds of the values at the target and elsewhere holds at every variable
  pub applied_each : (P : ℕ → K → Type 0) (f : Flow) (vs : List K) → f.target < length vs → P f.target (kind.join (held kind vs f.target) (result kind (held kind vs) f.rule)) → ((u : ℕ) → (u ≡ f.target → ⊥) → P u (held kind vs u)) → (u : ℕ) → P u (held kind (applied kind f vs) u)
  applied_each P f vs h here other u =
      ⊎_elim
      (λ same. subst (λ k. P k (held kind (applied kind f vs) k)) (sym same) (subst (P f.target) (sym (applied_target f vs h)) here))
      (λ ne. subst (P u) (sym (applied_other f vs u ne)) (other u ne))
      (cases_eq u f.target)

  module _ (flows : List Flow) where
    -- every target is a variable of the list, and only flows wait
    pub record Fits (vs : List K) (q : List ℕ) : Type 0 where
      pub within : Within flows (length vs)
      pub known : (i : ℕ) → waits i q ≡ true → i < length flows

    pub fits_first : (vs : List K) (i : ℕ) (q : List ℕ) → Fits vs (i ∷ q) → (i < length flows) × ((flow flows i).target < length vs)
    fits_first vs i q fits = let h = fits.known i (waits_here i q) in (h, fits.within i h)

    pub fits_passes : (vs : List K) (i : ℕ) (q : List ℕ) → Fits vs (i ∷ q) → Fits vs q
    fits_passes vs i q fits = record { within = fits.within; known = λ j w. fits.known j (or_right (eqb j i) (waits j q) w) }

    pub fits_rises : (vs : List K) (i : ℕ) (q : List ℕ) → Fits vs (i ∷ q) → Fits (applied kind (flow flows i) vs) (q ++ woken flows (flow flows i).target q (length flows))
    fits_rises vs i q fits =
        let t = (flow flows i).target in
        record {
          within = λ j h. subst (λ n. (flow flows j).target < n) (sym (length-set vs t _)) (fits.within j h);
          known = wakened_known flows t q (fits_passes vs i q fits).known;
        }

    pub fits_run : (start : List K) (first : List ℕ) → Fits start first → {vs : List K} {q : List ℕ} {n : ℕ} {rs : List ℕ} → Run kind flows start first vs q n rs → Fits vs q
    fits_run start first fits begins = fits
    fits_run start first fits (passes {values} {i} {queue} run m) = fits_passes values i queue (fits_run start first fits run)
    fits_run start first fits (rises {values} {i} {queue} run m) = fits_rises values i queue (fits_run start first fits run)

    -- a run keeps the number of variables
    pub run_length : (start : List K) (first : List ℕ) → {vs : List K} {q : List ℕ} {n : ℕ} {rs : List ℕ} → Run kind flows start first vs q n rs → length vs ≡ length start
    run_length start first begins = refl
    run_length start first (passes run m) = run_length start first run
    run_length start first (rises {values} {i} run m) = length-set values (flow flows i).target _ ∙ run_length start first run
