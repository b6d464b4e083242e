-- A run ends in one way. Assumes nothing.
use Rattle.std.proofs.Common.{◌≡◌, ℕ, zero, suc, ◌<◌, cond, List, [], ◌∷◌, ◌++◌, length, sym, refl, ap, ◌∙◌, subst, ⊎_elim, add-one, arith}
use Rattle.std.proofs.lemmas.Bool.{cases_eq, cases_order, cond-true, cond-false}
use Rattle.kinds.specs.declared.kind.Kind.{Ghosts as Kind}
use Rattle.flows.specs.declared.flow.Flow.{Flow}
use Rattle.flows.specs.Flows.{held, met, flow}
use Rattle.flows.specs.Runs.{woken, applied, Run, begins, passes, rises, Ends}

pub record State (K : Type 0) : Type 0 where
  pub values : List K
  pub queue : List ℕ
  pub risen : List ℕ

abbrev pub state : {K : Type 0} → List K → List ℕ → List ℕ → State K
state vs q rs = record { values = vs; queue = q; risen = rs }

-- one evaluation, or nothing where none waits
abbrev evaluated : {K : Type 0} → Kind K → List Flow → List K → List ℕ → List ℕ → State K
evaluated kind flows vs rs [] = state vs [] rs
evaluated kind flows vs rs (i ∷ q) =
    cond (met kind (held kind vs) (flow flows i)) (state vs q rs) (state (applied kind (flow flows i) vs) (q ++ woken flows (flow flows i).target q (length flows)) (rs ++ i ∷ []))

-- the state after so many evaluations
abbrev pub reached : {K : Type 0} → Kind K → List Flow → List K → List ℕ → ℕ → State K
reached kind flows start first zero = state start first []
reached kind flows start first (suc n) =
    let s = reached kind flows start first n in
    evaluated kind flows s.values s.risen s.queue

module _ {K : Type 0} (kind : Kind K) (flows : List Flow) (start : List K) (first : List ℕ) where
  pub come : {vs : List K} {q : List ℕ} {n : ℕ} {rs : List ℕ} → Run kind flows start first vs q n rs → reached kind flows start first n ≡ state vs q rs
  come begins = refl
  come (passes {values} {i} {queue} {n} {risen} run m) =
      ap (reached kind flows start first) (add-one n) ∙ ap (λ (s : State K). evaluated kind flows s.values s.risen s.queue) (come run) ∙ cond-true _ _ _ m
  come (rises {values} {i} {queue} {n} {risen} run m) =
      ap (reached kind flows start first) (add-one n) ∙ ap (λ (s : State K). evaluated kind flows s.values s.risen s.queue) (come run) ∙ cond-false _ _ _ m

  -- a flow waits until the end
  waits_on : {vs : List K} {i : ℕ} {q : List ℕ} {n : ℕ} {rs : List ℕ} → Run kind flows start first vs (i ∷ q) n rs → (reached kind flows start first n).queue ≡ [] → ⊥
  waits_on run none = let e = ap length (sym (ap (λ (s : State K). s.queue) (come run)) ∙ none) in omega arith

  pub busy : {vs : List K} {q : List ℕ} {n : ℕ} {rs : List ℕ} → Run kind flows start first vs q n rs → (k : ℕ) → k < n → (reached kind flows start first k).queue ≡ [] → ⊥
  busy begins k h none = omega arith
  busy (passes {values} {i} {queue} {n} {risen} run m) k h none =
      ⊎_elim (λ same. waits_on run (subst (λ j. (reached kind flows start first j).queue ≡ []) same none)) (λ ne. busy run k (omega arith) none) (cases_eq k n)
  busy (rises {values} {i} {queue} {n} {risen} run m) k h none =
      ⊎_elim (λ same. waits_on run (subst (λ j. (reached kind flows start first j).queue ≡ []) same none)) (λ ne. busy run k (omega arith) none) (cases_eq k n)

  pub once : (vs ws : List K) (n m : ℕ) (rs ss : List ℕ) → Run kind flows start first vs [] n rs → Run kind flows start first ws [] m ss → (n ≡ m) × (vs ≡ ws) × (rs ≡ ss)
  once vs ws n m rs ss one other =
      ⊎_elim
      (λ same.
      let e = sym (come one) ∙ ap (reached kind flows start first) same ∙ come other in
      (same, ap (λ (s : State K). s.values) e, ap (λ (s : State K). s.risen) e))
      (⊎_elim
      (λ less. absurd (busy other n less (ap (λ (s : State K). s.queue) (come one))))
      (λ more. absurd (busy one m more (ap (λ (s : State K). s.queue) (come other)))))
      (cases_order n m)

  pub ends_once : (n m : ℕ) (vs ws : List K) → Ends kind flows start first n vs → Ends kind flows start first m ws → (n ≡ m) × (vs ≡ ws)
  ends_once n m vs ws one other = let same = once vs ws n m one.0 other.0 one.1 other.1 in (same.0, same.1)
