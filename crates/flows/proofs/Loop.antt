-- What a turn of the loop over the queue keeps. Assumes nothing.
use Rattle.std.proofs.Common.{◌≡◌, ℕ, ◌+◌, ◌*◌, ◌<◌, ◌≤◌, Bool, true, false, cond, List, [], ◌∷◌, ◌++◌, length, vec_items, sym, ap, ◌∙◌, subst, mul-le-mul, arith}
use Rattle.std.proofs.lemmas.List.{length_push}
use Rattle.kinds.specs.declared.kind.Kind.{Ghosts as Kind}
use Rattle.kinds.specs.Laws.{kind_limit}
use Rattle.kinds.specs.Lawful.{Lawful}
use Rattle.flows.specs.declared.flow.Flow.{Flow}
use Rattle.flows.specs.declared.running.Running.{Running}
use Rattle.flows.specs.Limits.{most_flows}
use Rattle.flows.specs.Flows.{held, flow}
use Rattle.flows.specs.Pending.{pending}
use Rattle.flows.specs.Queues.{waits}
use Rattle.flows.specs.Running.{Continues}
use Rattle.flows.specs.Runs.{applied, Evaluates, Run, begins, passes, rises}
use Rattle.flows.proofs.Applied.{Fits, fits_run}
use Rattle.flows.proofs.Budget.{budget}
use Rattle.flows.proofs.Built.{targets}
use Rattle.flows.proofs.Queues.{waits_here}
use Rattle.flows.proofs.Cost.{budget_bound, rises_pays, run_pays}

-- each rise is an evaluation
pub run_rises : {K : Type 0} (kind : Kind K) (flows : List Flow) (start : List K) (first : List ℕ) {vs : List K} {q : List ℕ} {n : ℕ} {rs : List ℕ} → Run kind flows start first vs q n rs → length rs ≤ n
run_rises kind flows start first begins = omega arith
run_rises kind flows start first (passes run m) = omega (arith, run_rises kind flows start first run)
run_rises kind flows start first (rises {values} {i} {queue} {n} {risen} run m) = omega (arith, run_rises kind flows start first run, length_push risen i)

-- what a run in progress rests on
module _ {K : Type 0} {kind : Kind K} (r : Running K kind) where
  pub holds : Fits kind (vec_items r.network.now.flows) r.values.now (pending r.queue.now)
  holds = record { within = targets r.network.now _ r.room; known = r.known }

  pub oldest : (i : ℕ) (q : List ℕ) → pending r.queue.now ≡ i ∷ q → i < length (vec_items r.network.now.flows)
  oldest i q front = r.known i (ap (waits i) front ∙ waits_here i q)

-- a run that goes on twice goes on, also where a flow left the queue between
pub goes_on : {K : Type 0} {kind : Kind K} {old now taken new : Running K kind} → Continues kind old now
    → taken.network ≡ now.network → taken.values.ghost_name ≡ now.values.ghost_name → taken.queue.ghost_name ≡ now.queue.ghost_name
    → Continues kind taken new → Continues kind old new
goes_on first network values queue then = record {
  network = then.network ∙ network ∙ first.network;
  values = then.values ∙ values ∙ first.values;
  queue = then.queue ∙ queue ∙ first.queue;
}

-- the flows under another name
pub across : {K : Type 0} (kind : Kind K) {flows flows' : List Flow} {i : ℕ} {vs : List K} {q : List ℕ} {rose : Bool} {vs' : List K} {q' : List ℕ} → Evaluates kind flows i vs q rose vs' q' → flows ≡ flows' → Evaluates kind flows' i vs q rose vs' q'
across kind {flows} {flows'} {i} {vs} {q} {rose} {vs'} {q'} e same = subst (λ fs. Evaluates kind fs i vs q rose vs' q') same e

-- the queue under another name
pub renamed : {K : Type 0} (kind : Kind K) (flows : List Flow) (start : List K) (first : List ℕ) (vs : List K) (old : List ℕ) (n : ℕ) (rs : List ℕ) (q : List ℕ) → Run kind flows start first vs old n rs → old ≡ q
    → Run kind flows start first vs q n rs
renamed kind flows start first vs old n rs q run same = subst (λ x. Run kind flows start first vs x n rs) same run

module _ {K : Type 0} (kind : Kind K) (laws : Lawful kind) (flows : List Flow) (start : List K) (first : List ℕ) (fits : Fits kind flows start first) where
  -- evaluations and rises stay few: no more than most_flows × (1 + 2 × kind_limit)
  pub turn_few : kind.height ≤ kind_limit → length flows ≤ most_flows → length first ≤ most_flows → (vs : List K) (old : List ℕ) (n : ℕ) (rs : List ℕ) → Run kind flows start first vs old n rs → n ≤ 821248
  turn_few low few short vs old n rs run =
      let twice : 2 * kind.height ≤ 400 = omega arith in
      let most : length flows * (2 * kind.height) ≤ 2048 * 400 = mul-le-mul few twice in
      omega (arith, run_pays kind laws flows start first fits run, budget_bound kind flows (held kind start))

  pub turn_rises_few : kind.height ≤ kind_limit → length flows ≤ most_flows → length first ≤ most_flows → (vs : List K) (old : List ℕ) (n : ℕ) (rs : List ℕ) → Run kind flows start first vs old n rs
      → length rs ≤ 821248
  turn_rises_few low few short vs old n rs run = omega (arith, turn_few low few short vs old n rs run, run_rises kind flows start first run)

  -- an evaluation goes on with a run
  pub turn : (rose : Bool) (vs vs' : List K) (old : List ℕ) (n : ℕ) (rs : List ℕ) (i : ℕ) (q q' : List ℕ) → Run kind flows start first vs old n rs → old ≡ i ∷ q → Evaluates kind flows i vs q rose vs' q'
      → Run kind flows start first vs' q' (n + 1) (cond rose (rs ++ i ∷ []) rs)
  turn true vs vs' old n rs i q q' run front e =
      subst (λ x. Run kind flows start first x q' (n + 1) (rs ++ i ∷ [])) (sym e.after)
      (subst (λ x. Run kind flows start first (applied kind (flow flows i) vs) x (n + 1) (rs ++ i ∷ [])) (sym e.queued) (rises (subst (λ x. Run kind flows start first vs x n rs) front run) e.unmet))
  turn false vs vs' old n rs i q q' run front e =
      subst (λ x. Run kind flows start first x q' (n + 1) rs) (sym e.after)
      (subst (λ x. Run kind flows start first vs x (n + 1) rs) (sym e.queued) (passes (subst (λ x. Run kind flows start first vs x n rs) front run) e.unmet))

  -- and the measure falls
  pub turn_falls : (rose : Bool) (vs vs' : List K) (old : List ℕ) (n : ℕ) (rs : List ℕ) (i : ℕ) (q q' : List ℕ) → Run kind flows start first vs old n rs → old ≡ i ∷ q → Evaluates kind flows i vs q rose vs' q'
      → length q' + budget kind flows (held kind vs') < length old + budget kind flows (held kind vs)
  turn_falls true vs vs' old n rs i q q' run front e =
      let pays = rises_pays kind laws flows vs i q (subst (Fits kind flows vs) front (fits_run kind flows start first fits run)) e.unmet in
      omega (arith, pays, ap length front, ap length e.queued, ap (λ x. budget kind flows (held kind x)) e.after)
  turn_falls false vs vs' old n rs i q q' run front e =
      omega (arith, ap length front, ap length e.queued, ap (λ x. budget kind flows (held kind x)) e.after)
