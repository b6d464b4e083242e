-- What an explaining run tells. Assumes nothing.
use Rattle.std.proofs.Common.{◌≡◌, ℕ, ◌+◌, ◌-◌, ◌<◌, ◌≤◌, true, List, [], ◌∷◌, ◌++◌, length, set, Some, None, Option, sym, refl, ap, ◌∙◌, subst, ⊎_elim, arith}
use lib.ListN.{length-replicate}
use Rattle.std.proofs.lemmas.Bool.{cases_Bool, both_ways, cases_eq, cases_order}
use Rattle.kinds.specs.declared.kind.Kind.{Ghosts as Kind}
use Rattle.kinds.specs.Lawful.{Lawful}
use Rattle.flows.specs.declared.flow.Flow.{Flow}
use Rattle.flows.specs.declared.flow.Bound.{Bound}
use Rattle.flows.specs.Flows.{held, flow, Within, Under}
use Rattle.flows.specs.Bounds.{broken, bound, Unbroken, Lowest, Tested, Judged}
use Rattle.flows.specs.Queues.{numbered}
use Rattle.flows.specs.Runs.{Run, begins, passes, rises}
use Rattle.flows.specs.Explaining.{Breaks, at_start, at_rise, Told, Leads, written, bottoms, Named, Traced, Explained}
use Rattle.flows.proofs.Applied.{Fits, fits_first, fits_run}
use Rattle.flows.proofs.Sound.{applied_grows, Sound, sound_rises, sound_run, sound_least}
use Rattle.flows.proofs.Broken.{bottom_everywhere, replays, broken_above, unbroken_below, always_judged, judged}
use Rattle.flows.proofs.Solved.{bottoms_least, start_fits, start_sound}
use Rattle.flows.proofs.Once.{State, state, reached, come, busy}

-- a list after numbers are written to its front: one more number is one more entry set
pub written_push : (rs : List ℕ) (n : ℕ) (list : List ℕ) → written (rs ++ n ∷ []) list ≡ set (written rs list) (length rs) n
written_push [] n [] = refl
written_push [] n (x ∷ list) = refl
written_push (r ∷ rs) n [] = refl
written_push (r ∷ rs) n (x ∷ list) = ap (λ xs. r ∷ xs) (written_push rs n list)

module _ {K : Type 0} (kind : Kind K) (flows : List Flow) (bounds : List Bound) (start : List K) (first : List ℕ) where
  -- the rises of a run that stops at a bound lead to it
  breaks_leads : (b : ℕ) {rs : List ℕ} {vs : List K} → Breaks kind flows bounds start first b rs vs → Leads kind flows bounds start rs (Some b)
  breaks_leads b (at_start lowest) = lowest.breaks
  breaks_leads b (at_rise {values} {i} {queue} {n} {risen} run whole unmet lowest) =
      subst (λ ws. broken kind (held kind ws) (bound bounds b) ≡ true) (sym (replays kind flows start first (rises run unmet))) lowest.breaks

  pub told_leads : (told : Option ℕ) (risen : List ℕ) (after : List K) → Told kind flows bounds start first told risen after → Leads kind flows bounds start risen told
  told_leads None risen after run = tt
  told_leads (Some b) risen after run = breaks_leads b run

module _ {K : Type 0} (kind : Kind K) (laws : Lawful kind) (flows : List Flow) (bounds : List Bound) where
  -- values at or below every solution, and what they break
  below_breaks : (b : ℕ) (vs : List K) (q : List ℕ) → Sound kind flows vs q → Lowest kind bounds (held kind vs) b → Judged kind flows bounds (Some b)
  below_breaks b vs q s lowest =
      always_judged kind flows bounds b lowest.inside (λ a meets. broken_above kind laws (held kind vs) a (bound bounds b) (s.lowest a meets) lowest.breaks)

  breaks_judged : (start : List K) (first : List ℕ) → Fits kind flows start first → Sound kind flows start first → (b : ℕ) {rs : List ℕ} {vs : List K} → Breaks kind flows bounds start first b rs vs
      → Judged kind flows bounds (Some b)
  breaks_judged start first fits s b (at_start lowest) = below_breaks b start first s lowest
  breaks_judged start first fits s b (at_rise {values} {i} {queue} {n} {risen} run whole unmet lowest) =
      below_breaks b _ _ (sound_rises kind laws flows values i queue (fits_run kind flows start first fits run) (sound_run kind laws flows start first fits s run)) lowest

  sound_judged : (start : List K) (first : List ℕ) → Fits kind flows start first → Sound kind flows start first → (told : Option ℕ) (risen : List ℕ) (after : List K) → Told kind flows bounds start first told risen after
      → Judged kind flows bounds told
  sound_judged start first fits s None risen after passed =
      judged kind laws flows bounds (held kind after) None (sound_least kind flows after (sound_run kind laws flows start first fits s passed.run)) passed.unbroken
  sound_judged start first fits s (Some b) risen after run = breaks_judged start first fits s b run

  -- a run over all flows from bottom judges the bounds
  pub told_judged : (size : ℕ) (told : Option ℕ) (risen : List ℕ) (after : List K) → Within flows size → Told kind flows bounds (bottoms kind size) (numbered 0 (length flows)) told risen after
      → Judged kind flows bounds told
  told_judged size told risen after within run =
      let long = length-replicate size kind.bottom in
      let all : length flows ≡ length flows - 0 = omega arith in
      let run-all = subst (λ k. Told kind flows bounds (bottoms kind size) (numbered 0 k) told risen after) all run in
      let fits = start_fits kind flows 0 (bottoms kind size) (subst (Within flows) (sym long) within) in
      sound_judged (bottoms kind size) (numbered 0 (length flows - 0)) fits (start_sound kind flows 0 (bottoms kind size) (bottoms_least kind laws size)) told risen after run-all

-- bounds tested at the same assignment give the same answer
tested_once : {K : Type 0} (kind : Kind K) (bounds : List Bound) (a : ℕ → K) (r s : Option ℕ) → Tested kind bounds a r → Tested kind bounds a s → r ≡ s
tested_once kind bounds a None None one other = refl
tested_once kind bounds a None (Some c) one other = absurd (both_ways _ (one c other.inside) other.breaks)
tested_once kind bounds a (Some b) None one other = absurd (both_ways _ (other b one.inside) one.breaks)
tested_once kind bounds a (Some b) (Some c) one other =
    ⊎_elim
    (λ same. ap Some same)
    (⊎_elim (λ less. absurd (both_ways _ (other.before b less) one.breaks)) (λ more. absurd (both_ways _ (one.before c more) other.breaks)))
    (cases_order b c)

module _ {K : Type 0} (kind : Kind K) (flows : List Flow) (bounds : List Bound) (start : List K) (first : List ℕ) where
  -- a run stops after so many evaluations: until then some flow waits and no bound is broken
  record Stops (told : Option ℕ) (risen : List ℕ) (after : List K) : Type 0 where
    count : ℕ
    queue : List ℕ
    there : reached kind flows start first count ≡ state after queue risen
    tested : Tested kind bounds (held kind after) told
    ended : told ≡ None → queue ≡ []
    going : (k : ℕ) → k < count → (reached kind flows start first k).queue ≡ [] → ⊥
    whole : (k : ℕ) → k < count → Unbroken kind bounds (held kind (reached kind flows start first k).values)

  -- no run stops where another goes on
  not_before : (told : Option ℕ) {told' : Option ℕ} {risen risen' : List ℕ} {after after' : List K} (one : Stops told risen after) (other : Stops told' risen' after') → one.count < other.count → ⊥
  not_before None one other less = other.going one.count less (ap (λ (s : State K). s.queue) one.there ∙ one.ended refl)
  not_before (Some b) one other less =
      let same = ap (λ (s : State K). s.values) one.there in
      both_ways _ (subst (λ vs. Unbroken kind bounds (held kind vs)) same (other.whole one.count less) b one.tested.inside) one.tested.breaks

  stops_once : (told told' : Option ℕ) (risen risen' : List ℕ) (after after' : List K) → Stops told risen after → Stops told' risen' after' → (told ≡ told') × (risen ≡ risen') × (after ≡ after')
  stops_once told told' risen risen' after after' one other =
      ⊎_elim
      (λ same.
      let e = sym one.there ∙ ap (reached kind flows start first) same ∙ other.there in
      let values = ap (λ (s : State K). s.values) e in
      (tested_once kind bounds (held kind after') told told' (subst (λ vs. Tested kind bounds (held kind vs) told) values one.tested) other.tested, ap (λ (s : State K). s.risen) e, values))
      (⊎_elim (λ less. absurd (not_before told one other less)) (λ more. absurd (not_before told' other one more)))
      (cases_order one.count other.count)

module _ {K : Type 0} (kind : Kind K) (laws : Lawful kind) (flows : List Flow) (bounds : List Bound) (start : List K) (first : List ℕ) (fits : Fits kind flows start first) where
  -- the values that a run has come to are at or above all that it had
  here_under : {vs : List K} {q : List ℕ} {n : ℕ} {rs : List ℕ} → Run kind flows start first vs q n rs → (k : ℕ) → k ≡ n → Under kind (held kind (reached kind flows start first k).values) (held kind vs)
  here_under {vs} run k last =
      let same = ap (λ (s : State K). s.values) (ap (reached kind flows start first) last ∙ come kind flows start first run) in
      subst (λ ws. Under kind (held kind ws) (held kind vs)) (sym same) (λ v. laws.order.reflexive _)

  all_under : {vs : List K} {q : List ℕ} {n : ℕ} {rs : List ℕ} → Run kind flows start first vs q n rs → (k : ℕ) → k ≤ n → Under kind (held kind (reached kind flows start first k).values) (held kind vs)
  all_under begins k h = here_under begins k (omega arith)
  all_under (passes {values} {i} {queue} {n} {risen} run m) k h =
      ⊎_elim (here_under (passes run m) k) (λ ne. all_under run k (omega arith)) (cases_eq k (n + 1))
  all_under (rises {values} {i} {queue} {n} {risen} run m) k h =
      let inside = (fits_first kind flows values i queue (fits_run kind flows start first fits run)).1 in
      ⊎_elim
      (here_under (rises run m) k)
      (λ ne v. laws.order.transitive _ _ _ (all_under run k (omega arith) v) (applied_grows kind laws (flow flows i) values inside v))
      (cases_eq k (n + 1))

  -- so a bound that is not broken never was
  never_broken : {vs : List K} {q : List ℕ} {n : ℕ} {rs : List ℕ} → Run kind flows start first vs q n rs → Unbroken kind bounds (held kind vs) → (k : ℕ) → k ≤ n
      → Unbroken kind bounds (held kind (reached kind flows start first k).values)
  never_broken {vs} run whole k h = unbroken_below kind laws bounds _ (held kind vs) (all_under run k h) whole

  some≢none : (b : ℕ) → ◌≡◌ {A = Option ℕ} (Some b) None → ⊥
  some≢none b e = let z : ◌≡◌ {A = ℕ} 0 1 = cc in omega arith

  breaks_stops : (b : ℕ) {rs : List ℕ} {vs : List K} → Breaks kind flows bounds start first b rs vs → Stops kind flows bounds start first (Some b) rs vs
  breaks_stops b (at_start lowest) = record {
    count = 0;
    queue = first;
    there = refl;
    tested = lowest;
    ended = λ e. absurd (some≢none b e);
    going = λ k h. absurd (omega arith);
    whole = λ k h. absurd (omega arith);
  }
  breaks_stops b (at_rise {values} {i} {queue} {n} {risen} run whole unmet lowest) = record {
    count = n + 1;
    queue = _;
    there = come kind flows start first (rises run unmet);
    tested = lowest;
    ended = λ e. absurd (some≢none b e);
    going = busy kind flows start first (rises run unmet);
    whole = λ k h. never_broken run whole k (omega arith);
  }

  told_stops : (told : Option ℕ) (risen : List ℕ) (after : List K) → Told kind flows bounds start first told risen after → Stops kind flows bounds start first told risen after
  told_stops None risen after passed = record {
    count = passed.evaluations;
    queue = [];
    there = come kind flows start first passed.run;
    tested = passed.unbroken;
    ended = λ _. refl;
    going = busy kind flows start first passed.run;
    whole = λ k h. never_broken passed.run passed.unbroken k (omega arith);
  }
  told_stops (Some b) risen after run = breaks_stops b run

  -- an explaining run tells one thing
  pub told_once : (told told' : Option ℕ) (risen risen' : List ℕ) (after after' : List K) → Told kind flows bounds start first told risen after → Told kind flows bounds start first told' risen' after'
      → (told ≡ told') × (risen ≡ risen') × (after ≡ after')
  told_once told told' risen risen' after after' one other =
      stops_once kind flows bounds start first told told' risen risen' after after' (told_stops told risen after one) (told_stops told' risen' after' other)

-- what is told of the run from bottom
pub from_bottom : {K : Type 0} (kind : Kind K) (flows : List Flow) (size : ℕ) → Within flows size → Fits kind flows (bottoms kind size) (numbered 0 (length flows))
from_bottom kind flows size within =
    let long = length-replicate size kind.bottom in
    let all : length flows - 0 ≡ length flows = omega arith in
    subst (λ k. Fits kind flows (bottoms kind size) (numbered 0 k)) all (start_fits kind flows 0 (bottoms kind size) (subst (Within flows) (sym long) within))

-- a bound on a name of the kind is not broken at bottom: the name's value is not bottom
unbroken_bottoms : {K : Type 0} (kind : Kind K) (laws : Lawful kind) (bounds : List Bound) (size : ℕ) → Named kind bounds → Unbroken kind bounds (held kind (bottoms kind size))
unbroken_bottoms kind laws bounds size named i inside =
    let x = bound bounds i in
    let low = bottom_everywhere kind size x.variable in
    ⊎_elim
    (λ breaks. absurd (laws.naming.raised x.name (named i inside) (laws.order.antisymmetric (kind.value x.name) kind.bottom (subst (λ v. kind.below (kind.value x.name) v ≡ true) low breaks) (laws.order.least (kind.value x.name)))))
    (λ kept. kept)
    (cases_Bool (broken kind (held kind (bottoms kind size)) x))

pub explained : {K : Type 0} (kind : Kind K) (laws : Lawful kind) (flows : List Flow) (bounds : List Bound) (size : ℕ) (told : Option ℕ) (count : ℕ) (list list' : List ℕ) (after : List K) → Within flows size
    → Traced kind flows bounds (bottoms kind size) (numbered 0 (length flows)) told count list list' after → Explained kind flows bounds size told count list list' after
explained kind laws flows bounds size told count list list' after within traced = record {
  traced = traced;
  starts = unbroken_bottoms kind laws bounds size;
  only = λ told' risen' after' run'. told_once kind laws flows bounds (bottoms kind size) (numbered 0 (length flows)) (from_bottom kind flows size within) told' told risen' traced.risen after' after run' traced.run;
  leads = told_leads kind flows bounds (bottoms kind size) (numbered 0 (length flows)) told traced.risen after traced.run;
  judged = told_judged kind laws flows bounds size told traced.risen after within traced.run;
}
