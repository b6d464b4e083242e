-- A run over new flows, from values that solve the old ones. Assumes nothing.
use Rattle.std.proofs.Common.{◌≡◌, ℕ, ◌+◌, ◌-◌, ◌<◌, ◌≤◌, true, List, [], length, take, sym, subst, ⊎_elim, arith, length-take, get_or-take}
use Rattle.std.proofs.lemmas.Bool.{both_ways, cases_lt}
use Rattle.kinds.specs.declared.kind.Kind.{Ghosts as Kind}
use Rattle.kinds.specs.Lawful.{Lawful}
use Rattle.flows.specs.declared.flow.Flow.{Flow}
use Rattle.flows.specs.Flows.{held, met, flow, Within, Least}
use Rattle.flows.specs.Queues.{numbered}
use Rattle.flows.specs.Runs.{Ends}
use Rattle.flows.specs.Explaining.{bottoms}
use Rattle.flows.proofs.Queues.{numbered_length, numbered_has, numbered_only}
use Rattle.flows.proofs.Applied.{Fits}
use Rattle.flows.proofs.Sound.{Sound, sound_run, sound_least}
use Rattle.flows.proofs.Broken.{bottom_everywhere}
use Rattle.flows.proofs.Budget.{budget}
use Rattle.flows.proofs.Cost.{run_pays}

module _ (flows : List Flow) (from : ℕ) where
  -- the first flows are the old ones
  old_flow : (i : ℕ) → i < from → flow (take from flows) i ≡ flow flows i
  old_flow i h = get_or-take from flows i _ h

  old_in : (i : ℕ) → i < from → i < length flows → i < length (take from flows)
  old_in i h k = simp length-take (omega arith)

  old_out : (i : ℕ) → i < length (take from flows) → (i < from) × (i < length flows)
  old_out i h = let k = simp length-take at h in (omega arith, omega arith)

module _ {K : Type 0} (kind : Kind K) (flows : List Flow) (from : ℕ) (vs : List K) where
  -- a run begins with the new flows queued
  pub start_fits : Within flows (length vs) → Fits kind flows vs (numbered from (length flows - from))
  start_fits within = record {
    within = within;
    known = λ i w. let h = numbered_only from (length flows - from) i w in omega (arith, h.0, h.1);
  }

  -- and they are the only ones that may not be met
  pub start_sound : Least kind (take from flows) (held kind vs) → Sound kind flows vs (numbered from (length flows - from))
  start_sound least = record {
    settled = λ i h none. ⊎_elim
        (λ before. subst (λ f. met kind (held kind vs) f ≡ true) (old_flow flows from i before) (least.meets i (old_in flows from i before h)))
        (λ new. absurd (both_ways _ none (numbered_has from (length flows - from) i new (omega arith))))
        (cases_lt i from);
    lowest = λ a meets. least.lowest a (λ i h.
        let known = old_out flows from i h in
        subst (λ f. met kind a f ≡ true) (sym (old_flow flows from i known.0)) (meets i known.1));
  }

module _ {K : Type 0} (kind : Kind K) (laws : Lawful kind) where
  -- at first every value is bottom, which solves no flows
  pub bottoms_least : (size : ℕ) → Least kind [] (held kind (bottoms kind size))
  bottoms_least size = record {
    meets = λ i h. absurd (omega arith);
    lowest = λ a _ v. subst (λ x. kind.below x (a v) ≡ true) (sym (bottom_everywhere kind size v)) (laws.order.least (a v));
  }

  module _ (flows : List Flow) (from : ℕ) (vs : List K) (within : Within flows (length vs)) (n : ℕ) (ws : List K) (ends : Ends kind flows vs (numbered from (length flows - from)) n ws) where
    pub solved : Least kind (take from flows) (held kind vs) → Least kind flows (held kind ws)
    solved least =
        sound_least kind flows ws (sound_run kind laws flows vs _ (start_fits kind flows from vs within) (start_sound kind flows from vs least) ends.1)

    pub paid : n + budget kind flows (held kind ws) ≤ length flows - from + budget kind flows (held kind vs)
    paid = omega (arith, run_pays kind laws flows vs _ (start_fits kind flows from vs within) ends.1, numbered_length from (length flows - from))
