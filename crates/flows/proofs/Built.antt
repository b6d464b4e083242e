-- What a network keeps as it grows and shrinks. Assumes nothing.
use Rattle.std.proofs.Common.{◌≡◌, ℕ, ◌*◌, ◌<◌, ◌≤◌, true, ltb, List, [], ◌∷◌, ◌++◌, length, vec_items, sym, ap, ◌∙◌, subst, ⊎_elim, arith}
use Rattle.std.proofs.lemmas.List.{get_or_append_left, get_or_push, length_push}
use Rattle.std.proofs.lemmas.Bool.{and_parts, cases_eq, ltb-true}
use Rattle.flows.specs.declared.flow.Flow.{Flow}
use Rattle.flows.specs.declared.network.Network.{Network}
use Rattle.flows.specs.Flows.{flow, knows, inside, Within}
use Rattle.flows.specs.Limits.{most_flows}
use Rattle.flows.specs.Networks.{Closed}
use Rattle.flows.specs.Reading.{filled}
use Rattle.flows.proofs.Listed.{both_long}

-- one more flow, with its variables there
pub closed_push : (n : ℕ) (flows : List Flow) (f : Flow) → Closed n flows → inside n f ≡ true → Closed n (flows ++ f ∷ [])
closed_push n flows f old new i h =
    ⊎_elim
    (λ last. subst (λ g. inside n g ≡ true) (sym (get_or_push flows f _ i (sym last))) new)
    (λ ne. let k : i < length flows = omega (arith, length_push flows f) in
    subst (λ g. inside n g ≡ true) (sym (get_or_append_left flows (f ∷ []) _ i k)) (old i k))
    (cases_eq i (length flows))

module _ (n : Network) where
  pub flows_long : length (vec_items n.flows) ≡ n.counts.flows
  flows_long = sym n.flows.ok.0 ∙ n.flow_count

  pub few : length (vec_items n.flows) ≤ most_flows
  few = omega (arith, flows_long, n.counts.few_flows)

  pub is_closed : Closed n.counts.variables (vec_items n.flows)
  is_closed i h = n.closed i (let long = n.flows.ok.0 in omega arith)

  -- every target is below the count of variables
  pub targets : (size : ℕ) → n.counts.variables ≤ size → Within (vec_items n.flows) size
  targets size room i h =
      let f = flow (vec_items n.flows) i in
      let parts = and_parts (ltb f.target n.counts.variables) (knows n.counts.variables f.rule) (is_closed i h) in
      let k : f.target < n.counts.variables = ltb-true _ _ parts.0 in
      omega arith

  -- its table has two slots for each flow
  pub slots_few : length (filled n.readers) ≡ 2 * length (vec_items n.flows)
  slots_few = ap length n.indexed ∙ both_long (vec_items n.flows)
