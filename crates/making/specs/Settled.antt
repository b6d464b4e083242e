-- Between declarations: the network holds just what is made. Assumes nothing.
use Rattle.std.specs.Prelude.{◌≡◌, ◌≤◌, map, length, Some, None, vec_items, Option}
use Rattle.flows.specs.Limits.{most_variables, most_flows, most_bounds}
use Rattle.flows.specs.Networks.{contents, Closed, Bounded, Counted}
use Rattle.flows.specs.declared.network.Counts.{Counts}
use Rattle.making.specs.Holding.{clip, clip_binder, most_binders}
use Rattle.making.specs.declared.output.Before.{Before}
use Rattle.making.specs.declared.output.Output.{Output}
use Rattle.making.specs.declared.output.Tally.{Tally}
use Rattle.rules.specs.Making.{Made}

-- no limit is passed, and all variables are made
pub record Within (m : Made) : Type 0 where
  pub next : m.next ≤ most_variables
  pub flows : length m.flows ≤ most_flows
  pub bounds : length m.bounds ≤ most_bounds
  pub binders : length m.binders ≤ most_binders
  pub closed : Closed m.next m.flows
  pub bounded : Bounded m.next m.bounds

pub record Settled (o : Output) (m : Made) : Type 0 where
  pub variables : o.made.variables ≡ clip m.next
  pub flows : o.made.flows ≡ clip (length m.flows)
  pub bounds : o.made.bounds ≡ clip (length m.bounds)
  pub noted : o.made.binders ≡ clip (length m.binders)
  pub network : contents o.network ≡ record { variables = m.next; flows = m.flows; bounds = m.bounds }
  pub binders : vec_items o.binders ≡ map clip_binder m.binders

-- the counts of a network that holds so much, or that none can
abbrev pub CountsOf : Tally → Option Counts → Type 0
CountsOf t None = t.variables ≤ most_variables → t.flows ≤ most_flows → t.bounds ≤ most_bounds → ⊥
CountsOf t (Some c) = (c.variables ≡ t.variables) × (c.flows ≡ t.flows) × (c.bounds ≡ t.bounds)

-- how much there was
pub record Remembers (o : Output) (b : Before) : Type 0 where
  pub counts : Counted (contents o.network) b.counts
  pub binders : b.binders ≡ length (vec_items o.binders)
  pub made : b.made ≡ o.made
