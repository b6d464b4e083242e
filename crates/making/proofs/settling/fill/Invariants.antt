use Rattle.std.proofs.Common.{◌≡◌, ◌≤◌}
use Rattle.flows.specs.Networks.{contents}
use Rattle.making.proofs.settling.fill.Given as goal

-- there are at least i variables, and nothing else changes
abbrev pub invariant-loop : goal.invariant-loop
invariant-loop l =
    (l.counter ≤ (contents l.network).variables)
    × ((contents l.network).flows ≡ (contents l.initial.network).flows)
    × ((contents l.network).bounds ≡ (contents l.initial.network).bounds)
