-- What the run after flows were added does. Assumes nothing.
use Rattle.std.specs.Prelude.{◌≡◌, ℕ, ◌+◌, ◌-◌, ◌≤◌, List, length, take}
use Rattle.kinds.specs.declared.kind.Kind.{Ghosts as Kind}
use Rattle.flows.specs.declared.flow.Flow.{Flow}
use Rattle.flows.specs.Flows.{held, Least}
use Rattle.flows.specs.Histories.{History, allowed}
use Rattle.flows.specs.Queues.{numbered}
use Rattle.flows.specs.Runs.{Ends}

-- the flows from number `from` on, queued in order, are run to the end from the values `start`: that takes n evaluations and leaves
-- the values `after`
pub record Settles {K : Type 0} (kind : Kind K) (flows : List Flow) (from : ℕ) (start : List K) (n : ℕ) (after : List K) : Type 0 where
  pub run : Ends kind flows start (numbered from (length flows - from)) n after
  -- the run ends in no other way
  pub only : (m : ℕ) (other : List K) → Ends kind flows start (numbered from (length flows - from)) m other → (m ≡ n) × (other ≡ after)
  -- values that were the least to meet the flows before are the least to meet all
  pub least : Least kind (take from flows) (held kind start) → Least kind flows (held kind after)
  -- a history of runs from bottom goes on: its values are the least that meet its flows, and all its evaluations together stay
  -- within what its flows allow
  pub history : (m : ℕ) → History kind (length start) (take from flows) start m → History kind (length start) flows after (m + n)
  pub settled : (m : ℕ) → History kind (length start) (take from flows) start m → Least kind flows (held kind after)
  pub cost : (m : ℕ) → History kind (length start) (take from flows) start m → m + n ≤ allowed kind flows
