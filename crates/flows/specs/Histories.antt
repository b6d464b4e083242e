-- Runs one after the other, each over more flows. Assumes nothing.
use Rattle.std.specs.Prelude.{ℕ, ◌+◌, ◌*◌, List, [], ◌++◌, length, replicate}
use Rattle.kinds.specs.declared.kind.Kind.{Ghosts as Kind}
use Rattle.flows.specs.declared.flow.Flow.{Flow}
use Rattle.flows.specs.Flows.{Within}
use Rattle.flows.specs.Queues.{numbered}
use Rattle.flows.specs.Runs.{Ends}

-- the flows so far, the values that their runs leave, and the evaluations that they took all together. At first every value is
-- bottom. Flows are added; their run begins with the values as they are and the new flows queued in order, and goes to its end.
pub data History {K : Type 0} (kind : Kind K) (size : ℕ) : List Flow → List K → ℕ → Type 0 where
  none : History kind size [] (replicate size kind.bottom) 0
  settles : {flows : List Flow} {values : List K} {n m : ℕ} {after : List K}
      → History kind size flows values n
      → (new : List Flow)
      → Within (flows ++ new) size
      → Ends kind (flows ++ new) values (numbered (length flows) (length new)) m after
      → History kind size (flows ++ new) after (n + m)

-- F flows take at most F × (1 + 2h) evaluations, h the height
abbrev pub allowed : {K : Type 0} → Kind K → List Flow → ℕ
allowed kind flows = length flows * (1 + 2 * kind.height)
