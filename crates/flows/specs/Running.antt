-- What a run in progress keeps. Assumes nothing.
use Rattle.std.specs.Prelude.{◌≡◌}
use Rattle.kinds.specs.declared.kind.Kind.{Ghosts as Kind}
use Rattle.flows.specs.declared.running.Running.{Running}

-- it goes on with the same network, values and queue
pub record Continues {K : Type 0} (kind : Kind K) (old new : Running K kind) : Type 0 where
  pub network : new.network ≡ old.network
  pub values : new.values.ghost_name ≡ old.values.ghost_name
  pub queue : new.queue.ghost_name ≡ old.queue.ghost_name
