-- What a network holds when something is handed over that may have no form for it. Assumes nothing.
use Rattle.std.specs.Prelude.{cond, Some, None, Option}
use Rattle.flows.specs.Networks.{Contents, room_for_flow, with_flow, room_for_bound, with_bound}
use Rattle.flows.specs.declared.flow.Bound.{Bound}
use Rattle.flows.specs.declared.flow.Flow.{Flow}

abbrev pub handed : Contents → Option Flow → Contents
handed c None = c
handed c (Some f) = cond (room_for_flow c f) (with_flow c f) c

abbrev pub handed_bound : Contents → Option Bound → Contents
handed_bound c None = c
handed_bound c (Some b) = cond (room_for_bound c b) (with_bound c b) c
