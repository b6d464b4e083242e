-- The limits of what a project holds. Assumes nothing.
use Rattle.std.specs.Prelude.{ℕ, cond, length, Some, None, Option, nat_lt}
use Rattle.flows.specs.Limits.{most_flows, most_bounds}
use Rattle.refusals.specs.declared.refusal.Limit.{Limit}
use Rattle.refusals.specs.declared.refusal.Limit.TheVariants.{Variables, Flows, Bounds, Binders, Text}
use Rattle.rules.specs.Making.{Made}

abbrev pub most_binders : ℕ
most_binders = 256

abbrev pub most_text : ℕ
most_text = 16384

-- the first limit that is passed, with room for so many variables and so many bytes of text kept
abbrev pub first_passed : Made → ℕ → ℕ → Option Limit
first_passed m room kept =
    cond (nat_lt room m.next) (Some Variables)
    (cond (nat_lt most_flows (length m.flows)) (Some Flows)
    (cond (nat_lt most_bounds (length m.bounds)) (Some Bounds)
    (cond (nat_lt most_binders (length m.binders)) (Some Binders)
    (cond (nat_lt most_text kept) (Some Text) None))))
