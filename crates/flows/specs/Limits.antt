-- How much a network holds at most. Assumes nothing.
use Rattle.std.specs.Prelude.{ℕ, ◌+◌, ◌*◌}

abbrev pub most_variables : ℕ
most_variables = 512

abbrev pub most_flows : ℕ
most_flows = 2048

abbrev pub most_bounds : ℕ
most_bounds = 256

-- a flow has two slots in the lists of readers, one for each source
abbrev pub most_slots : ℕ
most_slots = 2 * most_flows

-- the variables that have a list of readers, and one more that stands for no source
abbrev pub list_count : ℕ
list_count = most_variables + 1
