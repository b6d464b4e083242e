-- The flows that read a variable, and the code's table of them. Assumes nothing.
use Rattle.std.specs.Prelude.{ℕ, zero, suc, cond, List, [], ◌∷◌, ◌++◌, Some, None, vec_items, Option, ◌==◌, nat_lt}
use Rattle.flows.specs.declared.flow.Flow.{Flow}
use Rattle.flows.specs.declared.flow.Rule.{Rule}
use Rattle.flows.specs.declared.flow.Rule.TheVariants.{Operator, Name}
use Rattle.flows.specs.declared.readers.Readers.{Readers}
use Rattle.flows.specs.Flows.{reads, flow}
use Rattle.flows.specs.Limits.{most_variables}
use Rattle.flows.specs.Slots.{lists_of}

-- of the first n flows, those that read a variable, in ascending number
abbrev pub reading : List Flow → ℕ → ℕ → List ℕ
reading flows v zero = []
reading flows v (suc n) = reading flows v n ++ cond (reads (flow flows n).rule v) (n ∷ []) []

-- the slots that a table has filled, each with its list
abbrev pub filled : Readers → List ℕ
filled r = lists_of (vec_items r.slots)

-- the list of a source; the last list stands for no source
abbrev pub list_of : Option ℕ → ℕ
list_of None = most_variables
list_of (Some v) = cond (nat_lt v most_variables) v most_variables

-- the lists in which a rule stands: those of its sources, each once
abbrev pub first_list : Rule → ℕ
first_list (Operator o x y) = list_of x
first_list (Name n) = most_variables

abbrev pub second_list : Rule → ℕ
second_list (Operator o x y) = cond (list_of y == list_of x) most_variables (list_of y)
second_list (Name n) = most_variables

-- two slots for each flow, with the lists in which its rule stands
abbrev pub both_lists : List Flow → List ℕ
both_lists [] = []
both_lists (f ∷ flows) = first_list f.rule ∷ second_list f.rule ∷ both_lists flows
