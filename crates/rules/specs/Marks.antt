-- What a binder mark makes. Assumes nothing.
use Rattle.std.specs.Prelude.{ℕ, ◌+◌, Bool, List, [], ◌∷◌, ◌++◌, length, is_some, Some, None, Option, ◌==◌}
use Rattle.flows.specs.declared.flow.Flow.{Flow}
use Rattle.flows.specs.declared.flow.Rule.TheVariants.{Name}
use Rattle.refusals.specs.declared.refusal.Refusal.TheVariants.{NotInForce, Unfit}
use Rattle.syntax.specs.Trees.{Text}
use Rattle.std.specs.List.{list_all}
use Rattle.tokens.specs.Marks.{groups_of}
use Rattle.rules.specs.Making.{Levels, Step, ◌▸◌, give, demand, flow, makes}

-- `find` gives the number of a name in marks, where it is known
module _ (find : List ℕ → Option ℕ) where
  -- all names of all groups
  abbrev pub known : List (List (List ℕ)) → Bool
  known groups = list_all (list_all (λ name. is_some (find name))) groups

  abbrev pub name_flow : Option ℕ → ℕ → List Flow
  name_flow None target = []
  name_flow (Some n) target = flow (Name n) target ∷ []

  -- each name of a group is a flow into the group's level
  abbrev pub group_flows : List (List ℕ) → ℕ → List Flow
  group_flows [] target = []
  group_flows (name ∷ names) target = name_flow (find name) target ++ group_flows names target

  -- the groups' levels are numbered on from the first
  abbrev pub mark_flows : List (List (List ℕ)) → ℕ → List Flow
  mark_flows [] first = []
  mark_flows (group ∷ groups) first = group_flows group first ++ mark_flows groups (first + 1)

  -- a mark has one group for each level; an absent one makes nothing
  abbrev pub marked : Option Text → Levels → Step (Unit {0})
  marked None t = give tt
  marked (Some k) t =
      demand (known (groups_of k.bytes)) (NotInForce k.place) ▸ λ _.
      demand (length (groups_of k.bytes) == t.depth + 1) (Unfit k.place) ▸ λ _.
      makes (mark_flows (groups_of k.bytes) t.first)
