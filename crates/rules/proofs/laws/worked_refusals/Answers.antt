use Rattle.std.proofs.Common.{refl}
use Rattle.rules.specs.Making.{◌▸◌}
use Rattle.rules.proofs.laws.worked_refusals.Goals as goal

pub returns : goal.returns
unfolding ◌▸◌
returns c = record {
  not_in_force = refl;
  function_as_value = refl;
  value_called = refl;
  named_twice = refl;
  hidden_by_parameter = refl;
  bound_unknown = refl;
  mark_unknown = refl;
  names_before_groups = refl;
  groups = refl;
  no_reference = refl;
  too_deep = refl;
  arguments_before_name = refl;
  name_before_count = refl;
  count_before_depths = refl;
  first_argument = refl;
  second_argument = refl;
  body = refl;
  parts_before_if = refl;
  compared = refl;
  else_branch = refl;
  parts_before_assignment = refl;
  assigned_to = refl;
  assigned = refl;
}
