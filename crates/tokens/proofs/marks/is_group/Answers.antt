use Rattle.std.proofs.lemmas.Bool.{eqb-false}
use Rattle.std.proofs.Common.{length, sym, ap, ◌∙◌, rules, tests, arith}
use Rattle.std.specs.List.{list_all}
use Rattle.std.proofs.lemmas.Iterator.Search.{all_from_yields_List}
use Rattle.std.proofs.lemmas.Iterator.Splits.{YieldsList-from_slice_split}
use Rattle.tokens.specs.Marks.{name}
use Rattle.tokens.proofs.Groups.{names_parts}
use Rattle.tokens.proofs.marks.is_group.Goals as goal

pub returns-else-is_empty : goal.returns-else-is_empty
returns-else-is_empty c =
    all_from_yields_List name _ _ _ c.all.ensures.ran (YieldsList-from_slice_split _ _ c.args.group.now c.split.ensures.rest c.split.ensures.done c.split.ensures.closure (λ x b q k. search (rules, tests))) (λ x b q k. search (rules, tests))
    ∙ ap (list_all name) (sym (names_parts c.args.group.now (omega (arith, eqb-false (length c.args.group.now) 0 (sym c.is_empty.ensures ∙ c.if-is_empty.false)))))
