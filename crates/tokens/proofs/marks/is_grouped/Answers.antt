use Rattle.std.proofs.Common.{sym, ◌∙◌, rules, tests}
use Rattle.std.specs.List.{list_all}
use Rattle.std.proofs.lemmas.Iterator.Search.{all_from_yields_List}
use Rattle.std.proofs.lemmas.Iterator.Splits.{YieldsList-from_slice_split}
use Rattle.std.proofs.lemmas.List.Folds.{list_all-map}
use Rattle.tokens.specs.Marks.{name, names_of, parts}
use Rattle.tokens.proofs.marks.is_grouped.Goals as goal

pub returns : goal.returns
returns c =
    all_from_yields_List (λ g. list_all name (names_of g)) _ _ _ c.all.ensures.ran (YieldsList-from_slice_split _ _ c.args.mark.now c.split.ensures.rest c.split.ensures.done c.split.ensures.closure (λ x b q k. search (rules, tests))) (λ x b q k. search (rules, tests))
    ∙ sym (list_all-map (list_all name) names_of (parts 47 c.args.mark.now))
