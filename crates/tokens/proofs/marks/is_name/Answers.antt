use Rattle.std.proofs.Common.{sym, refl, ◌∙◌, rules, tests}
use Rattle.std.proofs.lemmas.Iterator.{YieldsList-from_slice}
use Rattle.std.proofs.lemmas.Iterator.Search.{all_from_yields_List}
use Rattle.tokens.specs.Bytes.{letter}
use Rattle.tokens.proofs.Runs.{short_name}
use Rattle.tokens.proofs.marks.is_name.Goals as goal

pub returns-then-is_name_len : goal.returns-then-is_name_len
returns-then-is_name_len c =
    let letters = all_from_yields_List letter _ _ _ c.all.ensures.ran (YieldsList-from_slice c.args.bytes.now cc) (λ x b q k. search (rules, tests)) in
    let fits = c.if-is_name_len.ensures.0 refl in
    letters ∙ sym (short_name c.args.bytes.now fits.0 fits.1)
