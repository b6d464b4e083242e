use Rattle.std.proofs.Common.{◌≡◌, ◌∷◌, ◌++◌, [], length, replicate, sym, refl, ap, ◌∙◌}
use Rattle.std.proofs.lemmas.Fn.{chained_keeps}
use Rattle.std.proofs.lemmas.List.{length_push, replicate_more}
use Rattle.flows.proofs.explain.reset.Goals as goal

pub returns : goal.returns
returns g c =
    let bottom = g.K.Kind.bottom in
    let (last, ran) = c.fill_with.ensures.ran in
    chained_keeps _ (λ xs f. xs ≡ replicate (length xs) bottom)
    (λ xs f x f' same step. let is : x ≡ bottom = step.met in
    (λ i. same i ++ is i ∷ []) ∙ replicate_more (length xs) bottom ∙ ap (λ n. replicate n bottom) (sym (length_push xs x)))
    _ _ last refl ran
    ∙ ap (λ n. replicate n bottom) c.fill_with.ensures.len
