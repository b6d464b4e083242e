use Rattle.std.proofs.Common.{◌≡◌, [], ◌∷◌, ap, arith}
use Rattle.rules.specs.Making.{makes, move, both_ways}
use Rattle.making.proofs.Following.{then_makes, two_more, by_step}
use Rattle.making.proofs.Standing.{same_first, same_depth}
use Rattle.making.proofs.output.Output.flow_into.Goals as goal

pub loop-i-preserved : goal.loop-i-preserved
loop-i-preserved c base x y p q =
    let there = c.level-a.ensures x.first (same_first x p) in
    let back = c.level-b.ensures y.first (same_first y q) in
    two_more x.first y.first c.loop-i.i (c.loop-i.invariant base x y p q) (c.add_move-in-loop-i.ensures base _ _ there back) (c.add_move-in-loop-i-2.ensures base _ _ back there)

pub returns : goal.returns
returns c base x y p q =
    let all : x.depth ≡ c.loop-i.i = omega (arith, same_depth x p) in
    then_makes (move x.first y.first ∷ []) _ (c.add_move.ensures base _ _ (same_first x p) (same_first y q))
    (by_step (ap (λ d. makes (both_ways x.first y.first d)) all) (c.loop-i.invariant base x y p q))
