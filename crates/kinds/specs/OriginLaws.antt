-- The operators of Origin are monotone. Assumes nothing.
use Rattle.std.specs.Prelude.{◌≡◌, true, refl}
use Rattle.std.proofs.Common.{arith}
use Rattle.std.specs.List.{AllZip}
use Rattle.kinds.specs.Laws.{Operated}
use Rattle.kinds.specs.declared.origin.Origin.{Origin}
use Rattle.kinds.specs.declared.origin.Origin.TheVariants.{Constant}
use Rattle.kinds.specs.Origins.{under, larger, checked_by, results, origin}
use Rattle.kinds.specs.Results.{tabled}

module _ (a a' b b' : Origin) (left : under a a' ≡ true) (right : under b b' ≡ true) where
  larger_monotone : under (larger a b) (larger a' b') ≡ true
  larger_monotone = grind arith

  check_monotone : under (checked_by a b) (checked_by a' b') ≡ true
  check_monotone = grind arith

  each_monotone : AllZip (λ x y. under x y ≡ true) (results a b) (results a' b')
  each_monotone = (refl, (larger_monotone, (refl, (refl, (refl, (check_monotone, tt))))))

pub operators : Operated under Constant origin.operate
operators = tabled under Constant results refl (λ a b. refl) each_monotone
