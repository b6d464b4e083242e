-- The operators of Sources are monotone. Assumes nothing.
use Rattle.std.specs.Prelude.{◌≡◌, true, refl}
use Rattle.std.proofs.Common.{arith}
use Rattle.std.specs.List.{AllZip}
use Rattle.kinds.specs.Laws.{Operated}
use Rattle.kinds.specs.declared.sources.Sources.{Sources}
use Rattle.kinds.specs.SourceSets.{subset, empty, union, with_form, with_loop, with_clock, results, sources}
use Rattle.kinds.specs.Results.{tabled}

module _ (a a' b b' : Sources) (left : subset a a' ≡ true) (right : subset b b' ≡ true) where
  union_monotone : subset (union a b) (union a' b') ≡ true
  union_monotone = grind arith

  form_monotone : subset (with_form a) (with_form a') ≡ true
  form_monotone = grind arith

  loop_monotone : subset (with_loop a) (with_loop a') ≡ true
  loop_monotone = grind arith

  clock_monotone : subset (with_clock a) (with_clock a') ≡ true
  clock_monotone = grind arith

  each_monotone : AllZip (λ x y. subset x y ≡ true) (results a b) (results a' b')
  each_monotone = (refl, (union_monotone, (form_monotone, (loop_monotone, (clock_monotone, (union_monotone, tt))))))

pub operators : Operated subset empty sources.operate
operators = tabled subset empty results refl (λ a b. refl) each_monotone
