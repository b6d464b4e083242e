-- The ranks of a pair, from those of its sides. Assumes nothing.
use Rattle.std.specs.Prelude.{◌≡◌, ◌<◌, true, ◌⊎◌}
use Rattle.std.proofs.Common.{ap, subst, inl, inr, ⊎_elim, arith}
use Rattle.std.proofs.lemmas.Bool.{cases_Bool, both_ways, and_parts}
use Rattle.kinds.specs.Laws.{Ranked}
use Rattle.kinds.specs.Lawful.{Lawful}
use Rattle.kinds.specs.declared.kind.Kind.{Ghosts}
use Rattle.kinds.specs.declared.pair.Pair.{Pair}
use Rattle.kinds.specs.Pairs.{side_by_side}

-- a value at or below another is equal to it or ranks below it
pub same_or_rises : {V : Type 0} (kind : Ghosts V) (laws : Lawful kind) (x y : V) → kind.below x y ≡ true → (x ≡ y) ⊎ (kind.rank x < kind.rank y)
same_or_rises kind laws x y up =
    ⊎_elim
    (λ back. inl (laws.order.antisymmetric x y up back))
    (λ apart. inr (laws.ranks.rises x y up (λ same. both_ways (kind.below y x) apart (subst (λ z. kind.below z x ≡ true) same (laws.order.reflexive x)))))
    (cases_Bool (kind.below y x))

module _ {A B : Type 0} (a : Ghosts A) (b : Ghosts B) (a_laws : Lawful a) (b_laws : Lawful b) where
  rises : (x y : Pair A B) → (side_by_side a b).below x y ≡ true → (x ≡ y → ⊥) → (side_by_side a b).rank x < (side_by_side a b).rank y
  rises x y up differ =
      let sides = and_parts (a.below x.left y.left) (b.below x.right y.right) up in
      let left = same_or_rises a a_laws x.left y.left sides.0 in
      let right = same_or_rises b b_laws x.right y.right sides.1 in
      ⊎_elim
      (λ l. ⊎_elim (λ r. absurd (differ (λ i. record { left = l i; right = r i }))) (λ r. let s = ap a.rank l in omega arith) right)
      (λ l. ⊎_elim (λ r. let s = ap b.rank r in omega arith) (λ r. omega arith) right)
      left

  pub pair_ranks : Ranked (side_by_side a b).below (side_by_side a b).rank (side_by_side a b).height
  pair_ranks = record {
    within = λ x. let l = a_laws.ranks.within x.left in let r = b_laws.ranks.within x.right in omega arith;
    rises = rises;
  }
