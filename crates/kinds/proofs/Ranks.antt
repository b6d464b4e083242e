-- What order and rank say together. Assumes nothing.
use Rattle.std.proofs.Common.{◌≡◌, ◌<◌, true, false, sym, subst}
use Rattle.std.proofs.lemmas.Bool.{both_ways}
use Rattle.kinds.specs.Lawful.{Lawful}
use Rattle.kinds.specs.declared.kind.Kind.{Ghosts}

-- a value joined with one that is not at or below it gets a greater rank
pub join_rises : {V : Type 0} (kind : Ghosts V) (laws : Lawful kind) (x y : V) → kind.below y x ≡ false → kind.rank x < kind.rank (kind.join x y)
join_rises kind laws x y not_under =
    laws.ranks.rises x (kind.join x y) (laws.order.join_left x y)
    (λ same. both_ways (kind.below y x) not_under (subst (λ z. kind.below y z ≡ true) (sym same) (laws.order.join_right x y)))
