-- Origin: the chain constant, checked, entered. Assumes nothing.
use Rattle.std.specs.Prelude.{ℕ, Bool, cond, List, [], ◌∷◌, codes, nat_le, slice_index_or}
use Rattle.kinds.specs.declared.kind.Kind.{Ghosts}
use Rattle.kinds.specs.declared.origin.Origin.{Origin}
use Rattle.kinds.specs.declared.origin.Origin.TheVariants.{Constant, Checked, Entered}

abbrev pub rank_of : Origin → ℕ
rank_of Constant = 0
rank_of Checked = 1
rank_of Entered = 2

abbrev pub under : Origin → Origin → Bool
under x y = nat_le (rank_of x) (rank_of y)

abbrev pub larger : Origin → Origin → Origin
larger x y = cond (under x y) y x

abbrev pub smaller : Origin → Origin → Origin
smaller x y = cond (under x y) x y

-- a number is checked against a limit: it counts as checked at most, unless the limit itself was entered
abbrev pub checked_by : Origin → Origin → Origin
checked_by a b = cond (under b Checked) (smaller a Checked) Entered

-- what literal, arith, field, detector, clock and check give
abbrev pub results : Origin → Origin → List Origin
results a b = Constant ∷ larger a b ∷ Entered ∷ Checked ∷ Checked ∷ checked_by a b ∷ []

abbrev pub origin : Ghosts Origin
origin = record {
  below = under;
  bottom = Constant;
  join = larger;
  rank = rank_of;
  height = 2;
  operate = λ n a b. slice_index_or (a ∷ results a b) n Constant;
  names = 2;
  spelling = λ n. slice_index_or (codes "checked" ∷ codes "entered" ∷ []) n [];
  value = λ n. slice_index_or (Checked ∷ Entered ∷ []) n Constant;
}
