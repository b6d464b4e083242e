-- Pair: two kinds side by side. Assumes nothing.
use Rattle.std.specs.Prelude.{◌+◌, ◌-◌, cond, ◌&&◌, nat_lt}
use Rattle.kinds.specs.declared.kind.Kind.{Ghosts}
use Rattle.kinds.specs.declared.pair.Pair.{Pair}

abbrev pub pair : {A B : Type 0} → A → B → Pair A B
pair x y = record { left = x; right = y }

-- order, join, bottom and operators on each side for itself; height and number of names are the sums; the left names come
-- first, then the right ones, each with the other side bottom
abbrev pub side_by_side : {A B : Type 0} → Ghosts A → Ghosts B → Ghosts (Pair A B)
side_by_side a b = record {
  below = λ x y. a.below x.left y.left && b.below x.right y.right;
  bottom = pair a.bottom b.bottom;
  join = λ x y. pair (a.join x.left y.left) (b.join x.right y.right);
  rank = λ x. a.rank x.left + b.rank x.right;
  height = a.height + b.height;
  operate = λ n x y. pair (a.operate n x.left y.left) (b.operate n x.right y.right);
  names = a.names + b.names;
  spelling = λ n. cond (nat_lt n a.names) (a.spelling n) (b.spelling (n - a.names));
  value = λ n. cond (nat_lt n a.names) (pair (a.value n) b.bottom) (pair a.bottom (b.value (n - a.names)));
}
