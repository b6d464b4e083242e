-- Sources: sets of the three flags form, loop and clock. Assumes nothing.
use Rattle.std.specs.Prelude.{ℕ, ◌+◌, Bool, true, false, cond, not, ◌&&◌, ◌||◌, List, [], ◌∷◌, codes, slice_index_or}
use Rattle.kinds.specs.declared.kind.Kind.{Ghosts}
use Rattle.kinds.specs.declared.sources.Sources.{Sources}

abbrev pub flags : Bool → Bool → Bool → Sources
flags f l c = record { form = f; looped = l; clock = c }

abbrev pub implies : Bool → Bool → Bool
implies a b = not a || b

abbrev pub subset : Sources → Sources → Bool
subset x y = implies x.form y.form && (implies x.looped y.looped && implies x.clock y.clock)

abbrev pub empty : Sources
empty = flags false false false

abbrev pub union : Sources → Sources → Sources
union x y = flags (x.form || y.form) (x.looped || y.looped) (x.clock || y.clock)

abbrev pub one_if : Bool → ℕ
one_if b = cond b 1 0

abbrev pub size : Sources → ℕ
size x = one_if x.form + one_if x.looped + one_if x.clock

abbrev pub with_form : Sources → Sources
with_form a = flags true a.looped a.clock

abbrev pub with_loop : Sources → Sources
with_loop a = flags a.form true a.clock

abbrev pub with_clock : Sources → Sources
with_clock a = flags a.form a.looped true

-- what literal, arith, field, detector, clock and check give
abbrev pub results : Sources → Sources → List Sources
results a b = empty ∷ union a b ∷ with_form a ∷ with_loop a ∷ with_clock a ∷ union a b ∷ []

abbrev pub sources : Ghosts Sources
sources = record {
  below = subset;
  bottom = empty;
  join = union;
  rank = size;
  height = 3;
  operate = λ n a b. slice_index_or (a ∷ results a b) n empty;
  names = 3;
  spelling = λ n. slice_index_or (codes "form" ∷ codes "loop" ∷ codes "clock" ∷ []) n [];
  value = λ n. slice_index_or (with_form empty ∷ with_loop empty ∷ with_clock empty ∷ []) n empty;
}
