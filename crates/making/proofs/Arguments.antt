-- Arguments and parameters one by one. Assumes nothing.
use Rattle.std.proofs.Common.{◌≡◌, ℕ, zero, suc, ◌+◌, ◌<◌, ◌≤◌, ◌⊎◌, List, [], ◌∷◌, map, length, get_or, drop, Some, None, refl, ap, ◌∙◌, inl, inr, ⊎_elim, arith}
use Rattle.rules.specs.Calls.{Operand as Argument, ints, fit, passes, value_of}
use Rattle.rules.specs.Making.{Levels as TypeLevels, levels, ◌▸◌, give}
use Rattle.rules.specs.Parts.{int}
use Rattle.making.specs.Holding.{clip_levels, clip_operand, SameLevels, SameTypes, SameOperands}
use Rattle.making.specs.declared.output.Levels.{Levels}
use Rattle.making.specs.declared.output.Operand.{Operand}
use Rattle.std.proofs.lemmas.List.{drop_more, drop_all, get_or-map, length-map}

-- argument i and parameter i; past the last any will do
abbrev pub argument : List Argument → ℕ → Argument
argument args i = get_or args i (record { place = 0; levels = levels 0 0 })

abbrev pub parameter : List TypeLevels → ℕ → TypeLevels
parameter ps i = get_or ps i (levels 0 0)

module _ (xs : List Operand) (args : List Argument) (s : SameOperands xs args) where
  pub as_many : length xs ≡ length args
  as_many = ap length s ∙ length-map args clip_operand

  operand_at : (i : ℕ) (d : Operand) → i < length xs → get_or xs i d ≡ clip_operand (argument args i)
  operand_at i d h = ap (λ l. get_or l i d) s ∙ get_or-map clip_operand args i _ d (let e = as_many in omega arith)

  pub place_at : (i : ℕ) (d : Operand) → i < length xs → (get_or xs i d).place ≡ (argument args i).place
  place_at i d h = ap (λ (z : Operand). z.place) (operand_at i d h)

  pub type_at : (i : ℕ) (d : Operand) → i < length xs → SameLevels (get_or xs i d).levels (argument args i).levels
  type_at i d h = ap (λ (z : Operand). z.levels) (operand_at i d h)

module _ (xs : List Levels) (ps : List TypeLevels) (s : SameTypes xs ps) where
  pub as_many_types : length xs ≡ length ps
  as_many_types = ap length s ∙ length-map ps clip_levels

pub value_in : (args : List Argument) (i : ℕ) → i < length args → value_of args i ≡ Some (argument args i).levels.first
value_in [] i h = absurd (omega arith)
value_in (a ∷ args) zero h = refl
value_in (a ∷ args) (suc i) h = value_in args i (omega arith)

pub value_past : (args : List Argument) (i : ℕ) → length args ≤ i → value_of args i ≡ None
value_past [] i h = refl
value_past (a ∷ args) zero h = absurd (omega arith)
value_past (a ∷ args) (suc i) h = value_past args i (omega arith)

fit_none : (args : List Argument) → fit args [] ≡ give tt
fit_none [] = refl
fit_none (a ∷ args) = refl

passes_none : (args : List Argument) → passes args [] ≡ give tt
passes_none [] = refl
passes_none (a ∷ args) = refl

module _ (args : List Argument) (i : ℕ) where
  pub ints_at : i < length args → ints (drop i args) ≡ (int (argument args i).place (argument args i).levels ▸ λ _. ints (drop (i + 1) args))
  ints_at h = ap ints (drop_more args i _ h)

  pub ints_all : length args ≤ i → ints (drop i args) ≡ give tt
  ints_all h = ap ints (drop_all i args h)

-- what stands for a list that has a front
tail : {X : Type 0} → List X → List X
tail [] = []
tail (x ∷ xs) = xs

pub front : {X Y : Type 0} (f : Y → X) (x : X) (xs : List X) (ys : List Y) → x ∷ xs ≡ map f ys → (y : Y) × (more : List Y) × (ys ≡ y ∷ more) × (x ≡ f y) × (xs ≡ map f more)
unfolding tail
front f x xs [] same = let e = ap length same in absurd (omega arith)
front f x xs (y ∷ ys) same = (y, ys, refl, ap (λ l. get_or l 0 x) same, ap tail same)

-- where one of both lists has come to its end
none_left : {X Y : Type 0} (f : Y → X) (xs : List X) (ys : List Y) → length xs ≡ 0 → xs ≡ map f ys → ys ≡ []
none_left f xs [] none same = refl
none_left f xs (y ∷ ys) none same = let e = ap length same in absurd (omega arith)

module _ (args : List Argument) (ps : List TypeLevels) where
  pub no_fit : (args ≡ []) ⊎ (ps ≡ []) → fit args ps ≡ give tt
  no_fit ends = ⊎_elim (λ a. ap (λ z. fit z ps) a) (λ p. ap (λ z. fit args z) p ∙ fit_none args) ends

  pub no_passes : (args ≡ []) ⊎ (ps ≡ []) → passes args ps ≡ give tt
  no_passes ends = ⊎_elim (λ a. ap (λ z. passes z ps) a) (λ p. ap (λ z. passes args z) p ∙ passes_none args) ends

  pub run_out : (xs : List Operand) (ys : List Levels) → SameOperands xs args → SameTypes ys ps → (length xs ≡ 0) ⊎ (length ys ≡ 0) → (args ≡ []) ⊎ (ps ≡ [])
  run_out xs ys s u ends = ⊎_elim (λ a. inl (none_left clip_operand xs args a s)) (λ p. inr (none_left clip_levels ys ps p u)) ends
