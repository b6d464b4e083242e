-- Types of the code, and those of the rules that they stand for. Assumes nothing.
use Rattle.std.proofs.Common.{◌≡◌, ℕ, ◌<◌, ◌≤◌, true, false, eqb, ltb, ap, ◌∙◌, arith}
use Rattle.std.proofs.lemmas.Bool.{lt-ltb, le-ltb, eq-eqb, ne_eqb}
use Rattle.making.specs.Holding.{clip, SameLevels}
use Rattle.making.specs.declared.output.Levels.{Levels}
use Rattle.rules.specs.Making.{Levels as TypeLevels}

pub same_first : {a : Levels} (x : TypeLevels) → SameLevels a x → a.first ≡ clip x.first
same_first x e = ap (λ (z : Levels). z.first) e

pub same_depth : {a : Levels} (x : TypeLevels) → SameLevels a x → a.depth ≡ x.depth
same_depth x e = ap (λ (z : Levels). z.depth) e

-- tests on a depth, as the code and as the rules make them
module _ {a : Levels} (x : TypeLevels) (s : SameLevels a x) where
  pub below_is : (n : ℕ) → a.depth < n → ltb x.depth n ≡ true
  below_is n l = lt-ltb x.depth n (let e = same_depth x s in omega arith)

  pub below_not : (n : ℕ) → n ≤ a.depth → ltb x.depth n ≡ false
  below_not n l = le-ltb x.depth n (let e = same_depth x s in omega arith)

  pub above_is : (n : ℕ) → n < a.depth → ltb n x.depth ≡ true
  above_is n l = lt-ltb n x.depth (let e = same_depth x s in omega arith)

  pub above_not : (n : ℕ) → a.depth ≤ n → ltb n x.depth ≡ false
  above_not n l = le-ltb n x.depth (let e = same_depth x s in omega arith)

  pub equal_is : (n : ℕ) → a.depth ≡ n → eqb x.depth n ≡ true
  equal_is n l = eq-eqb x.depth n (let e = same_depth x s in omega arith)

  pub equal_not : (n : ℕ) → (a.depth ≡ n → ⊥) → eqb x.depth n ≡ false
  equal_not n l = ne_eqb x.depth n (λ k. l (same_depth x s ∙ k))
