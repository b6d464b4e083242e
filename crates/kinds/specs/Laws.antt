-- The laws of a kind. Assumes nothing.
use Rattle.std.specs.Prelude.{◌≡◌, ℕ, ◌<◌, ◌≤◌, Bool, true, List, [], length, ◌≢◌}
use Rattle.std.specs.List.{AllByRecursion}

-- `below`, "at or below", is a partial order; bottom is below every value; the join of two values is their least upper bound
pub record Semilattice {V : Type 0} (below : V → V → Bool) (bottom : V) (join : V → V → V) : Type 0 where
  pub reflexive : (x : V) → below x x ≡ true
  pub antisymmetric : (x y : V) → below x y ≡ true → below y x ≡ true → x ≡ y
  pub transitive : (x y z : V) → below x y ≡ true → below y z ≡ true → below x z ≡ true
  pub least : (x : V) → below bottom x ≡ true
  pub join_left : (x y : V) → below x (join x y) ≡ true
  pub join_right : (x y : V) → below y (join x y) ≡ true
  pub join_least : (x y z : V) → below x z ≡ true → below y z ≡ true → below (join x y) z ≡ true

-- no value ranks above the height, and a value strictly above another has a greater rank
pub record Ranked {V : Type 0} (below : V → V → Bool) (rank : V → ℕ) (height : ℕ) : Type 0 where
  pub within : (x : V) → rank x ≤ height
  pub rises : (x y : V) → below x y ≡ true → (x ≢ y) → rank x < rank y

-- the operators are 0 move, 1 literal, 2 arith, 3 field, 4 detector, 5 clock, 6 check
abbrev pub highest_operator : ℕ
highest_operator = 6

-- every operator is monotone in both operands, the move gives its first, and a number above the highest operator gives bottom
pub record Operated {V : Type 0} (below : V → V → Bool) (bottom : V) (operate : ℕ → V → V → V) : Type 0 where
  pub monotone : (n : ℕ) (a a' b b' : V) → below a a' ≡ true → below b b' ≡ true → below (operate n a b) (operate n a' b') ≡ true
  pub move : (a b : V) → operate 0 a b ≡ a
  pub none : (n : ℕ) (a b : V) → highest_operator < n → operate n a b ≡ bottom

abbrev pub LowerCase : ℕ → Type 0
LowerCase c = (97 ≤ c) × (c ≤ 122)

abbrev pub longest_spelling : ℕ
longest_spelling = 16

-- the names are numbered from 0: each has a spelling of lower-case letters and a value that is not bottom; a number past the last
-- has the empty spelling and bottom
pub record Named {V : Type 0} (bottom : V) (names : ℕ) (spelling : ℕ → List ℕ) (value : ℕ → V) : Type 0 where
  pub spelled : (n : ℕ) → n < names → 1 ≤ length (spelling n)
  pub short : (n : ℕ) → n < names → length (spelling n) ≤ longest_spelling
  pub letters : (n : ℕ) → n < names → AllByRecursion LowerCase (spelling n)
  pub raised : (n : ℕ) → n < names → value n ≢ bottom
  pub unspelled : (n : ℕ) → names ≤ n → spelling n ≡ []
  pub unraised : (n : ℕ) → names ≤ n → value n ≡ bottom

-- the laws of a kind
pub record KindLaws {V : Type 0} (below : V → V → Bool) (bottom : V) (join : V → V → V) (rank : V → ℕ) (height : ℕ)
    (operate : ℕ → V → V → V) (names : ℕ) (spelling : ℕ → List ℕ) (value : ℕ → V) : Type 0 where
  pub order : Semilattice below bottom join
  pub ranks : Ranked below rank height
  pub operators : Operated below bottom operate
  pub naming : Named bottom names spelling value

-- the most names, and the greatest height, of a kind and of a plain kind
abbrev pub kind_limit : ℕ
kind_limit = 200

abbrev pub plain_limit : ℕ
plain_limit = 100

pub record Limited (limit names height : ℕ) : Type 0 where
  pub few : names ≤ limit
  pub low : height ≤ limit

-- no two names have the same spelling
abbrev pub Distinct : ℕ → (ℕ → List ℕ) → Type 0
Distinct names spelling = (m n : ℕ) → m < names → n < names → spelling m ≡ spelling n → m ≡ n
