-- Which number a spelling is found as. Assumes nothing.
use Rattle.std.specs.Prelude.{◌≡◌, ℕ, zero, suc, ◌<◌, Bool, cond, List, Some, None, Option, MatchOption}
use Rattle.std.specs.Str.{bytes_eq}
use Rattle.kinds.specs.declared.kind.Kind.{Ghosts}

-- a name spelled `spelling` is meant by the text `sought`, as a fact and as a test
abbrev pub SameSpelling : List ℕ → List ℕ → Type 0
SameSpelling spelling sought = spelling ≡ sought

abbrev pub same_spelling : List ℕ → List ℕ → Bool
same_spelling = bytes_eq

-- the first of the numbers n, n + 1 .. whose spelling means the text, where `left` of them are names
abbrev pub first_from : (ℕ → List ℕ) → List ℕ → ℕ → ℕ → Option ℕ
first_from spelling sought n zero = None
first_from spelling sought n (suc left) = cond (same_spelling (spelling n) sought) (Some n) (first_from spelling sought (suc n) left)

-- the number that a text is found as
abbrev pub number_of : {V : Type 0} → Ghosts V → List ℕ → Option ℕ
number_of kind sought = first_from kind.spelling sought 0 kind.names

-- no name numbered below `n` is meant
abbrev pub NoneBelow : (ℕ → List ℕ) → List ℕ → ℕ → Type 0
NoneBelow spelling sought n = (m : ℕ) → m < n → SameSpelling (spelling m) sought → ⊥

-- the lowest number of a name that is meant
pub record LowestNumber {V : Type 0} (kind : Ghosts V) (sought : List ℕ) (n : ℕ) : Type 0 where
  pub is_name : n < kind.names
  pub spells : SameSpelling (kind.spelling n) sought
  pub lowest : NoneBelow kind.spelling sought n

-- what is found is the lowest number, and nothing where no name is meant
abbrev pub FoundAs : {V : Type 0} → Ghosts V → List ℕ → Option ℕ → Type 0
FoundAs kind sought found = MatchOption found (NoneBelow kind.spelling sought kind.names) (LowestNumber kind sought)
