-- What stands in a mark: groups joined by `/`, each of names joined by `,`. Assumes nothing.
use Rattle.std.specs.Prelude.{◌≡◌, ℕ, ◌≤◌, Bool, true, ◌&&◌, List, [], ◌∷◌, map, length, Some, None, Option, ◌==◌, nat_le}
use Rattle.std.specs.Borrow.{Bor}
use Rattle.std.specs.List.{AllByRecursion, list_all, join_with_byte, slice_split}
use Rattle.tokens.specs.Bytes.{byte, letter}
use Rattle.tokens.specs.Limits.{longest_name}

-- a name in a mark: letters, at least one
abbrev pub name : List ℕ → Bool
name s = nat_le 1 (length s) && (nat_le (length s) longest_name && list_all letter s)

-- m is groups joined by `/`; a group is empty, or names joined by `,`
pub record Grouped (m : List ℕ) (groups : List (List (List ℕ))) : Type 0 where
  pub some : 1 ≤ length groups
  pub named : AllByRecursion (λ g. AllByRecursion (λ n. name n ≡ true) g) groups
  pub joined : m ≡ join_with_byte (byte "/") (map (join_with_byte (byte ",")) groups)

-- how a mark is taken apart again: what stands between the bytes c
abbrev pub parts : ℕ → List ℕ → List (List ℕ)
parts c bs = slice_split (λ b. b == c) bs

abbrev pub names_of : List ℕ → List (List ℕ)
names_of [] = []
names_of (b ∷ bs) = parts (byte ",") (b ∷ bs)

abbrev pub groups_of : List ℕ → List (List (List ℕ))
groups_of m = map names_of (parts (byte "/") m)

-- each name of each group is one
abbrev pub grouped : List ℕ → Bool
grouped m = list_all (list_all name) (groups_of m)

-- the parts of what follows the first byte c, where there is one
abbrev pub further : ℕ → Option (Bor (List ℕ)) → List (List ℕ)
further c None = []
further c (Some rest) = parts c rest.now
