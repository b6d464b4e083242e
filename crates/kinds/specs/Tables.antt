-- A kind's spellings, copied to a table. Assumes nothing.
use Rattle.std.specs.Prelude.{◌≡◌, ℕ, ◌<◌, List, [], length, map, Option, slice_index_or}
use Rattle.kinds.specs.declared.kind.Kind.{Ghosts}
use Rattle.kinds.specs.declared.spellings.Spellings.{Spellings}
use Rattle.kinds.specs.Find.{first_from}

-- the spellings in a table, in the order of their numbers
abbrev pub texts : Spellings → List (List ℕ)
texts table = map (λ s. s.now) table.words.items

-- the spelling of a number in a table
abbrev pub spelled : Spellings → ℕ → List ℕ
spelled table n = slice_index_or (texts table) n []

-- the number that a text is found as in a table
abbrev pub number_in : Spellings → List ℕ → Option ℕ
number_in table sought = first_from (spelled table) sought 0 (length (texts table))

-- a table has a kind's spellings
pub record Copies {V : Type 0} (kind : Ghosts V) (table : Spellings) : Type 0 where
  pub count : length (texts table) ≡ kind.names
  pub words : (n : ℕ) → n < kind.names → spelled table n ≡ kind.spelling n
