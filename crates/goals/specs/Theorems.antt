-- Theorems about the grammar. Assumes nothing.
use Rattle.std.specs.Prelude.{◌≡◌, ℕ, List, []}
use Rattle.tokens.specs.Tokens.{Placed}
use Rattle.syntax.specs.Trees.{Declaration}
use Rattle.syntax.specs.Grammar.{Declares}
use Rattle.goals.specs.Outcomes.{Outcome, ComesTo}

-- At most one tree stands for some tokens.
abbrev pub Unambiguous : Type 0
Unambiguous = (ts : List Placed) (d e : Declaration) → Declares d ts [] → Declares e ts [] → d ≡ e

-- Any tokens come to something,
abbrev pub Answered : Type 0
Answered = (end : ℕ) (ts : List Placed) → (o : Outcome) × ComesTo end ts o

-- and to one thing only.
abbrev pub Single : Type 0
Single = (end : ℕ) (ts : List Placed) (o q : Outcome) → ComesTo end ts o → ComesTo end ts q → o ≡ q
