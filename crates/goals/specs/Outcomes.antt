-- What the tokens of a text come to: a tree, or the place where they do not go on. Assumes nothing.
use Rattle.std.specs.Prelude.{◌≡◌, ℕ, ◌+◌, List, [], ◌∷◌, ◌++◌, length, take}
use Rattle.tokens.specs.Tokens.{Placed}
use Rattle.syntax.specs.Trees.{Declaration}
use Rattle.syntax.specs.Grammar.{Declares}
use Rattle.syntax.specs.Levels.{most_levels, levels_in, AtMost}

-- where the next token begins, or the text ends
abbrev pub place_at : ℕ → List Placed → ℕ
place_at end [] = end
place_at end (t ∷ ts) = t.place

-- the tokens are those of a declaration
abbrev pub Whole : List Placed → Type 0
Whole ts = (d : Declaration) × Declares d ts []

-- some declaration, of any nesting, begins with these tokens
abbrev pub Viable : List Placed → Type 0
Viable before = (u : List Placed) × Whole (before ++ u)

-- no declaration, of any nesting, goes on with what comes: the first token, or the end
abbrev pub Dead : List Placed → List Placed → Type 0
Dead before [] = Whole before → ⊥
Dead before (t ∷ after) = (u : List Placed) → Whole (before ++ (t ∷ u)) → ⊥

-- in every declaration that begins with these tokens, each of them stands within few enough levels
abbrev pub Shallow : List Placed → Type 0
Shallow before =
    (u : List Placed) (d : Declaration) → Declares d (before ++ u) [] → AtMost most_levels (take (length before) (levels_in d))

-- p is the place of the first token, or of the text's end, with which no declaration goes on
pub record Misplaced (end : ℕ) (ts : List Placed) (p : ℕ) : Type 0 where
  pub before : List Placed
  pub after : List Placed
  pub split : ts ≡ before ++ after
  pub here : p ≡ place_at end after
  pub viable : Viable before
  pub shallow : Shallow before
  pub dead : Dead before after

-- p is the place of the first token that opens a level too many: some declaration goes on with it, and in each that does
-- it stands within one level more than may be open
pub record TooDeep (ts : List Placed) (p : ℕ) : Type 0 where
  pub before : List Placed
  pub opening : Placed
  pub after : List Placed
  pub split : ts ≡ before ++ (opening ∷ after)
  pub here : p ≡ opening.place
  pub viable : Viable (before ++ (opening ∷ []))
  pub shallow : Shallow before
  pub deep : (u : List Placed) (d : Declaration) → Declares d (before ++ (opening ∷ u)) [] →
      (later : List ℕ) × (levels_in d ≡ take (length before) (levels_in d) ++ ((most_levels + 1) ∷ later))

pub data Outcome : Type 0 where
  tree : Declaration → Outcome
  misplaced_at : ℕ → Outcome
  too_deep_at : ℕ → Outcome

-- what the tokens of a text with this end come to
abbrev pub ComesTo : ℕ → List Placed → Outcome → Type 0
ComesTo end ts (tree d) = Declares d ts [] × AtMost most_levels (levels_in d)
ComesTo end ts (misplaced_at p) = Misplaced end ts p
ComesTo end ts (too_deep_at p) = TooDeep ts p
