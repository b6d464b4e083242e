-- What a text reads to: a declaration, or a refusal. Assumes nothing.
use Rattle.std.specs.Prelude.{◌≡◌, ℕ, ◌⊎◌, List, length}
use Rattle.refusals.specs.declared.refusal.Refusal.{Refusal}
use Rattle.refusals.specs.declared.refusal.Refusal.TheVariants as cause
use Rattle.tokens.specs.Tokens.{Placed}
use Rattle.tokens.specs.Lexer.{Lexed, read, no_token, too_long, lexed}
use Rattle.syntax.specs.Trees.{Declaration}
use Rattle.goals.specs.Outcomes.{Outcome, tree, misplaced_at, too_deep_at, ComesTo}

pub data Reading : Type 0 where
  declaration : Declaration → Reading
  refused : Refusal → Reading

abbrev pub reading_of : Outcome → Reading
reading_of (tree d) = declaration d
reading_of (misplaced_at p) = refused (cause.Misplaced p)
reading_of (too_deep_at p) = refused (cause.TooDeep p)

-- the tokens of a text with this end read to this
abbrev pub Parses : ℕ → List Placed → Reading → Type 0
Parses end ts x = (o : Outcome) × (ComesTo end ts o × (x ≡ reading_of o))

-- a text whose tokens are known, or where it has none
abbrev pub ReadsFrom : ℕ → Lexed → Reading → Type 0
ReadsFrom end (read ts) x = Parses end ts x
ReadsFrom end (no_token p) x = x ≡ refused (cause.NoToken p)
ReadsFrom end too_long x = x ≡ refused cause.TooLong

-- the text reads to this
abbrev pub ReadsTo : List ℕ → Reading → Type 0
ReadsTo text x = ReadsFrom (length text) (lexed text) x

-- want of memory, which says nothing of the text, or the refusal of the text
abbrev pub ParseRefused : ℕ → List Placed → Refusal → Type 0
ParseRefused end ts e = (e ≡ cause.Memory) ⊎ Parses end ts (refused e)

abbrev pub ReadRefused : List ℕ → Refusal → Type 0
ReadRefused text e = (e ≡ cause.Memory) ⊎ ReadsTo text (refused e)
