-- Which refusal a text gets. Assumes nothing.
use Rattle.std.specs.Prelude.{◌≡◌, ℕ, ◌⊎◌, List, Some, None, Option}
use Rattle.refusals.specs.declared.refusal.Refusal.{Refusal}
use Rattle.refusals.specs.declared.refusal.Refusal.TheVariants.{TooLong, NoToken, Memory}
use Rattle.tokens.specs.Lexer.{Lexed, read, no_token, too_long, lexed}

abbrev pub refusal_of : Lexed → Option Refusal
refusal_of (read ts) = None
refusal_of (no_token p) = Some (NoToken p)
refusal_of too_long = Some TooLong

-- want of memory, which says nothing of the text, or the refusal of the text
abbrev pub Refused : List ℕ → Refusal → Type 0
Refused text e = (e ≡ Memory) ⊎ (refusal_of (lexed text) ≡ Some e)
