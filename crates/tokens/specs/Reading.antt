-- What it means that a text reads as tokens, and where it does not. Assumes nothing.
use Rattle.std.specs.Prelude.{◌≡◌, ℕ, ◌+◌, ◌<◌, ◌≤◌, true, List, [], ◌∷◌, ◌++◌, length}
use Rattle.std.specs.List.{AllByRecursion}
use Rattle.refusals.specs.Refusals.{longest_text}
use Rattle.tokens.specs.Bytes.{blank}
use Rattle.tokens.specs.Tokens.{Tok, Placed, Spells, Ends, Before}
use Rattle.tokens.specs.Lexer.{Lexed, read, no_token, too_long}

abbrev pub Blanks : List ℕ → Type 0
Blanks bs = AllByRecursion (λ b. blank b ≡ true) bs

-- At the front of some bytes, of which the first has the place p, stand blanks and then the token t, as long as it can be.
pub record Front (p : ℕ) (bs : List ℕ) (t : Placed) : Type 0 where
  pub blanks : List ℕ
  pub lexeme : List ℕ
  pub rest : List ℕ
  pub text : bs ≡ blanks ++ (lexeme ++ rest)
  pub all_blank : Blanks blanks
  pub place : t.place ≡ p + length blanks
  pub spells : Spells lexeme t.tok
  pub ends : Ends t.tok rest

-- The bytes from the place p on are these tokens, one after the other, and then what is left.
abbrev pub Reads : ℕ → List ℕ → List Placed → List ℕ → Type 0
Reads p bs [] left = bs ≡ left
Reads p bs (t ∷ ts) left = (f : Front p bs t) × Reads (t.place + length f.lexeme) f.rest ts left

-- They are these tokens and blanks.
abbrev pub ReadsAs : ℕ → List ℕ → List Placed → Type 0
ReadsAs p bs ts = (left : List ℕ) × Reads p bs ts left × Blanks left

-- No token stands here that is as long as can be: the longest run of its class that begins here is as a whole no token.
abbrev pub NoToken : List ℕ → Type 0
NoToken bs = (t : Tok) (lexeme rest : List ℕ) → bs ≡ lexeme ++ rest → Spells lexeme t → Ends t rest → ⊥

-- They are tokens and blanks up to the place q, where neither a blank nor a token stands.
pub record Stops (p : ℕ) (bs : List ℕ) (q : ℕ) : Type 0 where
  pub tokens : List Placed
  pub blanks : List ℕ
  pub at : List ℕ
  pub reads : Reads p bs tokens (blanks ++ at)
  pub all_blank : Blanks blanks
  pub place : q + length at ≡ p + length bs
  pub some : 1 ≤ length at
  pub no_blank : Before blank at
  pub no_token : NoToken at

-- The law of the lexer's answers.
abbrev pub Law : List ℕ → Lexed → Type 0
Law text (read ts) = (length text ≤ longest_text) × ReadsAs 0 text ts
Law text (no_token p) = (length text ≤ longest_text) × Stops 0 text p
Law text too_long = longest_text < length text
