-- The tokens of a text, computed. `Reading` has the law that this keeps. Assumes nothing.
use Rattle.std.specs.Prelude.{ℕ, zero, suc, ◌+◌, ◌-◌, cond, List, [], ◌∷◌, length, Some, None, Option, nat_le}
use Rattle.refusals.specs.Refusals.{longest_text}
use Rattle.tokens.specs.Bytes.{blank}
use Rattle.tokens.specs.Finding.{Sized, token_at}
use Rattle.tokens.specs.Tokens.{Placed}

pub data Lexed : Type 0 where
  read : List Placed → Lexed
  no_token : ℕ → Lexed  -- the place of the first bytes that are no token
  too_long : Lexed

abbrev pub prepend : Placed → Lexed → Lexed
prepend t (read ts) = read (t ∷ ts)
prepend t (no_token p) = no_token p
prepend t too_long = too_long

abbrev pub step : ℕ → Option Sized → (ℕ → Lexed) → Lexed
step p None next = no_token p
step p (Some s) next = prepend (record { place = p; tok = s.tok }) (next (s.size - 1))

-- the tokens of what stands at a place and on, of which the first bytes, as many as `skip`, belong to the token before
abbrev pub scan : (skip place : ℕ) → List ℕ → Lexed
scan k p [] = read []
scan zero p (b ∷ bs) = cond (blank b) (scan zero (p + 1) bs) (step p (token_at (b ∷ bs)) (λ n. scan n (p + 1) bs))
scan (suc k) p (b ∷ bs) = scan k (p + 1) bs

abbrev pub lexed : List ℕ → Lexed
lexed text = cond (nat_le (length text) longest_text) (scan 0 0 text) too_long
