-- The tokens that a slice holds. Assumes nothing.
use Rattle.std.specs.Prelude.{List, map, Some, None, Ok, Err, Option, Result}
use Rattle.std.specs.Borrow.{Bor}
use Rattle.tokens.specs.declared.token.Token.{Token}
use Rattle.tokens.specs.Tokens.{Placed}
use Rattle.tokens.specs.Meanings.{placed}

abbrev pub seen : Bor (List Token) → List Placed
seen ts = map placed ts.now

-- what is answered, with the tokens that are left behind it
abbrev pub left : {A E : Type 0} → Result A E → Bor (List Token) → Result (A × Bor (List Token)) E
left (Ok x) rest = Ok (x, rest)
left (Err e) rest = Err e

abbrev pub left_if : {A : Type 0} → Option A → Bor (List Token) → Option (A × Bor (List Token))
left_if (Some x) rest = Some (x, rest)
left_if None rest = None
