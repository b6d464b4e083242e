-- What the parser of declarations answers. Assumes nothing.
use Rattle.std.specs.Prelude.{ℕ, List, [], ◌∷◌, Ok, Err, Result}
use Rattle.std.specs.Borrow.{Bor}
use Rattle.tokens.specs.declared.token.Token.{Token}
use Rattle.tokens.specs.Tokens.{Placed}
use Rattle.syntax.specs.declared.tree.Dec.{Dec}
use Rattle.syntax.specs.Meanings.{declaration_of}
use Rattle.syntax.specs.Grammar.{Declares}
use Rattle.goals.specs.Goals.{dec}
use Rattle.pieces.specs.declared.fault.Fault.{Fault}
use Rattle.pieces.specs.Seen.{seen}
use Rattle.pieces.specs.Reading.{Leads, Failed}

abbrev pub ReadsDec : ℕ → List Placed → Result (Dec × Bor (List Token)) Fault → Type 0
ReadsDec end ts (Ok x) = Declares (declaration_of x.0) ts (seen x.1) × Leads end 0 (dec ∷ []) ts [] (seen x.1)
ReadsDec end ts (Err e) = Failed end 0 (dec ∷ []) ts e
