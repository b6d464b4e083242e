-- What the code's tokens say. Assumes nothing.
use Rattle.tokens.specs.declared.token.Mark.{Mark}
use Rattle.tokens.specs.declared.token.Mark.TheVariants.{Binder, Bound}
use Rattle.tokens.specs.declared.token.TokenKind.{TokenKind}
use Rattle.tokens.specs.declared.token.TokenKind.TheVariants as kind
use Rattle.tokens.specs.declared.token.Token.{Token}
use Rattle.tokens.specs.Tokens.{Tok, word, symbol, literal, identifier, binder, bound, Placed}

abbrev pub marked : Mark → Tok
marked (Binder m) = binder m.now
marked (Bound m) = bound m.now

abbrev pub meaning : TokenKind → Tok
meaning (kind.Word w) = word w
meaning (kind.Symbol y) = symbol y
meaning (kind.Literal s) = literal s.now
meaning (kind.Identifier s) = identifier s.now
meaning (kind.Mark m) = marked m

abbrev pub placed : Token → Placed
placed t = record { place = t.place; tok = meaning t.kind }
