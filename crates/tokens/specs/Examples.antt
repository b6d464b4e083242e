-- Some texts and their tokens. Assumes nothing.
use Rattle.std.specs.Prelude.{◌≡◌, ℕ, [], ◌∷◌, codes}
use Rattle.tokens.specs.Tokens.{Tok, word, symbol, literal, identifier, binder, bound, Placed}
use Rattle.tokens.specs.Lexer.{read, no_token, lexed}
use Rattle.tokens.specs.declared.token.Word.TheVariants.{Val, If, Then}
use Rattle.tokens.specs.declared.token.Symbol.TheVariants.{Bang, Less, Equals, Open, Close}

abbrev at : ℕ → Tok → Placed
at p t = record { place = p; tok = t }

pub record Examples : Type 0 where
  pub empty : lexed [] ≡ read []
  pub run : lexed (codes "val x = !!p") ≡ no_token 8
  pub bad : lexed (codes "val bad = (!q) (*!entered*)") ≡ read (at 0 (word Val) ∷ at 4 (identifier (codes "bad")) ∷ at 8 (symbol Equals) ∷ at 10 (symbol Open) ∷ at 11 (symbol Bang) ∷ at 12 (identifier (codes "q")) ∷ at 13 (symbol Close) ∷ at 15 (bound (codes "entered")) ∷ [])
  pub touching : lexed (codes "if 1<2then") ≡ read (at 0 (word If) ∷ at 3 (literal (codes "1")) ∷ at 4 (symbol Less) ∷ at 5 (literal (codes "2")) ∷ at 6 (word Then) ∷ [])
  pub groups : lexed (codes "val q(*$checked,entered/*)=r") ≡ read (at 0 (word Val) ∷ at 4 (identifier (codes "q")) ∷ at 5 (binder (codes "checked,entered/")) ∷ at 26 (symbol Equals) ∷ at 27 (identifier (codes "r")) ∷ [])
  pub open_star : lexed (codes "val x = (*3)") ≡ no_token 8
  pub blank_in_mark : lexed (codes "x (*$a b*)") ≡ no_token 2
  pub lone_comma : lexed (codes "x (*$a,*)") ≡ no_token 2
  pub whole_text : lexed (codes "val val $") ≡ no_token 8
  pub longest_name : lexed (codes "abcdefghijklmnop") ≡ read (at 0 (identifier (codes "abcdefghijklmnop")) ∷ [])
  pub long_name : lexed (codes "a abcdefghijklmnopq") ≡ no_token 2
  pub longest_literal : lexed (codes "123456789") ≡ read (at 0 (literal (codes "123456789")) ∷ [])
  pub long_literal : lexed (codes "1234567890") ≡ no_token 0
