-- What the grammar sees of a token: which word or symbol it is, or only that it is a literal, an identifier or a mark. Assumes nothing.
use Rattle.std.specs.Prelude.{◌≡◌, ℕ, Bool, List, ◌∷◌, ◌==◌}
use Rattle.tokens.specs.Tokens.{Tok, word, symbol, literal, identifier, binder, bound, Placed}
use Rattle.tokens.specs.declared.token.Word.{Word}
use Rattle.tokens.specs.declared.token.Word.TheVariants.{Val, Fun, Let, In, End, If, Then, Else, Ref, Int, Div, Mod}
use Rattle.tokens.specs.declared.token.Symbol.{Symbol}
use Rattle.tokens.specs.declared.token.Symbol.TheVariants.{Bang, Plus, Minus, Star, Less, Colon, Equals, Assign, Open, Close, Comma, Semicolon}

abbrev pub at : ℕ → Tok → Placed
at p t = record { place = p; tok = t }

-- the tokens are this one, at some place, and then m
abbrev pub After : Tok → List Placed → List Placed → Type 0
After t ts m = (p : ℕ) × (ts ≡ at p t ∷ m)

abbrev pub word_sort : Word → ℕ
word_sort Val = 0
word_sort Fun = 1
word_sort Let = 2
word_sort In = 3
word_sort End = 4
word_sort If = 5
word_sort Then = 6
word_sort Else = 7
word_sort Ref = 8
word_sort Int = 9
word_sort Div = 10
word_sort Mod = 11

abbrev pub symbol_sort : Symbol → ℕ
symbol_sort Bang = 12
symbol_sort Plus = 13
symbol_sort Minus = 14
symbol_sort Star = 15
symbol_sort Less = 16
symbol_sort Colon = 17
symbol_sort Equals = 18
symbol_sort Assign = 19
symbol_sort Open = 20
symbol_sort Close = 21
symbol_sort Comma = 22
symbol_sort Semicolon = 23

-- a number for each sort of token
abbrev pub sort : Tok → ℕ
sort (word w) = word_sort w
sort (symbol y) = symbol_sort y
sort (literal d) = 24
sort (identifier n) = 25
sort (binder m) = 26
sort (bound m) = 27

abbrev pub same_sort : Tok → Tok → Bool
same_sort t u = sort t == sort u
