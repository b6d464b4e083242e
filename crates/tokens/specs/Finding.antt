-- The token at the front of a text, computed. Assumes nothing.
use Rattle.std.specs.Prelude.{ℕ, ◌+◌, Bool, false, cond, ◌&&◌, List, [], ◌∷◌, take, drop, Some, None, Option, ◌==◌, nat_eq, nat_le}
use Rattle.std.specs.List.{prefix_len}
use Rattle.std.specs.Str.{bytes_eq}
use Rattle.tokens.specs.Bytes.{byte, letter, digit, tail, operator, marking}
use Rattle.tokens.specs.Limits.{longest_name, longest_literal}
use Rattle.tokens.specs.Marks.{name, grouped}
use Rattle.tokens.specs.Tokens.{Tok, word, symbol, literal, identifier, binder, bound, spelling}
use Rattle.tokens.specs.declared.token.Word.{Word}
use Rattle.tokens.specs.declared.token.Word.TheVariants.{Val, Fun, Let, In, End, If, Then, Else, Ref, Int, Div, Mod}
use Rattle.tokens.specs.declared.token.Symbol.{Symbol}
use Rattle.tokens.specs.declared.token.Symbol.TheVariants.{Bang, Plus, Minus, Star, Less, Colon, Equals, Assign, Open, Close, Comma, Semicolon}

abbrev pub reserved : List Word
reserved = Val ∷ Fun ∷ Let ∷ In ∷ End ∷ If ∷ Then ∷ Else ∷ Ref ∷ Int ∷ Div ∷ Mod ∷ []

abbrev pub first_word : List Word → List ℕ → Tok
first_word [] s = identifier s
first_word (w ∷ ws) s = cond (bytes_eq s (spelling w)) (word w) (first_word ws s)

-- a reserved word, or else an identifier
abbrev pub word_of : List ℕ → Tok
word_of s = first_word reserved s

abbrev pub sign_of : ℕ → Option Symbol
sign_of b =
    cond (b == (byte "!")) (Some Bang)
    (cond (b == (byte "+")) (Some Plus)
    (cond (b == (byte "-")) (Some Minus)
    (cond (b == (byte "*")) (Some Star)
    (cond (b == (byte "<")) (Some Less)
    (cond (b == (byte ":")) (Some Colon)
    (cond (b == (byte "=")) (Some Equals) None))))))

-- a run of operator characters is one of them or `:=`
abbrev pub operator_of : List ℕ → Option Symbol
operator_of [] = None
operator_of (b ∷ []) = sign_of b
operator_of (b ∷ c ∷ []) = cond (b == (byte ":") && c == (byte "=")) (Some Assign) None
operator_of (b ∷ c ∷ d ∷ bs) = None

-- a token and how many bytes it has
pub record Sized : Type 0 where
  pub size : ℕ
  pub tok : Tok

abbrev pub sized : ℕ → Tok → Option Sized
sized n t = Some (record { size = n; tok = t })

-- a run of n bytes that begins with a letter
abbrev pub word_run : ℕ → List ℕ → Option Sized
word_run n bs = cond (nat_le n longest_name) (sized n (word_of (take n bs))) None

abbrev pub digit_run : ℕ → List ℕ → Option Sized
digit_run n bs = cond (nat_le n longest_literal) (sized n (literal (take n bs))) None

abbrev pub size_symbol : ℕ → Option Symbol → Option Sized
size_symbol n None = None
size_symbol n (Some y) = sized n (symbol y)

abbrev pub operator_run : ℕ → List ℕ → Option Sized
operator_run n bs = size_symbol n (operator_of (take n bs))

-- `*)` stands at the front
abbrev pub closes : List ℕ → Bool
closes [] = false
closes (a ∷ []) = false
closes (a ∷ b ∷ bs) = a == byte "*" && b == byte ")"

-- what follows `(*$`, n bytes of which may stand in the mark
abbrev pub binder_mark : ℕ → List ℕ → Option Sized
binder_mark n bs = cond (closes (drop n bs) && grouped (take n bs)) (sized (n + 5) (binder (take n bs))) None

-- what follows `(*!`, which begins with n letters
abbrev pub bound_mark : ℕ → List ℕ → Option Sized
bound_mark n bs = cond (closes (drop n bs) && name (take n bs)) (sized (n + 5) (bound (take n bs))) None

-- what follows `(*`
abbrev pub mark : List ℕ → Option Sized
mark [] = None
mark (b ∷ bs) =
    cond (b == (byte "$")) (binder_mark (prefix_len marking bs) bs) (cond (b == (byte "!")) (bound_mark (prefix_len letter bs) bs) None)

-- what follows `(`
abbrev pub opened : List ℕ → Option Sized
opened [] = sized 1 (symbol Open)
opened (b ∷ bs) = cond (b == (byte "*")) (mark bs) (sized 1 (symbol Open))

-- the token at the front of a text
abbrev pub token_at : List ℕ → Option Sized
token_at [] = None
token_at (b ∷ bs) =
    cond (letter b) (word_run (prefix_len tail (b ∷ bs)) (b ∷ bs))
    (cond (digit b) (digit_run (prefix_len digit (b ∷ bs)) (b ∷ bs))
    (cond (operator b) (operator_run (prefix_len operator (b ∷ bs)) (b ∷ bs))
    (cond (nat_eq b (byte "(")) (opened bs)
    (cond (b == byte ")") (sized 1 (symbol Close))
    (cond (b == (byte ",")) (sized 1 (symbol Comma))
    (cond (b == (byte ";")) (sized 1 (symbol Semicolon)) None))))))
