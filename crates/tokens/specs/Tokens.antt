-- The rules of tokens: which bytes spell which token, and which byte after them would be a part of it. Assumes nothing.
use Rattle.std.specs.Prelude.{◌≡◌, ℕ, ◌≤◌, Bool, true, false, List, [], ◌∷◌, ◌++◌, length, codes, ◌==◌, ◌≢◌}
use Rattle.std.specs.List.{AllByRecursion}
use Rattle.tokens.specs.Bytes.{byte, letter, digit, tail, operator}
use Rattle.tokens.specs.Limits.{longest_name, longest_literal}
use Rattle.tokens.specs.Marks.{name, Grouped}
use Rattle.tokens.specs.declared.token.Word.{Word}
use Rattle.tokens.specs.declared.token.Word.TheVariants.{Val, Fun, Let, In, End, If, Then, Else, Ref, Int, Div, Mod}
use Rattle.tokens.specs.declared.token.Symbol.{Symbol}
use Rattle.tokens.specs.declared.token.Symbol.TheVariants.{Bang, Plus, Minus, Star, Less, Colon, Equals, Assign, Open, Close, Comma, Semicolon}

-- A token by what it says, wherever its bytes lie.
pub data Tok : Type 0 where
  word : Word → Tok
  symbol : Symbol → Tok
  literal : List ℕ → Tok
  identifier : List ℕ → Tok
  binder : List ℕ → Tok  -- what stands between `(*$` and `*)`
  bound : List ℕ → Tok  -- what stands between `(*!` and `*)`

pub record Placed : Type 0 where
  pub place : ℕ
  pub tok : Tok

abbrev pub spelling : Word → List ℕ
spelling Val = codes "val"
spelling Fun = codes "fun"
spelling Let = codes "let"
spelling In = codes "in"
spelling End = codes "end"
spelling If = codes "if"
spelling Then = codes "then"
spelling Else = codes "else"
spelling Ref = codes "ref"
spelling Int = codes "int"
spelling Div = codes "div"
spelling Mod = codes "mod"

abbrev pub sign : Symbol → List ℕ
sign Bang = codes "!"
sign Plus = codes "+"
sign Minus = codes "-"
sign Star = codes "*"
sign Less = codes "<"
sign Colon = codes ":"
sign Equals = codes "="
sign Assign = codes ":="
sign Open = codes "("
sign Close = codes ")"
sign Comma = codes ","
sign Semicolon = codes ";"

-- a letter followed by letters, digits, `_` or `'`, and no reserved word
abbrev pub Named : List ℕ → Type 0
Named [] = ⊥
Named (b ∷ bs) =
    (letter b ≡ true) × AllByRecursion (λ c. tail c ≡ true) bs × (length (b ∷ bs) ≤ longest_name) × ((w : Word) → (b ∷ bs) ≢ spelling w)

-- these bytes are this token
abbrev pub Spells : List ℕ → Tok → Type 0
Spells s (word w) = s ≡ spelling w
Spells s (symbol y) = s ≡ sign y
Spells s (literal d) = (s ≡ d) × (1 ≤ length s) × (length s ≤ longest_literal) × AllByRecursion (λ b. digit b ≡ true) s
Spells s (identifier n) = (s ≡ n) × Named s
Spells s (binder m) = (s ≡ codes "(*$" ++ (m ++ codes "*)")) × ((groups : List (List (List ℕ))) × Grouped m groups)
Spells s (bound m) = (s ≡ codes "(*!" ++ (m ++ codes "*)")) × (name m ≡ true)

-- Runs of letters, digits or operator characters are read whole, and `(*` opens a mark only.
abbrev pub joins : Symbol → ℕ → Bool
joins Bang = operator
joins Plus = operator
joins Minus = operator
joins Star = operator
joins Less = operator
joins Colon = operator
joins Equals = operator
joins Assign = operator
joins Open = λ b. (b == (byte "*"))
joins Close = λ b. false
joins Comma = λ b. false
joins Semicolon = λ b. false

-- this byte right after the token would be a part of it
abbrev pub continues : Tok → ℕ → Bool
continues (word w) = tail
continues (symbol y) = joins y
continues (literal d) = digit
continues (identifier n) = tail
continues (binder m) = λ b. false
continues (bound m) = λ b. false

-- no byte that passes the test stands at the front
abbrev pub Before : (ℕ → Bool) → List ℕ → Type 0
Before p [] = Unit {0}
Before p (b ∷ bs) = p b ≡ false

-- the token ends where these bytes follow
abbrev pub Ends : Tok → List ℕ → Type 0
Ends t rest = Before (continues t) rest
