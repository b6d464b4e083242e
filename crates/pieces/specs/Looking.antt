-- What the parts of the parser that look at the front answer. Assumes nothing.
use Rattle.std.specs.Prelude.{◌≡◌, ℕ, ◌<◌, ◌≤◌, List, ◌∷◌, ◌++◌, length, Some, None, Ok, Err, Option, Result}
use Rattle.std.specs.Borrow.{Bor}
use Rattle.tokens.specs.declared.token.Token.{Token}
use Rattle.tokens.specs.declared.token.Word.TheVariants as kw
use Rattle.tokens.specs.declared.token.Symbol.TheVariants as sg
use Rattle.tokens.specs.Tokens.{Tok, word, symbol, bound, Placed}
use Rattle.syntax.specs.declared.tree.Lexeme.{Lexeme}
use Rattle.syntax.specs.declared.tree.Operator.{Operator}
use Rattle.syntax.specs.Meanings.{text_of, mark_of}
use Rattle.syntax.specs.Sorts.{at, After}
use Rattle.syntax.specs.Grammar.{strength, sign_of, Heads, Named, Marked}
use Rattle.syntax.specs.Levels.{most_levels}
use Rattle.goals.specs.Goals.{Goal, Goals, one, exp, name, binder, marks, group, sum, assign, call}
use Rattle.goals.specs.Machine.{levels, misplaced, fate}
use Rattle.pieces.specs.declared.fault.Fault.{Fault}
use Rattle.pieces.specs.declared.fault.Fault.TheVariants.{Misplaced, TooDeep, Memory}
use Rattle.pieces.specs.Seen.{seen}

-- a word or symbol is taken
abbrev pub Went : ℕ → Tok → List Placed → Result (ℕ × Bor (List Token)) Fault → Type 0
Went end t ts (Ok x) = ts ≡ at x.0 t ∷ seen x.1
Went end t ts (Err (Misplaced p)) = (S : Goals) → fate end (one t ∷ S) ts ≡ misplaced p
Went end t ts (Err (TooDeep p)) = ⊥
Went end t ts (Err Memory) = ⊥

-- a token that a goal begins with is taken, if it stands there, and else the goal comes to nothing
abbrev pub GoesOn : ℕ → Goal → Tok → Goals → List Placed → Option (Bor (List Token)) → Type 0
GoesOn end g t hs ts (Some m) =
    After t ts (seen m) × ((S : Goals) → levels S ≤ most_levels → fate end (g ∷ S) ts ≡ fate end (hs ++ S) (seen m))
GoesOn end g t hs ts None = (S : Goals) → fate end (g ∷ S) ts ≡ fate end S ts

-- an `if` is found at the front; else an expression is a sum
abbrev pub Conditions : ℕ → List Placed → Option (ℕ × Bor (List Token)) → Type 0
Conditions end ts (Some x) = ts ≡ at x.0 (word kw.If) ∷ seen x.1
Conditions end ts None =
    ((S : Goals) → fate end (exp ∷ S) ts ≡ fate end (sum ∷ S) ts) × ((S : Goals) → fate end (group ∷ S) ts ≡ fate end (sum ∷ assign ∷ S) ts)

-- a `(` is found behind a name; else the name is a variable
abbrev pub Opens : ℕ → List Placed → Option (ℕ × Bor (List Token)) → Type 0
Opens end ts (Some x) = ts ≡ at x.0 (symbol sg.Open) ∷ seen x.1
Opens end ts None = (S : Goals) → fate end (call ∷ S) ts ≡ fate end (marks ∷ S) ts

-- an operator of a strength is read from the front, if one stands there
abbrev pub Operates : ℕ → ℕ → Goal → Goal → List Placed → Option ((ℕ × Operator) × Bor (List Token)) → Type 0
Operates n end g h ts (Some x) =
    (strength x.0.1 ≡ n) × (ts ≡ at x.0.0 (sign_of x.0.1) ∷ seen x.1) × ((S : Goals) → levels S ≤ most_levels → fate end (g ∷ S) ts ≡ fate end (h ∷ g ∷ S) (seen x.1))
Operates n end g h ts None = (S : Goals) → fate end (g ∷ S) ts ≡ fate end S ts

-- name, mark and `=`
abbrev pub Headed : ℕ → List Placed → Result ((Lexeme × Option Lexeme) × Bor (List Token)) Fault → Type 0
Headed end ts (Ok x) =
    Heads (text_of x.0.0) (mark_of x.0.1) ts (seen x.1) × (length (seen x.1) < length ts) × ((S : Goals) → levels S ≤ most_levels → fate end (name ∷ binder ∷ one (symbol sg.Equals) ∷ S) ts ≡ fate end S (seen x.1))
Headed end ts (Err (Misplaced p)) =
    (S : Goals) → levels S ≤ most_levels → fate end (name ∷ binder ∷ one (symbol sg.Equals) ∷ S) ts ≡ misplaced p
Headed end ts (Err (TooDeep p)) = ⊥
Headed end ts (Err Memory) = ⊥

abbrev pub BoundMark : ℕ → List Placed → Option (Lexeme × Bor (List Token)) → Type 0
BoundMark end ts (Some x) =
    (ts ≡ at x.0.place (bound (text_of x.0).bytes) ∷ seen x.1) × ((S : Goals) → levels S ≤ most_levels → fate end (marks ∷ S) ts ≡ fate end (marks ∷ S) (seen x.1))
BoundMark end ts None = (S : Goals) → fate end (marks ∷ S) ts ≡ fate end S ts

-- a binder's mark is read, if one stands there
abbrev pub BinderMark : ℕ → List Placed → Option Lexeme × Bor (List Token) → Type 0
BinderMark end ts x =
    Marked (mark_of x.0) ts (seen x.1) × (length (seen x.1) ≤ length ts) × ((S : Goals) → levels S ≤ most_levels → fate end (binder ∷ S) ts ≡ fate end S (seen x.1))

abbrev pub Identified : ℕ → List Placed → Result (Lexeme × Bor (List Token)) Fault → Type 0
Identified end ts (Ok x) = Named (text_of x.0) ts (seen x.1)
Identified end ts (Err (Misplaced p)) = (S : Goals) → fate end (name ∷ S) ts ≡ misplaced p
Identified end ts (Err (TooDeep p)) = ⊥
Identified end ts (Err Memory) = ⊥
