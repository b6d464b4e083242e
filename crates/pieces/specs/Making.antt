-- What the makers of trees answer: the tree of its parts, if there is memory for it. Assumes nothing.
use Rattle.std.specs.Prelude.{◌≡◌, ℕ, ◌<◌, ◌≤◌, List, ◌∷◌, Ok, Err, Option, Result}
use Rattle.tokens.specs.declared.token.Word.TheVariants as kw
use Rattle.tokens.specs.declared.token.Symbol.TheVariants as sg
use Rattle.tokens.specs.Tokens.{Tok, word, symbol, identifier, Placed}
use Rattle.syntax.specs.declared.tree.Exp.{Exp}
use Rattle.syntax.specs.declared.tree.Args.{Args}
use Rattle.syntax.specs.declared.tree.Vals.{Vals}
use Rattle.syntax.specs.declared.tree.Lexeme.{Lexeme}
use Rattle.syntax.specs.declared.tree.Operator.{Operator}
use Rattle.syntax.specs.Meanings.{text_of, mark_of, tree_of, arguments_of, bindings_of}
use Rattle.syntax.specs.Sorts.{at, After}
use Rattle.syntax.specs.Grammar.{class, strength, sign_of, Spans, Lists, Binds, Heads}
use Rattle.pieces.specs.declared.fault.Fault.{Fault}
use Rattle.pieces.specs.declared.fault.Fault.TheVariants.{Memory}

abbrev pub Made : {X : Type 0} → (X → Type 0) → Result X Fault → Type 0
Made P (Ok e) = P e
Made P (Err x) = x ≡ Memory

abbrev pub Joined : Exp → ℕ → Operator → Exp → Exp → Type 0
Joined a n o b e =
    (class (tree_of e) ≡ strength o) × ((ts j m : List Placed) → class (tree_of a) ≤ strength o → Spans (tree_of a) ts (at n (sign_of o) ∷ j) → class (tree_of b) < strength o → Spans (tree_of b) j m → Spans (tree_of e) ts m)

abbrev pub Grouped : ℕ → Exp → Exp → Type 0
Grouped n a e =
    (class (tree_of e) ≡ 0) × ((i j m : List Placed) → Spans (tree_of a) i j → After (symbol sg.Close) j m → Spans (tree_of e) (at n (symbol sg.Open) ∷ i) m)

abbrev pub Assigned : ℕ → Exp → Exp → Exp → Exp → Type 0
Assigned n a b c e =
    (class (tree_of e) ≡ 0) × ((i j k l o x m : List Placed) → class (tree_of a) ≤ 3 → Spans (tree_of a) i j → After (symbol sg.Assign) j k → class (tree_of b) ≤ 3 → Spans (tree_of b) k l → After (symbol sg.Semicolon) l o → Spans (tree_of c) o x → After (symbol sg.Close) x m → Spans (tree_of e) (at n (symbol sg.Open) ∷ i) m)

abbrev pub Chosen : ℕ → Exp → Exp → Exp → Exp → Exp → Type 0
Chosen n a b c d e =
    (class (tree_of e) ≡ 4) × ((h i j k l o x m : List Placed) → class (tree_of a) ≤ 3 → Spans (tree_of a) h i → After (symbol sg.Less) i j → class (tree_of b) ≤ 3 → Spans (tree_of b) j k → After (word kw.Then) k l → Spans (tree_of c) l o → After (word kw.Else) o x → Spans (tree_of d) x m → Spans (tree_of e) (at n (word kw.If) ∷ h) m)

abbrev pub Within : ℕ → Vals → Exp → Exp → Type 0
Within n vs a e =
    (class (tree_of e) ≡ 0) × ((h i j k l m : List Placed) → After (word kw.Val) h i → Binds (bindings_of vs) i j → After (word kw.In) j k → Spans (tree_of a) k l → After (word kw.End) l m → Spans (tree_of e) (at n (word kw.Let) ∷ h) m)

abbrev pub Called : Lexeme → Args → Exp → Type 0
Called f xs e =
    (class (tree_of e) ≡ 1) × ((j k m : List Placed) (p : ℕ) → Lists (arguments_of xs) j k → After (symbol sg.Close) k m → Spans (tree_of e) (at f.place (identifier (text_of f).bytes) ∷ (at p (symbol sg.Open) ∷ j)) m)

-- `ref` or `!` before an atom
abbrev pub Prefixed : ℕ → Tok → Exp → Exp → Type 0
Prefixed n t a e =
    (class (tree_of e) ≡ 1) × ((i m : List Placed) → class (tree_of a) ≤ 0 → Spans (tree_of a) i m → Spans (tree_of e) (at n t ∷ i) m)

abbrev pub Lasts : Exp → Args → Type 0
Lasts e xs = (ts m : List Placed) → Spans (tree_of e) ts m → Lists (arguments_of xs) ts m

abbrev pub Mores : Exp → Args → Args → Type 0
Mores e more xs =
    (ts i j m : List Placed) → Spans (tree_of e) ts i → After (symbol sg.Comma) i j → Lists (arguments_of more) j m → Lists (arguments_of xs) ts m

abbrev pub BindsLast : Lexeme → Option Lexeme → Exp → Vals → Type 0
BindsLast x mark e vs =
    (ts i m : List Placed) → Heads (text_of x) (mark_of mark) ts i → Spans (tree_of e) i m → Binds (bindings_of vs) ts m

abbrev pub BindsMore : Lexeme → Option Lexeme → Exp → Vals → Vals → Type 0
BindsMore x mark e more vs =
    (ts i j k m : List Placed) → Heads (text_of x) (mark_of mark) ts i → Spans (tree_of e) i j → After (word kw.Val) j k → Binds (bindings_of more) k m → Binds (bindings_of vs) ts m
