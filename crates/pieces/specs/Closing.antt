-- What the parts of the parser that close a bracket, a call or a `let` answer. Assumes nothing.
use Rattle.std.specs.Prelude.{◌≡◌, ℕ, ◌<◌, ◌≤◌, List, [], ◌∷◌, ◌++◌, length, Ok, Err, Result}
use Rattle.std.specs.Borrow.{Bor}
use Rattle.tokens.specs.declared.token.Token.{Token}
use Rattle.tokens.specs.declared.token.Word.TheVariants as kw
use Rattle.tokens.specs.declared.token.Symbol.TheVariants as sg
use Rattle.tokens.specs.Tokens.{word, symbol, identifier, Placed}
use Rattle.syntax.specs.declared.tree.Exp.{Exp}
use Rattle.syntax.specs.declared.tree.Args.{Args}
use Rattle.syntax.specs.declared.tree.Vals.{Vals}
use Rattle.syntax.specs.declared.tree.Lexeme.{Lexeme}
use Rattle.syntax.specs.Meanings.{text_of, tree_of, arguments_of, bindings_of}
use Rattle.syntax.specs.Sorts.{at, After}
use Rattle.syntax.specs.Grammar.{class, Spans, Lists, Binds}
use Rattle.syntax.specs.Levels.{most_levels}
use Rattle.goals.specs.Goals.{Goals, one, marks, level}
use Rattle.goals.specs.Machine.{levels, misplaced, too_deep, fate}
use Rattle.pieces.specs.declared.fault.Fault.{Fault}
use Rattle.pieces.specs.declared.fault.Fault.TheVariants.{Misplaced, TooDeep, Memory}
use Rattle.pieces.specs.Seen.{seen}

-- whatever stands below them, with depth levels open, and where one more may be open: the goals gs at ts come to what is below at m
abbrev pub LeadsOut : ℕ → ℕ → Goals → List Placed → List Placed → Type 0
LeadsOut end depth gs ts m = (S : Goals) → levels S ≡ depth → levels S < most_levels → fate end (gs ++ S) ts ≡ fate end S m

abbrev pub FailedOut : ℕ → ℕ → Goals → List Placed → Fault → Type 0
FailedOut end depth gs ts (Misplaced p) =
    (S : Goals) → levels S ≡ depth → levels S < most_levels → fate end (gs ++ S) ts ≡ misplaced p
FailedOut end depth gs ts (TooDeep p) =
    (S : Goals) → levels S ≡ depth → levels S < most_levels → fate end (gs ++ S) ts ≡ too_deep p
FailedOut end depth gs ts Memory = Unit {0}

-- the `)` of a bracket, whose tree e is once it stands there, and the marks of that atom
abbrev pub Closed : ℕ → ℕ → Exp → List Placed → Result (Exp × Bor (List Token)) Fault → Type 0
Closed end depth e ts (Ok x) =
    (class (tree_of e) ≤ 0 → class (tree_of x.0) ≤ 0) × ((ss : List Placed) → class (tree_of e) ≤ 0 → ((m : List Placed) → After (symbol sg.Close) ts m → Spans (tree_of e) ss m) → Spans (tree_of x.0) ss (seen x.1)) × (length (seen x.1) < length ts) × LeadsOut end depth (one (symbol sg.Close) ∷ level ∷ marks ∷ []) ts (seen x.1)
Closed end depth e ts (Err r) = FailedOut end depth (one (symbol sg.Close) ∷ level ∷ marks ∷ []) ts r

abbrev pub Ended : ℕ → ℕ → ℕ → Vals → Exp → List Placed → Result (Exp × Bor (List Token)) Fault → Type 0
Ended end depth place vs e ts (Ok x) =
    (class (tree_of x.0) ≤ 0) × ((h i j k : List Placed) → After (word kw.Val) h i → Binds (bindings_of vs) i j → After (word kw.In) j k → Spans (tree_of e) k ts → Spans (tree_of x.0) (at place (word kw.Let) ∷ h) (seen x.1)) × (length (seen x.1) < length ts) × LeadsOut end depth (one (word kw.End) ∷ level ∷ marks ∷ []) ts (seen x.1)
Ended end depth place vs e ts (Err r) = FailedOut end depth (one (word kw.End) ∷ level ∷ marks ∷ []) ts r

abbrev pub Applied : ℕ → ℕ → Lexeme → Args → List Placed → Result (Exp × Bor (List Token)) Fault → Type 0
Applied end depth f xs ts (Ok x) =
    (class (tree_of x.0) ≡ 1) × ((j : List Placed) (p : ℕ) → Lists (arguments_of xs) j ts → Spans (tree_of x.0) (at f.place (identifier (text_of f).bytes) ∷ (at p (symbol sg.Open) ∷ j)) (seen x.1)) × (length (seen x.1) < length ts) × LeadsOut end depth (one (symbol sg.Close) ∷ level ∷ []) ts (seen x.1)
Applied end depth f xs ts (Err r) = FailedOut end depth (one (symbol sg.Close) ∷ level ∷ []) ts r
