-- What the parts of the parser that read a tree answer. Assumes nothing.
use Rattle.std.specs.Prelude.{◌≡◌, ℕ, ◌+◌, ◌<◌, ◌≤◌, List, [], ◌∷◌, ◌++◌, length, Some, None, Ok, Err, Option, Result}
use Rattle.std.specs.Borrow.{Bor}
use Rattle.tokens.specs.declared.token.Token.{Token}
use Rattle.tokens.specs.declared.token.Symbol.TheVariants as sg
use Rattle.tokens.specs.Tokens.{symbol, Placed}
use Rattle.syntax.specs.declared.tree.Exp.{Exp}
use Rattle.syntax.specs.declared.tree.Args.{Args}
use Rattle.syntax.specs.declared.tree.Vals.{Vals}
use Rattle.syntax.specs.Meanings.{tree_of, arguments_of, bindings_of}
use Rattle.syntax.specs.Sorts.{at, After}
use Rattle.syntax.specs.Grammar.{class, Spans, Lists, Binds}
use Rattle.syntax.specs.Levels.{most_levels}
use Rattle.goals.specs.Goals.{Goal, Goals, one, exp, args, vals, name, binder, sum}
use Rattle.goals.specs.Machine.{levels, Verdict, misplaced, too_deep, fate}
use Rattle.pieces.specs.declared.fault.Fault.{Fault}
use Rattle.pieces.specs.declared.fault.Fault.TheVariants.{Misplaced, TooDeep, Memory}
use Rattle.pieces.specs.Seen.{seen}

-- whatever stands below them, with depth levels open: the goals gs at ts come to what hs come to at m
abbrev pub Leads : ℕ → ℕ → Goals → List Placed → Goals → List Placed → Type 0
Leads end depth gs ts hs m =
    (S : Goals) → levels S ≡ depth → levels S ≤ most_levels → fate end (gs ++ S) ts ≡ fate end (hs ++ S) m

-- the same, to a verdict
abbrev pub Fails : ℕ → ℕ → Goals → List Placed → Verdict → Type 0
Fails end depth gs ts v = (S : Goals) → levels S ≡ depth → levels S ≤ most_levels → fate end (gs ++ S) ts ≡ v

abbrev pub Failed : ℕ → ℕ → Goals → List Placed → Fault → Type 0
Failed end depth gs ts (Misplaced p) = Fails end depth gs ts (misplaced p)
Failed end depth gs ts (TooDeep p) = Fails end depth gs ts (too_deep p)
Failed end depth gs ts Memory = Unit {0}

-- a level more may be open, or none
abbrev pub Deeper : ℕ → Option ℕ → Type 0
Deeper depth (Some inner) = (inner ≡ depth + 1) × (depth < most_levels)
Deeper depth None = most_levels ≤ depth

-- a tree of a class is read from the front, and with it a goal is met; else that goal fails
abbrev pub Reads : ℕ → ℕ → ℕ → Goal → List Placed → Result (Exp × Bor (List Token)) Fault → Type 0
Reads end most depth g ts (Ok x) =
    (class (tree_of x.0) ≤ most) × Spans (tree_of x.0) ts (seen x.1) × (length (seen x.1) < length ts) × Leads end depth (g ∷ []) ts [] (seen x.1)
Reads end most depth g ts (Err e) = Failed end depth (g ∷ []) ts e

abbrev pub ReadsArgs : ℕ → ℕ → List Placed → Result (Args × Bor (List Token)) Fault → Type 0
ReadsArgs end depth ts (Ok x) =
    Lists (arguments_of x.0) ts (seen x.1) × (length (seen x.1) < length ts) × Leads end depth (exp ∷ args ∷ []) ts [] (seen x.1)
ReadsArgs end depth ts (Err e) = Failed end depth (exp ∷ args ∷ []) ts e

abbrev pub ReadsVals : ℕ → ℕ → List Placed → Result (Vals × Bor (List Token)) Fault → Type 0
ReadsVals end depth ts (Ok x) =
    Binds (bindings_of x.0) ts (seen x.1) × (length (seen x.1) < length ts) × Leads end depth (name ∷ binder ∷ one (symbol sg.Equals) ∷ exp ∷ vals ∷ []) ts [] (seen x.1)
ReadsVals end depth ts (Err e) = Failed end depth (name ∷ binder ∷ one (symbol sg.Equals) ∷ exp ∷ vals ∷ []) ts e

-- what stands between brackets: with the `)` it is an atom
abbrev pub Fills : ℕ → ℕ → ℕ → Goals → List Placed → Result (Exp × Bor (List Token)) Fault → Type 0
Fills end depth place gs ts (Ok x) =
    (class (tree_of x.0) ≡ 0) × ((m : List Placed) → After (symbol sg.Close) (seen x.1) m → Spans (tree_of x.0) (at place (symbol sg.Open) ∷ ts) m) × (length (seen x.1) < length ts) × Leads end depth gs ts [] (seen x.1)
Fills end depth place gs ts (Err e) = Failed end depth gs ts e

-- the same from behind the `:=` that follows a
abbrev pub Assigns : ℕ → ℕ → ℕ → Exp → List Placed → Result (Exp × Bor (List Token)) Fault → Type 0
Assigns end depth place a ts (Ok x) =
    (class (tree_of x.0) ≡ 0) × ((i j m : List Placed) → class (tree_of a) ≤ 3 → Spans (tree_of a) i j → After (symbol sg.Assign) j ts → After (symbol sg.Close) (seen x.1) m → Spans (tree_of x.0) (at place (symbol sg.Open) ∷ i) m) × (length (seen x.1) < length ts) × Leads end depth (sum ∷ one (symbol sg.Semicolon) ∷ exp ∷ []) ts [] (seen x.1)
Assigns end depth place a ts (Err e) = Failed end depth (sum ∷ one (symbol sg.Semicolon) ∷ exp ∷ []) ts e

-- the tree a, which ends where ts begins, goes on to a tree of a class, and with it a goal is met; else that goal fails
abbrev pub Extends : ℕ → ℕ → ℕ → Goal → Exp → List Placed → Result (Exp × Bor (List Token)) Fault → Type 0
Extends end most depth g a ts (Ok x) =
    (class (tree_of a) ≤ most → class (tree_of x.0) ≤ most) × ((ss : List Placed) → class (tree_of a) ≤ most → Spans (tree_of a) ss ts → Spans (tree_of x.0) ss (seen x.1)) × (length (seen x.1) ≤ length ts) × Leads end depth (g ∷ []) ts [] (seen x.1)
Extends end most depth g a ts (Err e) = Failed end depth (g ∷ []) ts e
