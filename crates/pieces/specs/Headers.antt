-- What the parts of the parser that read a declaration's head answer. Assumes nothing.
use Rattle.std.specs.Prelude.{◌≡◌, ℕ, ◌+◌, ◌<◌, ◌≤◌, List, ◌∷◌, length, Some, None, Ok, Err, Option, Result}
use Rattle.std.specs.Borrow.{Bor}
use Rattle.tokens.specs.declared.token.Token.{Token}
use Rattle.tokens.specs.declared.token.Word.TheVariants as kw
use Rattle.tokens.specs.declared.token.Symbol.TheVariants as sg
use Rattle.tokens.specs.Tokens.{word, symbol, Placed}
use Rattle.syntax.specs.declared.tree.Ty.{Ty}
use Rattle.syntax.specs.declared.tree.Param.{Param}
use Rattle.syntax.specs.declared.tree.Params.{Params}
use Rattle.syntax.specs.Trees.{count}
use Rattle.syntax.specs.Meanings.{parameter_of, parameters_of}
use Rattle.syntax.specs.Sorts.{at, After}
use Rattle.syntax.specs.Grammar.{Refs, Typed, Par, Pars}
use Rattle.syntax.specs.Levels.{most_levels}
use Rattle.goals.specs.Goals.{Goals, one, name, binder, refs, pars}
use Rattle.goals.specs.Machine.{levels, misplaced, fate}
use Rattle.pieces.specs.declared.fault.Fault.{Fault}
use Rattle.pieces.specs.declared.fault.Fault.TheVariants.{Misplaced, TooDeep, Memory}
use Rattle.pieces.specs.Seen.{seen}

-- `ref` in a type, and its place
abbrev pub AgainRef : ℕ → List Placed → Option (ℕ × Bor (List Token)) → Type 0
AgainRef end ts (Some x) = ts ≡ at x.0 (word kw.Ref) ∷ seen x.1
AgainRef end ts None = (n : ℕ) (S : Goals) → fate end (refs n ∷ S) ts ≡ fate end S ts

-- `,` between parameters
abbrev pub AgainParam : ℕ → List Placed → Option (Bor (List Token)) → Type 0
AgainParam end ts (Some m) = After (symbol sg.Comma) ts (seen m)
AgainParam end ts None = (n : ℕ) (S : Goals) → fate end (pars n ∷ S) ts ≡ fate end S ts

-- as many times `ref` as stand there, at most room, behind a word at `from`
abbrev pub CountsRefs : ℕ → ℕ → ℕ → List Placed → Ty × Bor (List Token) → Type 0
CountsRefs end room from ts x =
    (x.0.depth ≤ room) × Refs x.0.depth from x.0.last ts (seen x.1) × (length (seen x.1) ≤ length ts) × ((S : Goals) → levels S ≤ most_levels → fate end (refs room ∷ S) ts ≡ fate end S (seen x.1))

-- goals that stand before any nesting are met by reading, or fail
abbrev pub ReadFlat : (A : Type 0) → (A → List Placed → List Placed → Type 0) → ℕ → (Goals → Goals) → List Placed → Result (A × Bor (List Token)) Fault → Type 0
ReadFlat A Is end gs ts (Ok x) =
    Is x.0 ts (seen x.1) × (length (seen x.1) < length ts) × ((S : Goals) → levels S ≤ most_levels → fate end (gs S) ts ≡ fate end S (seen x.1))
ReadFlat A Is end gs ts (Err (Misplaced p)) = (S : Goals) → levels S ≤ most_levels → fate end (gs S) ts ≡ misplaced p
ReadFlat A Is end gs ts (Err (TooDeep p)) = ⊥
ReadFlat A Is end gs ts (Err Memory) = Unit {0}

abbrev pub ReadsType : ℕ → List Placed → Result (Ty × Bor (List Token)) Fault → Type 0
ReadsType end ts r = ReadFlat Ty Typed end (λ S. one (symbol sg.Colon) ∷ one (word kw.Int) ∷ refs 3 ∷ S) ts r

abbrev pub ReadsParam : ℕ → List Placed → Result (Param × Bor (List Token)) Fault → Type 0
ReadsParam end ts r =
    ReadFlat Param (λ x. Par (parameter_of x)) end (λ S. name ∷ binder ∷ one (symbol sg.Colon) ∷ one (word kw.Int) ∷ refs 3 ∷ S) ts r

abbrev pub Counted : ℕ → Params → List Placed → List Placed → Type 0
Counted room ps ts m = (count (parameters_of ps) ≤ room + 1) × Pars (parameters_of ps) ts m

abbrev pub ReadsParams : ℕ → ℕ → List Placed → Result (Params × Bor (List Token)) Fault → Type 0
ReadsParams end room ts r =
    ReadFlat Params (Counted room) end (λ S. name ∷ binder ∷ one (symbol sg.Colon) ∷ one (word kw.Int) ∷ refs 3 ∷ pars room ∷ S) ts r
