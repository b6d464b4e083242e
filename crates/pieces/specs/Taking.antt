-- What taking a word or a symbol from the front answers. Assumes nothing.
use Rattle.std.specs.Option.{option_map}
use Rattle.std.specs.Prelude.{◌≡◌, ℕ, false, List, [], ◌∷◌, Some, None, Ok, Err, Option, Result}
use Rattle.std.specs.Borrow.{Bor}
use Rattle.tokens.specs.declared.token.Token.{Token}
use Rattle.tokens.specs.declared.token.Word.TheVariants as kw
use Rattle.tokens.specs.declared.token.Symbol.TheVariants as sg
use Rattle.tokens.specs.Tokens.{Tok, word, symbol, identifier, binder, bound, Placed}
use Rattle.tokens.specs.Meanings.{placed}
use Rattle.syntax.specs.declared.tree.Lexeme.{Lexeme}
use Rattle.syntax.specs.Meanings.{text_of}
use Rattle.syntax.specs.Sorts.{at, same_sort}
use Rattle.syntax.specs.declared.tree.Operator.{Operator}
use Rattle.syntax.specs.Grammar.{strength, sign_of, Named}
use Rattle.goals.specs.Begins.{begins}
use Rattle.goals.specs.Goals.{Goal, args, assign, vals, args_goals, semi_goals, vals_goals, sum, terms, term, apps, app}
use Rattle.pieces.specs.declared.fault.Fault.{Fault}
use Rattle.pieces.specs.declared.fault.Fault.TheVariants.{Misplaced}
use Rattle.pieces.specs.declared.front.Sign.{Sign}
use Rattle.pieces.specs.declared.front.Sign.TheVariants as sign
use Rattle.pieces.specs.declared.front.Text.{Text}
use Rattle.pieces.specs.declared.front.Text.TheVariants as text
use Rattle.pieces.specs.declared.looking.Tier.{Tier}
use Rattle.pieces.specs.declared.looking.Tier.TheVariants as tier
use Rattle.pieces.specs.Seen.{seen, left_if}
use Rattle.pieces.specs.Looking.{GoesOn, Conditions, Opens, BinderMark, BoundMark}
use Rattle.pieces.specs.Headers.{AgainRef, AgainParam}

abbrev pub token_of : Sign → Tok
token_of (sign.Word w) = word w
token_of (sign.Symbol y) = symbol y

-- another token comes first, or none
abbrev pub Lacks : Tok → List Placed → Type 0
Lacks t [] = Unit {0}
Lacks t (u ∷ ts) = same_sort u.tok t ≡ false

-- this token comes first, or another
abbrev pub Found : Tok → List Placed → Option (ℕ × Bor (List Token)) → Type 0
Found t ts (Some x) = ts ≡ at x.0 t ∷ seen x.1
Found t ts None = Lacks t ts

-- a token that says this
abbrev pub saying_of : Text → List ℕ → Tok
saying_of text.Name x = identifier x
saying_of text.Binder x = binder x
saying_of text.Bound x = bound x

abbrev pub Says : Text → Tok → Option (Bor (List ℕ)) → Type 0
Says kind t (Some x) = t ≡ saying_of kind x.now
Says kind t None = same_sort t (saying_of kind []) ≡ false

-- a name comes first, or another token
abbrev pub FoundName : List Placed → Option (Lexeme × Bor (List Token)) → Type 0
FoundName ts (Some x) = Named (text_of x.0) ts (seen x.1)
FoundName ts None = Lacks (identifier []) ts

-- what that says of the goals that may begin with it
abbrev pub TextFound : ℕ → Text → List Placed → Option Lexeme → Bor (List Token) → Type 0
TextFound end text.Name ts r rest = FoundName ts (left_if r rest)
TextFound end text.Binder ts r rest = BinderMark end ts (r, rest)
TextFound end text.Bound ts r rest = BoundMark end ts (left_if r rest)

abbrev pub Next : ℕ → List Placed → Result (Token × Bor (List Token)) Fault → Type 0
Next end ts (Ok x) = ts ≡ placed x.0 ∷ seen x.1
Next end ts (Err e) = (ts ≡ []) × (e ≡ Misplaced end)

abbrev pub later : Option (ℕ × Bor (List Token)) → Option (Bor (List Token))
later found = option_map (λ x. x.1) found

-- what that says of the goals that may begin with it
abbrev pub Tells : ℕ → Sign → List Placed → Option (ℕ × Bor (List Token)) → Type 0
Tells end (sign.Symbol sg.Comma) ts r = GoesOn end args (symbol sg.Comma) args_goals ts (later r) × AgainParam end ts (later r)
Tells end (sign.Symbol sg.Assign) ts r = GoesOn end assign (symbol sg.Assign) semi_goals ts (later r)
Tells end (sign.Symbol sg.Open) ts r = Opens end ts r
Tells end (sign.Word kw.Val) ts r = GoesOn end vals (word kw.Val) vals_goals ts (later r)
Tells end (sign.Word kw.If) ts r = Conditions end ts r
Tells end (sign.Word kw.Ref) ts r = AgainRef end ts r
Tells end _ ts r = Unit {0}

-- the operators of a tier: their strength and that of what they join, and the goals for all of it, for more of it and for what they join
abbrev pub strength_of : Tier → ℕ
strength_of tier.Sum = 3
strength_of tier.Term = 2

abbrev pub part_strength : Tier → ℕ
part_strength tier.Sum = 2
part_strength tier.Term = 1

abbrev pub whole_of : Tier → Goal
whole_of tier.Sum = sum
whole_of tier.Term = term

abbrev pub more_of : Tier → Goal
more_of tier.Sum = terms
more_of tier.Term = apps

abbrev pub part_of : Tier → Goal
part_of tier.Sum = term
part_of tier.Term = app

-- a token is an operator of a tier, or none of them
abbrev pub Signs : Tier → Tok → Option Operator → Type 0
Signs tier t (Some o) = (strength o ≡ strength_of tier) × (t ≡ sign_of o)
Signs tier t None = begins (more_of tier) t ≡ None
