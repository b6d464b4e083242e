-- Tokens of one sort differ in what they say only. Assumes nothing.
use Rattle.std.proofs.Common.{◌≡◌, ℕ, true, List, [], ◌∷◌, get_or, sym, refl, ap, ◌∙◌, eqb-true}
use Rattle.tokens.specs.Tokens.{Tok, word, symbol, literal, identifier, binder, bound}
use Rattle.tokens.specs.declared.token.Word.TheVariants as kw
use Rattle.tokens.specs.declared.token.Symbol.TheVariants as sg
use Rattle.syntax.specs.Sorts.{sort, same_sort}

-- a token of the same sort, that says this
abbrev pub saying : Tok → List ℕ → Tok
saying (word w) d = word w
saying (symbol y) d = symbol y
saying (literal x) d = literal d
saying (identifier x) d = identifier d
saying (binder x) d = binder d
saying (bound x) d = bound d

abbrev said : Tok → List ℕ
said (word w) = []
said (symbol y) = []
said (literal x) = x
said (identifier x) = x
said (binder x) = x
said (bound x) = x

itself : (t : Tok) → saying t (said t) ≡ t
itself (word w) = refl
itself (symbol y) = refl
itself (literal x) = refl
itself (identifier x) = refl
itself (binder x) = refl
itself (bound x) = refl

-- a token of each sort
abbrev of_sort : ℕ → Tok
of_sort n =
    get_or (word kw.Val ∷ word kw.Fun ∷ word kw.Let ∷ word kw.In ∷ word kw.End ∷ word kw.If ∷ word kw.Then ∷ word kw.Else ∷ word kw.Ref ∷ word kw.Int ∷ word kw.Div ∷ word kw.Mod ∷ symbol sg.Bang ∷ symbol sg.Plus ∷ symbol sg.Minus ∷ symbol sg.Star ∷ symbol sg.Less ∷ symbol sg.Colon ∷ symbol sg.Equals ∷ symbol sg.Assign ∷ symbol sg.Open ∷ symbol sg.Close ∷ symbol sg.Comma ∷ symbol sg.Semicolon ∷ literal [] ∷ identifier [] ∷ binder [] ∷ []) n (bound [])

by_sort : (t : Tok) (d : List ℕ) → saying (of_sort (sort t)) d ≡ saying t d
by_sort (word kw.Val) d = refl
by_sort (word kw.Fun) d = refl
by_sort (word kw.Let) d = refl
by_sort (word kw.In) d = refl
by_sort (word kw.End) d = refl
by_sort (word kw.If) d = refl
by_sort (word kw.Then) d = refl
by_sort (word kw.Else) d = refl
by_sort (word kw.Ref) d = refl
by_sort (word kw.Int) d = refl
by_sort (word kw.Div) d = refl
by_sort (word kw.Mod) d = refl
by_sort (symbol sg.Bang) d = refl
by_sort (symbol sg.Plus) d = refl
by_sort (symbol sg.Minus) d = refl
by_sort (symbol sg.Star) d = refl
by_sort (symbol sg.Less) d = refl
by_sort (symbol sg.Colon) d = refl
by_sort (symbol sg.Equals) d = refl
by_sort (symbol sg.Assign) d = refl
by_sort (symbol sg.Open) d = refl
by_sort (symbol sg.Close) d = refl
by_sort (symbol sg.Comma) d = refl
by_sort (symbol sg.Semicolon) d = refl
by_sort (literal x) d = refl
by_sort (identifier x) d = refl
by_sort (binder x) d = refl
by_sort (bound x) d = refl

pub alike : (k t : Tok) → same_sort k t ≡ true → (d : List ℕ) × (k ≡ saying t d)
alike k t e = (
  said k,
  sym (itself k) ∙ sym (by_sort k (said k)) ∙ ap (λ n. saying (of_sort n) (said k)) (eqb-true (sort k) (sort t) e) ∙ by_sort t (said k),
)
