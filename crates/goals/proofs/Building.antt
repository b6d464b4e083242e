-- A machine that takes the tokens one by one and builds the declaration that they stand for. Assumes nothing.
use Rattle.std.proofs.Common.{ℕ, suc, Bool, cond, ◌||◌, List, [], ◌∷◌, Some, None, Option}
use Rattle.tokens.specs.Tokens.{Tok, word, symbol, literal, identifier, binder as binder_mark, bound as bound_mark, Placed}
use Rattle.tokens.specs.declared.token.Word.TheVariants as kw
use Rattle.tokens.specs.declared.token.Symbol.TheVariants as sg
use Rattle.syntax.specs.declared.tree.Operator.{Operator}
use Rattle.syntax.specs.declared.tree.Operator.TheVariants as op
use Rattle.syntax.specs.declared.tree.Ty.{Ty}
use Rattle.syntax.specs.Trees.{Text, Expr, Literal, Variable, Group, Assign, Let, Bounded, Ref, Read, Call, Arith, If, Arguments, Last, More, Bindings, Final, Then, Parameter, Parameters, Sole, And, Declaration, Val, Fun}
use Rattle.syntax.specs.Sorts.{same_sort}

-- What is still to come, and the declaration that it makes: a part that is read is handed to what comes after it.
-- It allows more than the grammar does, where that spares a case.
pub data Plan : Type 0 where
  done : Declaration → Plan
  start : Plan  -- a declaration
  one : Tok → Plan → Plan  -- this word or symbol
  name : (Text → Plan) → Plan
  binder : (Option Text → Plan) → Plan  -- [bindermark]
  type : (Ty → Plan) → Plan  -- `int` {`ref`}
  refs : ℕ → ℕ → (Ty → Plan) → Plan  -- {`ref`}, behind so many, with the last word's place
  pars : Parameter → (Parameters → Plan) → Plan  -- behind a parameter: {`,` par} `)`
  app : (Expr → Plan) → Plan  -- an app, or an `if`
  call : Text → (Expr → Plan) → Plan  -- behind a name: a call's brackets, or {boundmark}
  marks : Expr → (Expr → Plan) → Plan  -- {boundmark}
  apps : Expr → (Expr → Plan) → Plan  -- {(* | div | mod) app}
  terms : Expr → (Expr → Plan) → Plan  -- {(+ | -) term}
  args : Expr → (Arguments → Plan) → Plan  -- behind an argument: {`,` exp} `)`
  assign : ℕ → Expr → (Expr → Plan) → Plan  -- behind `(` exp: [`:=` exp `;` exp] `)` {boundmark}
  vals : Text → Option Text → Expr → (Bindings → Plan) → Plan  -- behind a val-dec: {val-dec} `in`

abbrev pub term : (Expr → Plan) → Plan
term k = app λ a. apps a k

abbrev pub exp : (Expr → Plan) → Plan
exp k = term λ a. terms a k

abbrev pub heads : (Text → Option Text → Plan) → Plan
heads k = name λ x. binder λ mark. one (symbol sg.Equals) (k x mark)

abbrev pub typed : (Ty → Plan) → Plan
typed k = one (symbol sg.Colon) (type k)

abbrev pub par : (Parameter → Plan) → Plan
par k = name λ x. binder λ mark. typed λ t. k (record { name = x; mark = mark; ty = t })

abbrev pub let_rest : (Bindings → Expr → Plan) → Plan
let_rest k = one (word kw.Val) (heads λ x mark. exp λ e. vals x mark e λ all. exp λ f. one (word kw.End) (k all f))

abbrev pub if_rest : (Expr → Expr → Expr → Expr → Plan) → Plan
if_rest k =
    exp λ a. one (symbol sg.Less) (exp λ b. one (word kw.Then) (exp λ c. one (word kw.Else) (exp λ d. k a b c d)))

abbrev pub fun_rest : Plan
fun_rest =
    name λ f. one (symbol sg.Open) (par λ x. pars x λ params. typed λ t. binder λ mark. one (symbol sg.Equals) (exp λ e. done (Fun f params t mark e)))

abbrev pub ty_of : ℕ → ℕ → Ty
ty_of n p = record { depth = n; last = p }

-- what stands in a name, a literal or a mark
abbrev pub bytes_of : Tok → List ℕ
bytes_of (word w) = []
bytes_of (symbol y) = []
bytes_of (literal d) = d
bytes_of (identifier n) = n
bytes_of (binder_mark m) = m
bytes_of (bound_mark m) = m

abbrev pub text : Placed → Text
text t = record { place = t.place; bytes = bytes_of t.tok }

abbrev pub calling : Tok → Bool
calling k = same_sort k (symbol sg.Open)

abbrev pub marking : Tok → Bool
marking k = same_sort k (bound_mark [])

abbrev pub multiplying : Tok → Bool
multiplying k = same_sort k (symbol sg.Star) || (same_sort k (word kw.Div) || same_sort k (word kw.Mod))

abbrev pub adding : Tok → Bool
adding k = same_sort k (symbol sg.Plus) || same_sort k (symbol sg.Minus)

-- a token with which an app, a term or a sum goes on
abbrev pub in_app : Tok → Bool
in_app k = calling k || marking k

abbrev pub in_term : Tok → Bool
in_term k = in_app k || multiplying k

abbrev pub in_sum : Tok → Bool
in_sum k = in_term k || adding k

-- the operator of its sign
abbrev pub operator : Tok → Operator
operator k =
    cond (same_sort k (symbol sg.Plus)) op.Plus (cond (same_sort k (symbol sg.Minus)) op.Minus (cond (same_sort k (symbol sg.Star)) op.Times (cond (same_sort k (word kw.Div)) op.Div op.Mod)))

-- a token of the sort of w goes on with this plan
abbrev pub is : Placed → Tok → Plan → Option Plan → Option Plan
is t w g other = cond (same_sort t.tok w) (Some g) other

abbrev pub app_takes : (Expr → Plan) → Placed → Option Plan
app_takes k t =
    is t (literal []) (marks (Literal (text t)) k)
    (is t (identifier []) (call (text t) k)
    (is t (symbol sg.Open) (exp λ e. assign t.place e k)
    (is t (word kw.Let) (let_rest λ all e. marks (Let t.place all e) k)
    (is t (word kw.Ref) (app λ a. k (Ref t.place a))
    (is t (symbol sg.Bang) (app λ a. k (Read t.place a))
    (is t (word kw.If) (if_rest λ a b c d. k (If t.place a b c d)) None))))))

-- what is to come behind a token
abbrev pub step : Plan → Placed → Option Plan
step (done d) t = None
step start t = is t (word kw.Val) (heads λ x mark. exp λ e. done (Val x mark e)) (is t (word kw.Fun) fun_rest None)
step (one w g) t = is t w g None
step (name k) t = is t (identifier []) (k (text t)) None
step (binder k) t = is t (binder_mark []) (k (Some (text t))) (step (k None) t)
step (type k) t = is t (word kw.Int) (refs 0 t.place k) None
step (refs n p k) t = is t (word kw.Ref) (refs (suc n) t.place k) (step (k (ty_of n p)) t)
step (pars x k) t = is t (symbol sg.Comma) (par λ y. pars y λ more. k (And x more)) (is t (symbol sg.Close) (k (Sole x)) None)
step (app k) t = app_takes k t
step (call x k) t =
    is t (symbol sg.Open) (exp λ e. args e λ all. k (Call x all)) (is t (bound_mark []) (marks (Bounded (Variable x) (text t)) k) (step (k (Variable x)) t))
step (marks e k) t = is t (bound_mark []) (marks (Bounded e (text t)) k) (step (k e) t)
step (apps a k) t = cond (multiplying t.tok) (Some (app λ b. apps (Arith a t.place (operator t.tok) b) k)) (step (k a) t)
step (terms a k) t = cond (adding t.tok) (Some (term λ b. terms (Arith a t.place (operator t.tok) b) k)) (step (k a) t)
step (args e k) t = is t (symbol sg.Comma) (exp λ f. args f λ more. k (More e more)) (is t (symbol sg.Close) (k (Last e)) None)
step (assign n a k) t =
    is t (symbol sg.Assign) (exp λ b. one (symbol sg.Semicolon) (exp λ c. one (symbol sg.Close) (marks (Assign n a b c) k))) (is t (symbol sg.Close) (marks (Group n a) k) None)
step (vals x mark e k) t =
    is t (word kw.Val) (heads λ y other. exp λ f. vals y other f λ more. k (Then x mark e more)) (is t (word kw.In) (k (Final x mark e)) None)

-- the declaration, where the tokens end
abbrev pub finish : Plan → Option Declaration
finish (done d) = Some d
finish start = None
finish (one w g) = None
finish (name k) = None
finish (binder k) = finish (k None)
finish (type k) = None
finish (refs n p k) = finish (k (ty_of n p))
finish (pars x k) = None
finish (app k) = None
finish (call x k) = finish (k (Variable x))
finish (marks e k) = finish (k e)
finish (apps a k) = finish (k a)
finish (terms a k) = finish (k a)
finish (args e k) = None
finish (assign n a k) = None
finish (vals x mark e k) = None

abbrev pub build : Plan → List Placed → Option Declaration
build g [] = finish g
build g (t ∷ ts) = elim (step g t) [ None ↦ None | Some h ↦ build h ts ]
