-- What a goal becomes at a token that can begin it. Assumes nothing.
use Rattle.std.specs.Prelude.{ℕ, ◌-◌, cond, [], ◌∷◌, ◌++◌, Some, None, Option, nat_lt}
use Rattle.tokens.specs.Tokens.{Tok, word, symbol, literal, identifier, binder as binder_mark, bound as bound_mark}
use Rattle.tokens.specs.declared.token.Word.TheVariants as kw
use Rattle.tokens.specs.declared.token.Symbol.TheVariants as sg
use Rattle.syntax.specs.Sorts.{same_sort}
use Rattle.goals.specs.Goals.{Goal, Goals, one, name, dec, exp, sum, term, app, atom, group, binder, refs, pars, terms, apps, marks, call, args, assign, vals, level, val_goals, par_goals, group_goals, let_goals, if_goals, fun_goals, call_goals, args_goals, semi_goals, vals_goals}

-- a token of the sort of t goes on with these goals
abbrev pub is : Tok → Goals → Option Goals → Tok → Option Goals
is t gs other k = cond (same_sort k t) (Some gs) other

abbrev pub with : Goals → Option Goals → Option Goals
with gs None = None
with gs (Some hs) = Some (hs ++ gs)

abbrev pub or : Option Goals → Option Goals → Option Goals
or (Some gs) other = Some gs
or None other = other

abbrev pub atom_begins : Tok → Option Goals
atom_begins k =
    is (literal []) (marks ∷ []) (is (identifier []) (marks ∷ []) (is (symbol sg.Open) group_goals (is (word kw.Let) let_goals None k) k) k) k

abbrev pub app_begins : Tok → Option Goals
app_begins k = is (identifier []) (call ∷ []) (is (word kw.Ref) (atom ∷ []) (is (symbol sg.Bang) (atom ∷ []) (atom_begins k) k) k) k

abbrev pub term_begins : Tok → Option Goals
term_begins k = with (apps ∷ []) (app_begins k)

abbrev pub sum_begins : Tok → Option Goals
sum_begins k = with (terms ∷ []) (term_begins k)

abbrev pub if_begins : Tok → Option Goals
if_begins k = is (word kw.If) if_goals None k

-- one more of at most n
abbrev pub another : ℕ → Goals → Option Goals
another n gs = cond (nat_lt 0 n) (Some gs) None

-- what a goal becomes at a token, if the token can begin it
abbrev pub begins : Goal → Tok → Option Goals
begins (one t) k = is t [] None k
begins name k = is (identifier []) [] None k
begins dec k = is (word kw.Val) val_goals (is (word kw.Fun) fun_goals None k) k
begins exp k = or (if_begins k) (sum_begins k)
begins sum k = sum_begins k
begins term k = term_begins k
begins app k = app_begins k
begins atom k = atom_begins k
begins group k = or (if_begins k) (with (assign ∷ []) (sum_begins k))
begins binder k = is (binder_mark []) [] None k
begins (refs n) k = cond (same_sort k (word kw.Ref)) (another n (refs (n - 1) ∷ [])) None
begins (pars n) k = cond (same_sort k (symbol sg.Comma)) (another n (par_goals ++ (pars (n - 1) ∷ []))) None
begins terms k = is (symbol sg.Plus) (term ∷ terms ∷ []) (is (symbol sg.Minus) (term ∷ terms ∷ []) None k) k
begins apps k =
    is (symbol sg.Star) (app ∷ apps ∷ []) (is (word kw.Div) (app ∷ apps ∷ []) (is (word kw.Mod) (app ∷ apps ∷ []) None k) k) k
begins marks k = is (bound_mark []) (marks ∷ []) None k
begins call k = is (symbol sg.Open) call_goals (is (bound_mark []) (marks ∷ []) None k) k
begins args k = is (symbol sg.Comma) args_goals None k
begins assign k = is (symbol sg.Assign) semi_goals None k
begins vals k = is (word kw.Val) vals_goals None k
begins level k = None
