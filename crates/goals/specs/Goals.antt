-- What may still come: goals, and what stands behind some words. Assumes nothing.
use Rattle.std.specs.Prelude.{ℕ, List, [], ◌∷◌, ◌++◌}
use Rattle.tokens.specs.Tokens.{Tok, word, symbol}
use Rattle.tokens.specs.declared.token.Word.TheVariants as kw
use Rattle.tokens.specs.declared.token.Symbol.TheVariants as sg

pub data Goal : Type 0 where
  one : Tok → Goal  -- this word or symbol
  name : Goal  -- an identifier
  dec : Goal
  exp : Goal
  sum : Goal
  term : Goal
  app : Goal
  atom : Goal
  group : Goal  -- what may stand between the brackets of an atom
  binder : Goal  -- [bindermark]
  refs : ℕ → Goal  -- at most so many "ref"
  pars : ℕ → Goal  -- at most so many times "," par
  terms : Goal  -- {(+ | -) term}
  apps : Goal  -- {(* | div | mod) app}
  marks : Goal  -- {boundmark}
  call : Goal  -- behind a name: {boundmark}, or a call's brackets
  args : Goal  -- {"," exp}
  assign : Goal  -- [":=" sum ";" exp]
  vals : Goal  -- {val-dec}
  level : Goal  -- nothing: one level of nesting ends here

abbrev pub Goals : Type 0
Goals = List Goal

-- what stands behind `val`, behind a binder, behind `(`, `let` and `if`
abbrev pub val_goals : Goals
val_goals = name ∷ binder ∷ one (symbol sg.Equals) ∷ exp ∷ []

abbrev pub type_goals : Goals
type_goals = one (symbol sg.Colon) ∷ one (word kw.Int) ∷ refs 3 ∷ []

abbrev pub par_goals : Goals
par_goals = name ∷ binder ∷ type_goals

abbrev pub group_goals : Goals
group_goals = group ∷ one (symbol sg.Close) ∷ level ∷ marks ∷ []

abbrev pub let_goals : Goals
let_goals =
    one (word kw.Val) ∷ name ∷ binder ∷ one (symbol sg.Equals) ∷ exp ∷ vals ∷ one (word kw.In) ∷ exp ∷ one (word kw.End) ∷ level ∷ marks ∷ []

abbrev pub if_goals : Goals
if_goals = sum ∷ one (symbol sg.Less) ∷ sum ∷ one (word kw.Then) ∷ exp ∷ one (word kw.Else) ∷ exp ∷ level ∷ []

abbrev pub fun_goals : Goals
fun_goals =
    name ∷ one (symbol sg.Open) ∷ (par_goals ++ (pars 7 ∷ one (symbol sg.Close) ∷ (type_goals ++ (binder ∷ one (symbol sg.Equals) ∷ exp ∷ []))))

abbrev pub call_goals : Goals
call_goals = exp ∷ args ∷ one (symbol sg.Close) ∷ level ∷ []

abbrev pub args_goals : Goals
args_goals = exp ∷ args ∷ []

abbrev pub semi_goals : Goals
semi_goals = sum ∷ one (symbol sg.Semicolon) ∷ exp ∷ []

abbrev pub vals_goals : Goals
vals_goals = name ∷ binder ∷ one (symbol sg.Equals) ∷ exp ∷ vals ∷ []
