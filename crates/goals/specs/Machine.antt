-- A stack of goals as a machine that takes tokens: the theorems about fronts of declarations rest on it, and no program runs
-- it. Assumes nothing.
use Rattle.std.specs.Prelude.{ℕ, ◌+◌, Bool, true, false, cond, ◌&&◌, List, [], ◌∷◌, ◌++◌, Some, None, Option, nat_lt}
use Rattle.tokens.specs.Tokens.{Tok, Placed}
use Rattle.syntax.specs.Levels.{most_levels}
use Rattle.goals.specs.Goals.{Goal, Goals, one, name, dec, exp, sum, term, app, atom, group, binder, refs, pars, terms, apps, marks, call, args, assign, vals, level}
use Rattle.goals.specs.Begins.{begins}

-- whether a goal may come to nothing
abbrev pub empty : Goal → Bool
empty (one t) = false
empty name = false
empty dec = false
empty exp = false
empty sum = false
empty term = false
empty app = false
empty atom = false
empty group = false
empty binder = true
empty (refs n) = true
empty (pars n) = true
empty terms = true
empty apps = true
empty marks = true
empty call = true
empty args = true
empty assign = true
empty vals = true
empty level = true

-- a token is taken by the first goal that it can begin, and the goals above that come to nothing
abbrev pub step : Goals → Tok → Option Goals
step [] k = None
step (g ∷ gs) k = elim (begins g k) [ Some hs ↦ Some (hs ++ gs) | None ↦ cond (empty g) (step gs k) None ]

abbrev pub all_empty : Goals → Bool
all_empty [] = true
all_empty (g ∷ gs) = empty g && all_empty gs

abbrev pub more_levels : Goal → ℕ → ℕ
more_levels level n = n + 1
more_levels (one t) n = n
more_levels name n = n
more_levels dec n = n
more_levels exp n = n
more_levels sum n = n
more_levels term n = n
more_levels app n = n
more_levels atom n = n
more_levels group n = n
more_levels binder n = n
more_levels (refs m) n = n
more_levels (pars m) n = n
more_levels terms n = n
more_levels apps n = n
more_levels marks n = n
more_levels call n = n
more_levels args n = n
more_levels assign n = n
more_levels vals n = n

-- how many levels of nesting are open
abbrev pub levels : Goals → ℕ
levels [] = 0
levels (g ∷ gs) = more_levels g (levels gs)

pub data Verdict : Type 0 where
  accepted : Verdict
  misplaced : ℕ → Verdict
  too_deep : ℕ → Verdict

-- what becomes of the tokens, with these goals and the text's end
abbrev pub fate : ℕ → Goals → List Placed → Verdict
fate end gs [] = cond (all_empty gs) accepted (misplaced end)
fate end gs (t ∷ ts) =
    elim (step gs t.tok) [ None ↦ misplaced t.place | Some hs ↦ cond (nat_lt most_levels (levels hs)) (too_deep t.place) (fate end hs ts) ]
