-- What the goals stand for: a goal that may come to nothing stands for no tokens, and each goal stands for some. Assumes nothing.
use Rattle.std.proofs.Common.{◌≡◌, ℕ, zero, ◌+◌, ◌≤◌, Bool, true, false, ◌&&◌, List, [], ◌∷◌, None, Option, refl, arith}
use Rattle.tokens.specs.Tokens.{word, symbol, literal, identifier, Placed}
use Rattle.tokens.specs.declared.token.Word.TheVariants as kw
use Rattle.tokens.specs.declared.token.Symbol.TheVariants as sg
use Rattle.syntax.specs.Trees.{Text, Expr, Literal, Variable, Group, Arguments, Last, Bindings, Final, Parameter, Parameters, Sole, Declaration, Val, count}
use Rattle.syntax.specs.Sorts.{at, After}
use Rattle.syntax.specs.Grammar.{class, Spans, Lists, Binds, Named, Marked, Heads, Refs, Par, Pars, Declares}
use Rattle.goals.specs.Goals.{Goal, Goals, one, name, dec, exp, sum, term, app, atom, group, binder, refs, pars, terms, apps, marks, call, args, assign, vals, level}
use Rattle.goals.specs.Machine.{empty, all_empty}
use Rattle.goals.proofs.Sorts.{saying}

-- a tree of a class, from ts to m
abbrev pub Tree : ℕ → List Placed → List Placed → Type 0
Tree most ts m = (e : Expr) × ((class e ≤ most) × Spans e ts m)

-- any tree of a class that ends at ts goes on to m
abbrev pub Tail : ℕ → List Placed → List Placed → Type 0
Tail most ts m =
    (a : Expr) → class a ≤ most → (e : Expr) × ((class e ≤ most) × ((ss : List Placed) → Spans a ss ts → Spans e ss m))

-- what stands between brackets
abbrev pub Fill : List Placed → List Placed → Type 0
Fill ts m = (place : ℕ) (k : List Placed) → After (symbol sg.Close) m k → Tree 0 (at place (symbol sg.Open) ∷ ts) k

-- any sum that ends at ts goes on to what stands between brackets
abbrev pub Assigning : List Placed → List Placed → Type 0
Assigning ts m =
    (a : Expr) → class a ≤ 3 → (place : ℕ) (k ss : List Placed) → After (symbol sg.Close) m k → Spans a ss ts → Tree 0 (at place (symbol sg.Open) ∷ ss) k

-- any name before ts goes on to an app
abbrev pub Calling : List Placed → List Placed → Type 0
Calling ts m = (x : Text) → Tree 1 (at x.place (identifier x.bytes) ∷ ts) m

abbrev pub MoreArgs : List Placed → List Placed → Type 0
MoreArgs ts m = (e : Expr) → (xs : Arguments) × ((ss : List Placed) → Spans e ss ts → Lists xs ss m)

abbrev pub MoreVals : List Placed → List Placed → Type 0
MoreVals ts m =
    (x : Text) (mark : Option Text) (e : Expr) → (vs : Bindings) × ((ss i : List Placed) → Heads x mark ss i → Spans e i ts → Binds vs ss m)

abbrev pub MorePars : ℕ → List Placed → List Placed → Type 0
MorePars n ts m =
    (x : Parameter) → (ps : Parameters) × ((count ps ≤ n + 1) × ((ss : List Placed) → Par x ss ts → Pars ps ss m))

-- at most n times `ref`, behind a word at any place
abbrev pub SomeRefs : ℕ → List Placed → List Placed → Type 0
SomeRefs n ts m = (i : ℕ) × ((i ≤ n) × ((from : ℕ) → (last : ℕ) × Refs i from last ts m))

-- what a goal stands for, from ts to m
abbrev pub Meant : Goal → List Placed → List Placed → Type 0
Meant (one t) ts m = (d : List ℕ) × After (saying t d) ts m
Meant name ts m = (x : Text) × Named x ts m
Meant dec ts m = (d : Declaration) × Declares d ts m
Meant exp ts m = Tree 4 ts m
Meant sum ts m = Tree 3 ts m
Meant term ts m = Tree 2 ts m
Meant app ts m = Tree 1 ts m
Meant atom ts m = Tree 0 ts m
Meant group ts m = Fill ts m
Meant binder ts m = (x : Option Text) × Marked x ts m
Meant (refs n) ts m = SomeRefs n ts m
Meant (pars n) ts m = MorePars n ts m
Meant terms ts m = Tail 3 ts m
Meant apps ts m = Tail 2 ts m
Meant marks ts m = Tail 0 ts m
Meant call ts m = Calling ts m
Meant args ts m = MoreArgs ts m
Meant assign ts m = Assigning ts m
Meant vals ts m = MoreVals ts m
Meant level ts m = ts ≡ m

-- the tokens are what the goals stand for
abbrev pub Meets : Goals → List Placed → Type 0
Meets [] ts = ts ≡ []
Meets (g ∷ S) ts = (m : List Placed) × (Meant g ts m × Meets S m)

stay : (most : ℕ) (ts : List Placed) → Tail most ts ts
stay most ts a c = (a, (c, λ ss s. s))

pub filled : (most : ℕ) (ts m : List Placed) → Tree most ts m → Fill ts m
filled most ts m x place k close = (Group place x.0, (omega arith, (ts, m, (refl, x.1.1, close))))

no_truth : {X : Type 0} → false ≡ true → X
no_truth e = let z : ◌≡◌ {A = ℕ} 0 1 = cc in absurd (omega arith)

-- a goal that may come to nothing stands for that
pub nothing : (g : Goal) → empty g ≡ true → (ts : List Placed) → Meant g ts ts
nothing (one t) e ts = no_truth e
nothing name e ts = no_truth e
nothing dec e ts = no_truth e
nothing exp e ts = no_truth e
nothing sum e ts = no_truth e
nothing term e ts = no_truth e
nothing app e ts = no_truth e
nothing atom e ts = no_truth e
nothing group e ts = no_truth e
nothing binder e ts = (None, refl)
nothing (refs n) e ts = (zero, (omega arith, λ from. (from, (refl, refl))))
nothing (pars n) e ts = λ x. (Sole x, (omega arith, λ ss s. s))
nothing terms e ts = stay 3 ts
nothing apps e ts = stay 2 ts
nothing marks e ts = stay 0 ts
nothing call e ts = λ x. (Variable x, (omega arith, refl))
nothing args e ts = λ x. (Last x, λ ss s. s)
nothing assign e ts = λ a c place k ss close s. (Group place a, (omega arith, (ss, ts, (refl, s, close))))
nothing vals e ts = λ x mark a. (Final x mark a, λ ss i h s. (i, (h, s)))
nothing level e ts = refl

-- goals that may all come to nothing are met by no tokens
pub met_by_none : (gs : Goals) → all_empty gs ≡ true → Meets gs []
met_by_none [] e = refl
met_by_none (g ∷ S) e = go (empty g) refl e (met_by_none S)
  where
    go : (b : Bool) → empty g ≡ b → (b && all_empty S) ≡ true → (all_empty S ≡ true → Meets S []) → Meets (g ∷ S) []
    go true is h later = ([], (nothing g is [], later h))
    go false is h later = no_truth h

abbrev some_text : Text
some_text = record { place = 0; bytes = [] }

abbrev zero_before : List Placed → List Placed
zero_before m = at 0 (literal []) ∷ m

zero_tree : (most : ℕ) (m : List Placed) → Tree most (zero_before m) m
zero_tree most m = (Literal some_text, (omega arith, refl))

-- every goal stands for some tokens, whatever comes after them
something : (g : Goal) (m : List Placed) → (u : List Placed) × Meant g u m
something (one t) m = (at 0 (saying t []) ∷ m, ([], (0, refl)))
something name m = (at 0 (identifier []) ∷ m, (some_text, refl))
something dec m =
    let last : List Placed = zero_before m in
    let j : List Placed = at 0 (symbol sg.Equals) ∷ last in
    let i : List Placed = at 0 (identifier []) ∷ j in
    (at 0 (word kw.Val) ∷ i, (Val some_text None (Literal some_text), (i, last, ((0, refl), (j, j, (refl, refl, (0, refl))), refl))))
something exp m = (zero_before m, zero_tree 4 m)
something sum m = (zero_before m, zero_tree 3 m)
something term m = (zero_before m, zero_tree 2 m)
something app m = (zero_before m, zero_tree 1 m)
something atom m = (zero_before m, zero_tree 0 m)
something group m = (zero_before m, filled 0 (zero_before m) m (zero_tree 0 m))
something binder m = (m, nothing binder refl m)
something (refs n) m = (m, nothing (refs n) refl m)
something (pars n) m = (m, nothing (pars n) refl m)
something terms m = (m, nothing terms refl m)
something apps m = (m, nothing apps refl m)
something marks m = (m, nothing marks refl m)
something call m = (m, nothing call refl m)
something args m = (m, nothing args refl m)
something assign m = (m, nothing assign refl m)
something vals m = (m, nothing vals refl m)
something level m = (m, refl)

pub completion : (gs : Goals) → (u : List Placed) × Meets gs u
completion [] = ([], refl)
completion (g ∷ S) = let r = completion S in let s = something g r.0 in (s.0, (r.0, (s.1, r.1)))
