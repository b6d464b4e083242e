-- At most one tree stands for some tokens: the tokens of any tree build that tree. Assumes nothing.
use Rattle.std.proofs.Common.{◌≡◌, ℕ, zero, suc, ◌+◌, ◌≤◌, Bool, true, false, cond, ◌||◌, List, [], ◌∷◌, Some, None, Option, sym, refl, ap, ◌∙◌, subst, arith}
use Rattle.tokens.specs.Tokens.{Tok, word, symbol, binder as binder_mark, Placed}
use Rattle.tokens.specs.declared.token.Word.TheVariants as kw
use Rattle.tokens.specs.declared.token.Symbol.TheVariants as sg
use Rattle.syntax.specs.declared.tree.Operator.{Operator}
use Rattle.syntax.specs.declared.tree.Operator.TheVariants as op
use Rattle.syntax.specs.declared.tree.Ty.{Ty}
use Rattle.syntax.specs.Trees.{Text, Expr, Literal, Variable, Group, Assign, Let, Bounded, Ref, Read, Call, Arith, If, Arguments, Last, More, Bindings, Final, Then, Parameter, Parameters, Sole, And, Declaration, Val, Fun}
use Rattle.syntax.specs.Sorts.{at, After, same_sort}
use Rattle.syntax.specs.Grammar.{sign_of, strength, class, Spans, Lists, Binds, Marked, Heads, Refs, Typed, Par, Pars, Declares}
use Rattle.goals.specs.Theorems.{Unambiguous}
use Rattle.goals.proofs.Building.{Plan, done, start, one, binder, type, refs, pars, app, call, marks, apps, terms, args, assign, vals, term, exp, heads, typed, par, let_rest, fun_rest, ty_of, text, calling, marking, multiplying, adding, in_app, in_term, in_sum, operator, step, finish, build}

-- the tokens do not begin with such a one
abbrev Not : (Tok → Bool) → List Placed → Type 0
Not f [] = Unit {0}
Not f (t ∷ ts) = f t.tok ≡ false

neither : (f g : Tok → Bool) (m : List Placed) → Not (λ k. f k || g k) m → Not f m × Not g m
neither f g [] q = (tt, tt)
neither f g (t ∷ ts) q = go (f t.tok) (g t.tok) q
  where
    go : (a b : Bool) → a || b ≡ false → (a ≡ false) × (b ≡ false)
    go true true q = (q, q)
    go true false q = (q, refl)
    go false b q = (refl, q)

-- the rest of the tokens, behind one that was taken or refused
abbrev on : List Placed → Option Plan → Option Declaration
on ts o = elim o [ None ↦ None | Some h ↦ build h ts ]

-- before a token that g does not take, it comes to h
passes : (f : Tok → Bool) (g h : Plan) (next : Placed → Plan) → finish g ≡ finish h → ((t : Placed) → step g t ≡ cond (f t.tok) (Some (next t)) (step h t)) → (m : List Placed) → Not f m → build g m ≡ build h m
passes f g h next end other [] q = end
passes f g h next end other (t ∷ ts) q = ap (on ts) (other t ∙ ap (λ b. cond b (Some (next t)) (step h t)) q)

unmarked : (e : Expr) (k : Expr → Plan) (m : List Placed) → Not marking m → build (marks e k) m ≡ build (k e) m
unmarked e k = passes marking (marks e k) (k e) (λ t. marks (Bounded e (text t)) k) refl (λ t. refl)

uncalled : (x : Text) (k : Expr → Plan) (m : List Placed) → Not calling m → build (call x k) m ≡ build (marks (Variable x) k) m
uncalled x k =
    passes calling (call x k) (marks (Variable x) k) (λ t. exp λ e. args e λ all. k (Call x all)) refl (λ t. refl)

unmultiplied : (a : Expr) (k : Expr → Plan) (m : List Placed) → Not multiplying m → build (apps a k) m ≡ build (k a) m
unmultiplied a k =
    passes multiplying (apps a k) (k a) (λ t. app λ b. apps (Arith a t.place (operator t.tok) b) k) refl (λ t. refl)

unadded : (a : Expr) (k : Expr → Plan) (m : List Placed) → Not adding m → build (terms a k) m ≡ build (k a) m
unadded a k =
    passes adding (terms a k) (k a) (λ t. term λ b. terms (Arith a t.place (operator t.tok) b) k) refl (λ t. refl)

-- where no token follows that stop holds of, the tokens of e lead from the one plan to the other
abbrev Reads : Expr → (Tok → Bool) → ((Expr → Plan) → Plan) → ((Expr → Plan) → Plan) → Type 0
Reads e stop g h = (ts m : List Placed) → Spans e ts m → Not stop m → (k : Expr → Plan) → build (g k) ts ≡ build (h k) m

abbrev AsMarked : Expr → Type 0
AsMarked e = class e ≤ 0 → Reads e calling app (marks e)

abbrev AsApp : Expr → Type 0
AsApp e = class e ≤ 1 → Reads e in_app app (λ k. k e)

abbrev AsTerm : Expr → Type 0
AsTerm e = class e ≤ 2 → Reads e in_app term (apps e)

-- the tokens of e build it, as whatever part of another it may stand
record Facts (e : Expr) : Type 0 where
  as_marked : AsMarked e
  as_app : AsApp e
  as_term : AsTerm e
  as_sum : class e ≤ 3 → Reads e in_term exp (terms e)
  as_exp : Reads e in_sum exp (λ k. k e)

from_sum : (e : Expr) → AsMarked e → AsApp e → AsTerm e → Reads e in_term exp (terms e) → Facts e
from_sum e a b c d = record {
  as_marked = a;
  as_app = b;
  as_term = c;
  as_sum = λ h. d;
  as_exp = λ ts m spans q k. d ts m spans (neither in_term adding m q).0 k ∙ unadded e k m (neither in_term adding m q).1;
}

from_term : (e : Expr) → AsMarked e → AsApp e → Reads e in_app term (apps e) → Facts e
from_term e a b c = from_sum e a b (λ h. c) λ ts m spans q k.
    let next : Expr → Plan = λ a. terms a k in
    c ts m spans (neither in_app multiplying m q).0 next ∙ unmultiplied e next m (neither in_app multiplying m q).1

from_app : (e : Expr) → AsMarked e → Reads e in_app app (λ k. k e) → Facts e
from_app e a b = from_term e a (λ h. b) λ ts m spans q k. b ts m spans q (λ a. apps a k)

from_marked : (e : Expr) → Reads e calling app (marks e) → Facts e
from_marked e a = from_app e (λ h. a) λ ts m spans q k.
    a ts m spans (neither calling marking m q).0 k ∙ unmarked e k m (neither calling marking m q).1

not_at : (f : Tok → Bool) {w : Tok} {p : ℕ} {ts m : List Placed} → ts ≡ at p w ∷ m → f w ≡ false → Not f ts
not_at f found q = subst (Not f) (sym found) q

-- an expression before a word with which none goes on
before : (e : Expr) → Facts e → (w : Tok) → in_sum w ≡ false → (ts : List Placed) {i m : List Placed} (k : Expr → Plan) → Spans e ts i → (found : After w i m) → build (exp k) ts ≡ build (k e) (at found.0 w ∷ m)
before e f w q ts {i} k spans found =
    f.as_exp ts i spans (not_at in_sum found.1 q) k ∙ ap (build (k e)) found.1

grouped : (n : ℕ) (e : Expr) → Facts e → Facts (Group n e)
grouped n e f = from_marked (Group n e) λ ts m (i, j, x) q k.
    ap (build (app k)) x.0 ∙ before e f (symbol sg.Close) refl i (λ a. assign n a k) x.1 x.2

bounded : (e : Expr) (x : Text) → Facts e → Facts (Bounded e x)
bounded e x f = from_marked (Bounded e x) λ ts m (i, y) q k.
    f.as_marked y.0 ts i y.1 (not_at calling y.2 refl) k ∙ ap (build (marks e k)) y.2

assigned : (n : ℕ) (a b c : Expr) → Facts a → Facts b → Facts c → Facts (Assign n a b c)
assigned n a b c f g h = from_marked (Assign n a b c) λ ts m (i, j, l, o, u, v, x) q k.
    let z : Expr → Expr → Plan = λ b c. one (symbol sg.Close) (marks (Assign n a b c) k) in
    ap (build (app k)) x.0
    ∙ before a f (symbol sg.Assign) refl i (λ a. assign n a k) x.2 x.3
    ∙ before b g (symbol sg.Semicolon) refl l (λ b. one (symbol sg.Semicolon) (exp (z b))) x.5 x.6
    ∙ before c h (symbol sg.Close) refl u (z b) x.7 x.8

-- `ref` and `!`
prefixed : (n : ℕ) (w : Tok) (make : Expr → Expr) (e : Expr) → ((i : List Placed) (k : Expr → Plan) → build (app k) (at n w ∷ i) ≡ build (app λ a. k (make a)) i) → Facts e → (ts m : List Placed) → (i : List Placed) × ((ts ≡ at n w ∷ i) × (class e ≤ 0) × Spans e i m) → Not in_app m → (k : Expr → Plan) → build (app k) ts ≡ build (k (make e)) m
prefixed n w make e goes f ts m (i, x) q k =
    ap (build (app k)) x.0 ∙ goes i k ∙ f.as_app (omega (arith, x.1)) i m x.2 q (λ a. k (make a))

conditional : (n : ℕ) (a b c d : Expr) → Facts a → Facts b → Facts c → Facts d → Facts (If n a b c d)
conditional n a b c d f g h l = record {
  as_marked = λ h. absurd (omega (arith, h));
  as_app = λ h. absurd (omega (arith, h));
  as_term = λ h. absurd (omega (arith, h));
  as_sum = λ h. absurd (omega (arith, h));
  as_exp = λ ts m (t₁, t₂, t₃, t₄, t₅, t₆, t₇, x) q k.
      let y : Expr → Expr → Expr → Expr → Plan = λ a b c d. apps (If n a b c d) λ e. terms e k in
      let z : Expr → Expr → Expr → Plan = λ a b c. one (word kw.Else) (exp (y a b c)) in
      let ends = neither in_term adding m q in
      ap (build (exp k)) x.0
      ∙ before a f (symbol sg.Less) refl t₁ (λ a. one (symbol sg.Less) (exp λ b. one (word kw.Then) (exp (z a b)))) x.2 x.3
      ∙ before b g (word kw.Then) refl t₃ (λ b. one (word kw.Then) (exp (z a b))) x.5 x.6
      ∙ before c h (word kw.Else) refl t₅ (z a b) x.7 x.8
      ∙ l.as_exp t₇ m x.9 q (y a b c)
      ∙ unmultiplied (If n a b c d) (λ e. terms e k) m (neither in_app multiplying m ends.0).1
      ∙ unadded (If n a b c d) k m ends.1;
}

-- `*`, `div` and `mod`
product : (a b : Expr) (n : ℕ) (o : Operator) → strength o ≡ 2 → in_app (sign_of o) ≡ false → ((k : Expr → Plan) (m : List Placed) → build (apps a k) (at n (sign_of o) ∷ m) ≡ build (app λ b. apps (Arith a n o b) k) m) → Facts a → Facts b → Facts (Arith a n o b)
product a b n o two ends goes f g =
    from_term (Arith a n o b) (λ h. absurd (omega (arith, h, two))) (λ h. absurd (omega (arith, h, two))) λ ts m (i, j, x) q k.
    f.as_term (omega (arith, x.0, two)) ts i x.1 (not_at in_app x.2 ends) k
    ∙ ap (build (apps a k)) x.2
    ∙ goes k j
    ∙ g.as_app (omega (arith, x.3, two)) j m x.4 q (λ b. apps (Arith a n o b) k)

-- `+` and `-`
addition : (a b : Expr) (n : ℕ) (o : Operator) → strength o ≡ 3 → in_term (sign_of o) ≡ false → ((k : Expr → Plan) (m : List Placed) → build (terms a k) (at n (sign_of o) ∷ m) ≡ build (term λ b. terms (Arith a n o b) k) m) → Facts a → Facts b → Facts (Arith a n o b)
addition a b n o three ends goes f g =
    from_sum (Arith a n o b) (λ h. absurd (omega (arith, h, three))) (λ h. absurd (omega (arith, h, three))) (λ h. absurd (omega (arith, h, three))) λ ts m (i, j, x) q k.
    let next : Expr → Plan = λ b. terms (Arith a n o b) k in
    let ends-b = neither in_app multiplying m q in
    f.as_sum (omega (arith, x.0, three)) ts i x.1 (not_at in_term x.2 ends) k
    ∙ ap (build (terms a k)) x.2
    ∙ goes k j
    ∙ g.as_term (omega (arith, x.3, three)) j m x.4 ends-b.0 next
    ∙ unmultiplied b next m ends-b.1

-- the arguments of a call, and `)`
abbrev ArgsFacts : Arguments → Type 0
ArgsFacts all = (ts i m : List Placed) (k : Arguments → Plan) → Lists all ts i → After (symbol sg.Close) i m → build (exp λ e. args e k) ts ≡ build (k all) m

more_args : (e : Expr) (more : Arguments) → Facts e → ArgsFacts more → ArgsFacts (More e more)
more_args e more f facts ts i m k (j, l, x) closed =
    before e f (symbol sg.Comma) refl ts (λ e. args e k) x.0 x.1
    ∙ facts l i m (λ more. k (More e more)) x.2 closed

called : (f : Text) (all : Arguments) → ArgsFacts all → Facts (Call f all)
called f all facts = from_app (Call f all) (λ h. absurd (omega (arith, h))) λ ts m (i, j, l, x) q k.
    ap (build (app k)) x.0
    ∙ ap (build (call f k)) x.1.1
    ∙ facts j l m (λ all. k (Call f all)) x.2 x.3

abbrev binding : Tok → Bool
binding k = same_sort k (binder_mark [])

marked : (mark : Option Text) (ts m : List Placed) (k : Option Text → Plan) → Marked mark ts m → Not binding m → build (binder k) ts ≡ build (k mark) m
marked None ts m k found q =
    ap (build (binder k)) found ∙ passes binding (binder k) (k None) (λ t. k (Some (text t))) refl (λ t. refl) m q
marked (Some x) ts m k found q = ap (build (binder k)) found

headed : (x : Text) (mark : Option Text) (ts m : List Placed) (k : Text → Option Text → Plan) → Heads x mark ts m → build (heads k) ts ≡ build (k x mark) m
headed x mark ts m k (i, j, y) =
    ap (build (heads k)) y.0
    ∙ marked mark i j (λ mark. one (symbol sg.Equals) (k x mark)) y.1 (not_at binding y.2.1 refl)
    ∙ ap (build (one (symbol sg.Equals) (k x mark))) y.2.1

-- the declarations of a `let`, and `in`
abbrev ValsFacts : Bindings → Type 0
ValsFacts all = (ts i m : List Placed) (k : Bindings → Plan) → Binds all ts i → After (word kw.In) i m → build (heads λ x mark. exp λ e. vals x mark e k) ts ≡ build (k all) m

final_val : (x : Text) (mark : Option Text) (e : Expr) → Facts e → ValsFacts (Final x mark e)
final_val x mark e f ts i m k (j, y) ended =
    headed x mark ts j (λ x mark. exp λ e. vals x mark e k) y.0
    ∙ before e f (word kw.In) refl j (λ e. vals x mark e k) y.1 ended

more_vals : (x : Text) (mark : Option Text) (e : Expr) (more : Bindings) → Facts e → ValsFacts more → ValsFacts (Then x mark e more)
more_vals x mark e more f facts ts i m k (j, l, o, y) ended =
    headed x mark ts j (λ x mark. exp λ e. vals x mark e k) y.0
    ∙ before e f (word kw.Val) refl j (λ e. vals x mark e k) y.1 y.2
    ∙ facts o i m (λ more. k (Then x mark e more)) y.3 ended

block : (n : ℕ) (all : Bindings) (e : Expr) → ValsFacts all → Facts e → Facts (Let n all e)
block n all e facts f = from_marked (Let n all e) λ ts m (t₁, t₂, t₃, t₄, t₅, x) q k.
    let z : Bindings → Expr → Plan = λ all e. marks (Let n all e) k in
    ap (build (app k)) x.0
    ∙ ap (build (let_rest z)) x.1.1
    ∙ facts t₂ t₃ t₄ (λ all. exp λ e. one (word kw.End) (z all e)) x.2 x.3
    ∙ before e f (word kw.End) refl t₄ (λ e. one (word kw.End) (z all e)) x.4 x.5

mutual
  facts : (e : Expr) → Facts e
  facts (Literal x) = from_marked (Literal x) λ ts m spans q k. ap (build (app k)) spans
  facts (Variable x) = from_marked (Variable x) λ ts m spans q k. ap (build (app k)) spans ∙ uncalled x k m q
  facts (Group n e) = grouped n e (facts e)
  facts (Assign n a b c) = assigned n a b c (facts a) (facts b) (facts c)
  facts (Let n all e) = block n all e (vals_facts all) (facts e)
  facts (Bounded e x) = bounded e x (facts e)
  facts (Ref n e) =
      from_app (Ref n e) (λ h. absurd (omega (arith, h))) (prefixed n (word kw.Ref) (Ref n) e (λ i k. refl) (facts e))
  facts (Read n e) =
      from_app (Read n e) (λ h. absurd (omega (arith, h))) (prefixed n (symbol sg.Bang) (Read n) e (λ i k. refl) (facts e))
  facts (Call f all) = called f all (args_facts all)
  facts (Arith a n op.Plus b) = addition a b n op.Plus refl refl (λ k m. refl) (facts a) (facts b)
  facts (Arith a n op.Minus b) = addition a b n op.Minus refl refl (λ k m. refl) (facts a) (facts b)
  facts (Arith a n op.Times b) = product a b n op.Times refl refl (λ k m. refl) (facts a) (facts b)
  facts (Arith a n op.Div b) = product a b n op.Div refl refl (λ k m. refl) (facts a) (facts b)
  facts (Arith a n op.Mod b) = product a b n op.Mod refl refl (λ k m. refl) (facts a) (facts b)
  facts (If n a b c d) = conditional n a b c d (facts a) (facts b) (facts c) (facts d)

  args_facts : (all : Arguments) → ArgsFacts all
  args_facts (Last e) = λ ts i m k spans closed. before e (facts e) (symbol sg.Close) refl ts (λ e. args e k) spans closed
  args_facts (More e more) = more_args e more (facts e) (args_facts more)

  vals_facts : (all : Bindings) → ValsFacts all
  vals_facts (Final x mark e) = final_val x mark e (facts e)
  vals_facts (Then x mark e more) = more_vals x mark e more (facts e) (vals_facts more)

abbrev referred : Tok → Bool
referred k = same_sort k (word kw.Ref)

-- n more `ref`, behind b of them
reffed : (n b d : ℕ) → d ≡ b + n → (p last : ℕ) (ts m : List Placed) (k : Ty → Plan) → Refs n p last ts m → Not referred m → build (refs b p k) ts ≡ build (k (ty_of d last)) m
reffed zero b d sum p last ts m k (same, found) q =
    let all : b ≡ d = omega (arith, sum) in
    ap (build (refs b p k)) found
    ∙ passes referred (refs b p k) (k (ty_of b p)) (λ t. refs (suc b) t.place k) refl (λ t. refl) m q
    ∙ ap (λ c. build (k (ty_of c p)) m) all
    ∙ ap (λ c. build (k (ty_of d c)) m) same
reffed (suc n) b d sum p last ts m k (next, (i, (found, more))) q =
    ap (build (refs b p k)) found ∙ reffed n (suc b) d (omega (arith, sum)) next last i m k more q

typing : (t : Ty) (ts m : List Placed) (k : Ty → Plan) → Typed t ts m → Not referred m → build (typed k) ts ≡ build (k t) m
typing t ts m k (p, (i, j, x)) q =
    ap (build (typed k)) x.0.1
    ∙ ap (build (type k)) x.1
    ∙ reffed t.depth 0 t.depth (omega arith) p t.last j m k x.3 q

pared : (x : Parameter) (ts m : List Placed) (k : Parameter → Plan) → Par x ts m → Not referred m → build (par k) ts ≡ build (k x) m
pared x ts m k (i, j, y) q =
    ap (build (par k)) y.0
    ∙ marked x.mark i j (λ mark. typed λ t. k (record { name = x.name; mark = mark; ty = t })) y.1 (not_at binding y.2.1.2.0.1 refl)
    ∙ typing x.ty j m (λ t. k (record { name = x.name; mark = x.mark; ty = t })) y.2 q

-- the parameters of a function, and `)`
all_pared : (all : Parameters) (ts i m : List Placed) (k : Parameters → Plan) → Pars all ts i → After (symbol sg.Close) i m → build (par λ x. pars x k) ts ≡ build (k all) m
all_pared (Sole x) ts i m k found (p, closed) =
    pared x ts i (λ x. pars x k) found (not_at referred closed refl) ∙ ap (build (pars x k)) closed
all_pared (And x more) ts i m k (j, l, (found, (p, comma), others)) closed =
    pared x ts j (λ x. pars x k) found (not_at referred comma refl)
    ∙ ap (build (pars x k)) comma
    ∙ all_pared more l i m (λ more. k (And x more)) others closed

-- behind a type
unreferred : (mark : Option Text) (ts i m : List Placed) → Marked mark ts i → After (symbol sg.Equals) i m → Not referred ts
unreferred None ts i m found (p, equals) = not_at referred (found ∙ equals) refl
unreferred (Some x) ts i m found equals = not_at referred found refl

-- the tokens of a declaration build it
built : (d : Declaration) (ts : List Placed) → Declares d ts [] → build start ts ≡ Some d
built (Val x mark e) ts (i, j, y) =
    ap (build start) y.0.1
    ∙ headed x mark i j (λ x mark. exp λ e. done (Val x mark e)) y.1
    ∙ (facts e).as_exp j [] y.2 tt (λ e. done (Val x mark e))
built (Fun f all t mark e) ts (h, i, j, k, l, o, x, y, z) =
    let body : Parameters → Ty → Option Text → Plan = λ all t mark. one (symbol sg.Equals) (exp λ e. done (Fun f all t mark e)) in
    ap (build start) z.0.1
    ∙ ap (build fun_rest) z.1
    ∙ ap (build (one (symbol sg.Open) (par λ x. pars x λ all. typed λ t. binder λ mark. body all t mark))) z.2.1
    ∙ all_pared all j k l (λ all. typed λ t. binder λ mark. body all t mark) z.4 z.5
    ∙ typing t l o (λ t. binder λ mark. body all t mark) z.6 (unreferred mark o x y z.7 z.8)
    ∙ marked mark o x (body all t) z.7 (not_at binding z.8.1 refl)
    ∙ ap (build (body all t mark)) z.8.1
    ∙ (facts e).as_exp y [] z.9 tt (λ e. done (Fun f all t mark e))

same : (d e : Declaration) → Some d ≡ Some e → d ≡ e
same d e equal = cc

pub unambiguous : Unambiguous
unambiguous ts d e p q = same d e (sym (built d ts p) ∙ built e ts q)
