-- One step of the machine, back: a token, and what meets the goals after it, meet the goals before it.
-- So what the machine takes is the front of a declaration. Assumes nothing.
use Rattle.std.proofs.Common.{◌≡◌, ℕ, suc, ◌+◌, ◌-◌, ◌<◌, ◌≤◌, Bool, true, false, cond, ltb, List, [], ◌∷◌, ◌++◌, Some, None, Option, sym, refl, ap, subst, append_assoc, arith, ltb-true}
use Rattle.tokens.specs.Tokens.{Tok, word, symbol, literal, identifier, binder as binder_mark, bound as bound_mark, Placed}
use Rattle.tokens.specs.declared.token.Word.TheVariants as kw
use Rattle.tokens.specs.declared.token.Symbol.TheVariants as sg
use Rattle.syntax.specs.declared.tree.Operator.{Operator}
use Rattle.syntax.specs.declared.tree.Operator.TheVariants as op
use Rattle.syntax.specs.declared.tree.Ty.{Ty}
use Rattle.syntax.specs.Trees.{Expr, Literal, Variable, Assign, Let, Bounded, Ref, Read, Call, Arith, If, More, Then, Parameter, And, Val, Fun}
use Rattle.syntax.specs.Sorts.{at, same_sort}
use Rattle.syntax.specs.Grammar.{class, strength, sign_of, Spans, Declares}
use Rattle.goals.specs.Goals.{Goal, Goals, one, name, dec, exp, sum, term, app, atom, group, binder, refs, pars, terms, apps, marks, call, args, assign, vals, level, val_goals, par_goals, group_goals, let_goals, if_goals, fun_goals, call_goals, args_goals, semi_goals, vals_goals}
use Rattle.goals.specs.Begins.{is, with, or, another, atom_begins, app_begins, term_begins, sum_begins, if_begins, begins}
use Rattle.goals.specs.Machine.{empty, step}
use Rattle.goals.specs.Outcomes.{Viable, Whole}
use Rattle.goals.proofs.Apart.{no_goals, same_goals}
use Rattle.goals.proofs.Meant.{Tree, Tail, Meant, Meets, filled, nothing, completion}
use Rattle.goals.proofs.Sorts.{saying, alike}
use Rattle.goals.proofs.Track.{run}

-- a test for a token of the sort of t
at_sort : (k t : Tok) (o other : Option Goals) (hs : Goals) (X : Tok → Type 0) → cond (same_sort k t) o other ≡ Some hs → ((d : List ℕ) → o ≡ Some hs → X (saying t d)) → (other ≡ Some hs → X k) → X k
at_sort k t o other hs X e found else-way = go (same_sort k t) refl e
  where
    go : (b : Bool) → same_sort k t ≡ b → cond b o other ≡ Some hs → X k
    go true was h = let x = alike k t was in subst X (sym x.1) (found x.0 h)
    go false was h = else-way h

-- one more of at most n
one_more : (n : ℕ) (new hs : Goals) (X : Type 0) → another n new ≡ Some hs → (0 < n → new ≡ hs → X) → X
one_more n new hs X e goes = go (ltb 0 n) refl e
  where
    go : (b : Bool) → ltb 0 n ≡ b → cond b (Some new) None ≡ Some hs → X
    go true was h = goes (ltb-true 0 n was) (same_goals new hs h)
    go false was h = no_goals hs h

term_met : (S : Goals) (ts : List Placed) → Meets (app ∷ apps ∷ S) ts → Meets (term ∷ S) ts
term_met S ts (m, x) =
    let t = x.1.1.0 x.0.0 (omega (arith, x.0.1.0)) in
    (x.1.0, ((t.0, (t.1.0, t.1.1 ts x.0.1.1)), x.1.1.1))

sum_met : (S : Goals) (ts : List Placed) → Meets (term ∷ terms ∷ S) ts → Meets (sum ∷ S) ts
sum_met S ts (m, x) =
    let t = x.1.1.0 x.0.0 (omega (arith, x.0.1.0)) in
    (x.1.0, ((t.0, (t.1.0, t.1.1 ts x.0.1.1)), x.1.1.1))

exp_met : (S : Goals) (ts : List Placed) → Meets (sum ∷ S) ts → Meets (exp ∷ S) ts
exp_met S ts (m, x) = (m, ((x.0.0, (omega (arith, x.0.1.0), x.0.1.1)), x.1))

app_met : (S : Goals) (ts : List Placed) → Meets (atom ∷ S) ts → Meets (app ∷ S) ts
app_met S ts (m, x) = (m, ((x.0.0, (omega (arith, x.0.1.0), x.0.1.1)), x.1))

group_met : (S : Goals) (ts : List Placed) → Meets (exp ∷ S) ts → Meets (group ∷ S) ts
group_met S ts (m, x) = (m, (filled 4 ts m x.0, x.1))

assign_met : (S : Goals) (ts : List Placed) → Meets (sum ∷ assign ∷ S) ts → Meets (group ∷ S) ts
assign_met S ts (m, x) =
    let (a, y) = x.0 in
    (x.1.0, ((λ place k close. x.1.1.0 a y.0 place k ts close y.1), x.1.1.1))

-- What begins with a token, once it is known what the goals after it stand for.
module _ (p : ℕ) (ts : List Placed) (S : Goals) where
  met_as : (new hs : Goals) → Some new ≡ Some hs → Meets (hs ++ S) ts → Meets (new ++ S) ts
  met_as new hs e next = subst (λ l. Meets (l ++ S) ts) (sym (same_goals new hs e)) next

  atom_marked : (k : Tok) (e : Expr) (i : List Placed) → class e ≤ 0 → Spans e (at p k ∷ ts) i → Meets (marks ∷ S) i → Meets (atom ∷ S) (at p k ∷ ts)
  atom_marked k e i c spans (m, y) = let t = y.0 e c in (m, ((t.0, (t.1.0, t.1.1 (at p k ∷ ts) spans)), y.1))

  began_group : Meets (group_goals ++ S) ts → Meets (atom ∷ S) (at p (symbol sg.Open) ∷ ts)
  began_group (j, x) =
      let (k, y) = x.1 in
      let (l, z) = y.1 in
      let tree = x.0 p k y.0.1 in
      atom_marked (symbol sg.Open) tree.0 k tree.1.0 tree.1.1 (subst (λ r. Meets (marks ∷ S) r) (sym z.0) z.1)

  began_let : Meets (let_goals ++ S) ts → Meets (atom ∷ S) (at p (word kw.Let) ∷ ts)
  began_let (i, a) =
      let (i1, b) = a.1 in
      let (i2, c) = b.1 in
      let (i3, d) = c.1 in
      let (i4, e) = d.1 in
      let (j, f) = e.1 in
      let (k, g) = f.1 in
      let (l, h) = g.1 in
      let (m, o) = h.1 in
      let (n, q) = o.1 in
      let vs = f.0 b.0.0 c.0.0 e.0.0 in
      atom_marked (word kw.Let) (Let p vs.0 h.0.0) m (omega arith)
      (ts, i, j, k, l, (refl, a.0.1, vs.1 i i3 (i1, i2, (b.0.1, c.0.1, d.0.1)) e.0.1.1, g.0.1, h.0.1.1, o.0.1))
      (subst (λ r. Meets (marks ∷ S) r) (sym q.0) q.1)

  began_atom : (k : Tok) (hs : Goals) → atom_begins k ≡ Some hs → Meets (hs ++ S) ts → Meets (atom ∷ S) (at p k ∷ ts)
  began_atom k hs e next =
      let X : Tok → Type 0 = λ l. Meets (atom ∷ S) (at p l ∷ ts) in
      let last : Option Goals = is (word kw.Let) let_goals None k in
      let third : Option Goals = is (symbol sg.Open) group_goals last k in
      at_sort k (literal []) (Some (marks ∷ [])) (is (identifier []) (marks ∷ []) third k) hs X e
      (λ d h. atom_marked (literal d) (Literal (record { place = p; bytes = d })) ts (omega arith) refl (met_as (marks ∷ []) hs h next))
      (λ other. at_sort k (identifier []) (Some (marks ∷ [])) third hs X other
      (λ d h. atom_marked (identifier d) (Variable (record { place = p; bytes = d })) ts (omega arith) refl (met_as (marks ∷ []) hs h next))
      (λ other. at_sort k (symbol sg.Open) (Some group_goals) last hs X other
      (λ d h. began_group (met_as group_goals hs h next))
      (λ other. at_sort k (word kw.Let) (Some let_goals) None hs X other
      (λ d h. began_let (met_as let_goals hs h next))
      (no_goals hs))))

  began_app : (k : Tok) (hs : Goals) → app_begins k ≡ Some hs → Meets (hs ++ S) ts → Meets (app ∷ S) (at p k ∷ ts)
  began_app k hs e next =
      let X : Tok → Type 0 = λ l. Meets (app ∷ S) (at p l ∷ ts) in
      let third : Option Goals = is (symbol sg.Bang) (atom ∷ []) (atom_begins k) k in
      at_sort k (identifier []) (Some (call ∷ [])) (is (word kw.Ref) (atom ∷ []) third k) hs X e
      (λ d h.
      let (m, y) = met_as (call ∷ []) hs h next in
      (m, (y.0 (record { place = p; bytes = d }), y.1)))
      (λ other. at_sort k (word kw.Ref) (Some (atom ∷ [])) third hs X other
      (λ d h.
      let (m, y) = met_as (atom ∷ []) hs h next in
      (m, ((Ref p y.0.0, (omega arith, (ts, (refl, y.0.1.0, y.0.1.1)))), y.1)))
      (λ other. at_sort k (symbol sg.Bang) (Some (atom ∷ [])) (atom_begins k) hs X other
      (λ d h.
      let (m, y) = met_as (atom ∷ []) hs h next in
      (m, ((Read p y.0.0, (omega arith, (ts, (refl, y.0.1.0, y.0.1.1)))), y.1)))
      (λ other. app_met S (at p k ∷ ts) (began_atom k hs other next))))

  began_if : Meets (if_goals ++ S) ts → Meets (exp ∷ S) (at p (word kw.If) ∷ ts)
  began_if (i, x) =
      let (j, y) = x.1 in
      let (k, z) = y.1 in
      let (l, u) = z.1 in
      let (o, v) = u.1 in
      let (q, w) = v.1 in
      let (m, t) = w.1 in
      let (b, low) = t.1 in (
        m,
        (
          (If p x.0.0 z.0.0 v.0.0 t.0.0, (omega arith, (ts, i, j, k, l, o, q, (refl, x.0.1.0, x.0.1.1, y.0.1, z.0.1.0, z.0.1.1, u.0.1, v.0.1.1, w.0.1, t.0.1.1)))),
          subst (λ r. Meets S r) (sym low.0) low.1,
        ),
      )

  began_operator : (n : ℕ) (g h : Goal) (o : Operator) → strength o ≡ n + 1 → ((i m : List Placed) → Meant h i m → Tree n i m) → ((i m : List Placed) → Meant g i m → Tail (n + 1) i m) → ((i m : List Placed) → Tail (n + 1) i m → Meant g i m) → Meets (h ∷ g ∷ S) ts → Meets (g ∷ S) (at p (sign_of o) ∷ ts)
  began_operator n g h o is-so as-tree as-tail from_tail (m, x) = (
    x.1.0,
    (
      from_tail (at p (sign_of o) ∷ ts) x.1.0 (λ a c.
          let b = as-tree ts m x.0 in
          let t = as-tail m x.1.0 x.1.1.0 (Arith a p o b.0) (omega (arith, is-so)) in
          (t.0, (t.1.0, λ ss s. t.1.1 ss (at p (sign_of o) ∷ ts, ts, (omega (arith, is-so, c), s, refl, omega (arith, is-so, b.1.0), b.1.1))))),
      x.1.1.1,
    ),
  )

  began_add : (o : Operator) → strength o ≡ 3 → Meets (term ∷ terms ∷ S) ts → Meets (terms ∷ S) (at p (sign_of o) ∷ ts)
  began_add o is-so met = began_operator 2 terms term o is-so (λ i m x. x) (λ i m x. x) (λ i m x. x) met

  began_multiply : (o : Operator) → strength o ≡ 2 → Meets (app ∷ apps ∷ S) ts → Meets (apps ∷ S) (at p (sign_of o) ∷ ts)
  began_multiply o is-so met = began_operator 1 apps app o is-so (λ i m x. x) (λ i m x. x) (λ i m x. x) met

  began_ref : (n : ℕ) → 0 < n → Meets (refs (n - 1) ∷ S) ts → Meets (refs n ∷ S) (at p (word kw.Ref) ∷ ts)
  began_ref n h (m, x) =
      let more = x.0.1.1 p in
      (m, ((suc x.0.0, (omega (arith, h, x.0.1.0), λ from. (more.0, (p, (ts, (refl, more.1)))))), x.1))

  began_par : (n : ℕ) → 0 < n → Meets (par_goals ++ (pars (n - 1) ∷ S)) ts → Meets (pars n ∷ S) (at p (symbol sg.Comma) ∷ ts)
  began_par n h (i, a) =
      let (j, b) = a.1 in
      let (k, c) = b.1 in
      let (l, d) = c.1 in
      let (o, e) = d.1 in
      let (m, f) = e.1 in
      let int : ℕ = d.0.1.0 in
      let last = e.0.1.1 int in
      let ty : Ty = record { depth = e.0.0; last = last.0 } in
      let next : Parameter = record { name = a.0.0; mark = b.0.0; ty = ty } in
      let more = f.0 next in (
        m,
        (
          (λ x. (And x more.0, (omega (arith, h, more.1.0), λ ss s. (at p (symbol sg.Comma) ∷ ts, ts, (s, (p, refl), more.1.1 ts (i, j, (a.0.1, b.0.1, (int, (k, l, (c.0.1, d.0.1.1, e.0.1.0, last.1)))))))))),
          f.1,
        ),
      )

  began_val : Meets (val_goals ++ S) ts → Meets (dec ∷ S) (at p (word kw.Val) ∷ ts)
  began_val (i, a) =
      let (j, b) = a.1 in
      let (k, c) = b.1 in
      let (m, d) = c.1 in
      (m, ((Val a.0.0 b.0.0 d.0.0, (ts, k, ((p, refl), (i, j, (a.0.1, b.0.1, c.0.1)), d.0.1.1))), d.1))

  began_fun : Meets (fun_goals ++ S) ts → Meets (dec ∷ S) (at p (word kw.Fun) ∷ ts)
  began_fun (i0, a0) =
      let (i1, a1) = a0.1 in
      let (i2, a2) = a1.1 in
      let (i3, a3) = a2.1 in
      let (i4, a4) = a3.1 in
      let (i5, a5) = a4.1 in
      let (i6, a6) = a5.1 in
      let (i7, a7) = a6.1 in
      let (i8, a8) = a7.1 in
      let (i9, a9) = a8.1 in
      let (j0, b0) = a9.1 in
      let (j1, b1) = b0.1 in
      let (j2, b2) = b1.1 in
      let (j3, b3) = b2.1 in
      let (m, b4) = b3.1 in
      let int : ℕ = a5.0.1.0 in
      let last = a6.0.1.1 int in
      let ty : Ty = record { depth = a6.0.0; last = last.0 } in
      let first : Parameter = record { name = a2.0.0; mark = a3.0.0; ty = ty } in
      let all = a7.0 first in
      let result-int : ℕ = b0.0.1.0 in
      let result-last = b1.0.1.1 result-int in
      let result : Ty = record { depth = b1.0.0; last = result-last.0 } in (
        m,
        (
          (
            Fun a0.0.0 all.0 result b2.0.0 b4.0.0,
            (ts, i0, i1, i7, i8, j1, j2, j3, ((p, refl), a0.0.1, a1.0.1, omega (arith, all.1.0), all.1.1 i1 (i2, i3, (a2.0.1, a3.0.1, (int, (i4, i5, (a4.0.1, a5.0.1.1, a6.0.1.0, last.1))))), a8.0.1, (result-int, (i9, j0, (a9.0.1, b0.0.1.1, b1.0.1.0, result-last.1))), b2.0.1, b3.0.1, b4.0.1.1)),
          ),
          b4.1,
        ),
      )

  began_call : Meets (call_goals ++ S) ts → Meets (call ∷ S) (at p (symbol sg.Open) ∷ ts)
  began_call (i, a) =
      let (j, b) = a.1 in
      let (k, c) = b.1 in
      let (l, d) = c.1 in
      let xs = b.0 a.0.0 in (
        k,
        (
          (λ f. (Call f xs.0, (omega arith, (at p (symbol sg.Open) ∷ ts, ts, j, (refl, (p, refl), xs.1 ts a.0.1.1, c.0.1))))),
          subst (λ r. Meets S r) (sym d.0) d.1,
        ),
      )

  bound_call : (d : List ℕ) → Meets (marks ∷ S) ts → Meets (call ∷ S) (at p (bound_mark d) ∷ ts)
  bound_call d (m, y) = (
    m,
    (
      (λ f.
          let t = y.0 (Bounded (Variable f) (record { place = p; bytes = d })) (omega arith) in
          (t.0, (omega (arith, t.1.0), t.1.1 (at f.place (identifier f.bytes) ∷ (at p (bound_mark d) ∷ ts)) (at p (bound_mark d) ∷ ts, (omega arith, refl, refl))))),
      y.1,
    ),
  )

  began_mark : (d : List ℕ) → Meets (marks ∷ S) ts → Meets (marks ∷ S) (at p (bound_mark d) ∷ ts)
  began_mark d (m, y) = (
    m,
    (
      (λ a c.
          let t = y.0 (Bounded a (record { place = p; bytes = d })) (omega arith) in
          (t.0, (t.1.0, λ ss s. t.1.1 ss (at p (bound_mark d) ∷ ts, (c, s, refl))))),
      y.1,
    ),
  )

  began_arg : Meets (args_goals ++ S) ts → Meets (args ∷ S) (at p (symbol sg.Comma) ∷ ts)
  began_arg (i, a) =
      let (j, b) = a.1 in
      let xs = b.0 a.0.0 in
      (j, ((λ e. (More e xs.0, λ ss s. (at p (symbol sg.Comma) ∷ ts, ts, (s, (p, refl), xs.1 ts a.0.1.1)))), b.1))

  began_assign : Meets (semi_goals ++ S) ts → Meets (assign ∷ S) (at p (symbol sg.Assign) ∷ ts)
  began_assign (i, a) =
      let (j, b) = a.1 in
      let (m, c) = b.1 in (
        m,
        (
          (λ e low place k ss close s. (Assign place e a.0.0 c.0.0, (omega arith, (ss, at p (symbol sg.Assign) ∷ ts, ts, i, j, m, (refl, low, s, (p, refl), a.0.1.0, a.0.1.1, b.0.1, c.0.1.1, close))))),
          c.1,
        ),
      )

  began_vals : Meets (vals_goals ++ S) ts → Meets (vals ∷ S) (at p (word kw.Val) ∷ ts)
  began_vals (i, a) =
      let (j, b) = a.1 in
      let (k, c) = b.1 in
      let (l, d) = c.1 in
      let (m, e) = d.1 in
      let vs = e.0 a.0.0 b.0.0 d.0.0 in (
        m,
        (
          (λ x mark u. (Then x mark u vs.0, λ ss q h s. (q, at p (word kw.Val) ∷ ts, ts, (h, s, (p, refl), vs.1 ts k (i, j, (a.0.1, b.0.1, c.0.1)) d.0.1.1)))),
          e.1,
        ),
      )

-- a goal that is h and then g
with_more : (p : ℕ) (ts : List Placed) (g h : Goal) (k : Tok) (S : Goals) (o : Option Goals) (hs : Goals) → with (g ∷ []) o ≡ Some hs → ((new : Goals) → o ≡ Some new → Meets (new ++ (g ∷ S)) ts → Meets (h ∷ g ∷ S) (at p k ∷ ts)) → Meets (hs ++ S) ts → Meets (h ∷ g ∷ S) (at p k ∷ ts)
with_more p ts g h k S None hs e goes next = no_goals hs e
with_more p ts g h k S (Some new) hs e goes next =
    goes new refl (subst (λ l. Meets l ts) (append_assoc new (g ∷ []) S) (met_as p ts S (new ++ (g ∷ [])) hs e next))

began_term : (p : ℕ) (ts : List Placed) (S : Goals) (k : Tok) (hs : Goals) → term_begins k ≡ Some hs → Meets (hs ++ S) ts → Meets (term ∷ S) (at p k ∷ ts)
began_term p ts S k hs e next =
    term_met S (at p k ∷ ts) (with_more p ts apps app k S (app_begins k) hs e (λ new h met. began_app p ts (apps ∷ S) k new h met) next)

began_sum : (p : ℕ) (ts : List Placed) (S : Goals) (k : Tok) (hs : Goals) → sum_begins k ≡ Some hs → Meets (hs ++ S) ts → Meets (sum ∷ S) (at p k ∷ ts)
began_sum p ts S k hs e next =
    sum_met S (at p k ∷ ts) (with_more p ts terms term k S (term_begins k) hs e (λ new h met. began_term p ts (terms ∷ S) k new h met) next)

-- an `if`, or else what the other goals begin with
or_if : (p : ℕ) (ts : List Placed) (S : Goals) (X : Tok → Type 0) (k : Tok) (o : Option Goals) (hs : Goals) → or (if_begins k) o ≡ Some hs → Meets (hs ++ S) ts → (Meets (exp ∷ S) (at p (word kw.If) ∷ ts) → X (word kw.If)) → (o ≡ Some hs → X k) → X k
or_if p ts S X k o hs e next found other = go (same_sort k (word kw.If)) refl e
  where
    go : (b : Bool) → same_sort k (word kw.If) ≡ b → or (cond b (Some if_goals) None) o ≡ Some hs → X k
    go true was h = subst X (sym (alike k (word kw.If) was).1) (found (began_if p ts S (met_as p ts S if_goals hs h next)))
    go false was h = other h

module _ (p : ℕ) (ts : List Placed) (S hs : Goals) (next : Meets (hs ++ S) ts) (k : Tok) where
  began : (g : Goal) → begins g k ≡ Some hs → Meets (g ∷ S) (at p k ∷ ts)
  began (one t) e =
      at_sort k t (Some []) None hs (λ l. Meets (one t ∷ S) (at p l ∷ ts)) e
      (λ d h. (ts, ((d, (p, refl)), met_as p ts S [] hs h next)))
      (no_goals hs)
  began name e =
      at_sort k (identifier []) (Some []) None hs (λ l. Meets (name ∷ S) (at p l ∷ ts)) e
      (λ d h. (ts, ((record { place = p; bytes = d }, refl), met_as p ts S [] hs h next)))
      (no_goals hs)
  began dec e =
      let X : Tok → Type 0 = λ l. Meets (dec ∷ S) (at p l ∷ ts) in
      at_sort k (word kw.Val) (Some val_goals) (is (word kw.Fun) fun_goals None k) hs X e
      (λ d h. began_val p ts S (met_as p ts S val_goals hs h next))
      (λ other. at_sort k (word kw.Fun) (Some fun_goals) None hs X other
      (λ d h. began_fun p ts S (met_as p ts S fun_goals hs h next))
      (no_goals hs))
  began exp e =
      or_if p ts S (λ l. Meets (exp ∷ S) (at p l ∷ ts)) k (sum_begins k) hs e next (λ met. met)
      (λ other. exp_met S (at p k ∷ ts) (began_sum p ts S k hs other next))
  began sum e = began_sum p ts S k hs e next
  began term e = began_term p ts S k hs e next
  began app e = began_app p ts S k hs e next
  began atom e = began_atom p ts S k hs e next
  began group e =
      or_if p ts S (λ l. Meets (group ∷ S) (at p l ∷ ts)) k (with (assign ∷ []) (sum_begins k)) hs e next
      (λ met. group_met S (at p (word kw.If) ∷ ts) met)
      (λ other. assign_met S (at p k ∷ ts) (with_more p ts assign sum k S (sum_begins k) hs other (λ new h met. began_sum p ts (assign ∷ S) k new h met) next))
  began binder e =
      at_sort k (binder_mark []) (Some []) None hs (λ l. Meets (binder ∷ S) (at p l ∷ ts)) e
      (λ d h. (ts, ((Some (record { place = p; bytes = d }), refl), met_as p ts S [] hs h next)))
      (no_goals hs)
  began (refs n) e =
      let new : Goals = refs (n - 1) ∷ [] in
      let X : Tok → Type 0 = λ l. Meets (refs n ∷ S) (at p l ∷ ts) in
      at_sort k (word kw.Ref) (another n new) None hs X e
      (λ d h. one_more n new hs (X (word kw.Ref)) h (λ some same. began_ref p ts S n some (met_as p ts S new hs (ap Some same) next)))
      (no_goals hs)
  began (pars n) e =
      let new : Goals = par_goals ++ (pars (n - 1) ∷ []) in
      let X : Tok → Type 0 = λ l. Meets (pars n ∷ S) (at p l ∷ ts) in
      at_sort k (symbol sg.Comma) (another n new) None hs X e
      (λ d h. one_more n new hs (X (symbol sg.Comma)) h (λ some same. began_par p ts S n some (met_as p ts S new hs (ap Some same) next)))
      (no_goals hs)
  began terms e =
      let new : Goals = term ∷ terms ∷ [] in
      let X : Tok → Type 0 = λ l. Meets (terms ∷ S) (at p l ∷ ts) in
      at_sort k (symbol sg.Plus) (Some new) (is (symbol sg.Minus) new None k) hs X e
      (λ d h. began_add p ts S op.Plus refl (met_as p ts S new hs h next))
      (λ other. at_sort k (symbol sg.Minus) (Some new) None hs X other
      (λ d h. began_add p ts S op.Minus refl (met_as p ts S new hs h next))
      (no_goals hs))
  began apps e =
      let new : Goals = app ∷ apps ∷ [] in
      let X : Tok → Type 0 = λ l. Meets (apps ∷ S) (at p l ∷ ts) in
      let last : Option Goals = is (word kw.Mod) new None k in
      at_sort k (symbol sg.Star) (Some new) (is (word kw.Div) new last k) hs X e
      (λ d h. began_multiply p ts S op.Times refl (met_as p ts S new hs h next))
      (λ other. at_sort k (word kw.Div) (Some new) last hs X other
      (λ d h. began_multiply p ts S op.Div refl (met_as p ts S new hs h next))
      (λ other. at_sort k (word kw.Mod) (Some new) None hs X other
      (λ d h. began_multiply p ts S op.Mod refl (met_as p ts S new hs h next))
      (no_goals hs)))
  began marks e =
      at_sort k (bound_mark []) (Some (marks ∷ [])) None hs (λ l. Meets (marks ∷ S) (at p l ∷ ts)) e
      (λ d h. began_mark p ts S d (met_as p ts S (marks ∷ []) hs h next))
      (no_goals hs)
  began call e =
      let X : Tok → Type 0 = λ l. Meets (call ∷ S) (at p l ∷ ts) in
      at_sort k (symbol sg.Open) (Some call_goals) (is (bound_mark []) (marks ∷ []) None k) hs X e
      (λ d h. began_call p ts S (met_as p ts S call_goals hs h next))
      (λ other. at_sort k (bound_mark []) (Some (marks ∷ [])) None hs X other
      (λ d h. bound_call p ts S d (met_as p ts S (marks ∷ []) hs h next))
      (no_goals hs))
  began args e =
      at_sort k (symbol sg.Comma) (Some args_goals) None hs (λ l. Meets (args ∷ S) (at p l ∷ ts)) e
      (λ d h. began_arg p ts S (met_as p ts S args_goals hs h next))
      (no_goals hs)
  began assign e =
      at_sort k (symbol sg.Assign) (Some semi_goals) None hs (λ l. Meets (assign ∷ S) (at p l ∷ ts)) e
      (λ d h. began_assign p ts S (met_as p ts S semi_goals hs h next))
      (no_goals hs)
  began vals e =
      at_sort k (word kw.Val) (Some vals_goals) None hs (λ l. Meets (vals ∷ S) (at p l ∷ ts)) e
      (λ d h. began_vals p ts S (met_as p ts S vals_goals hs h next))
      (no_goals hs)
  began level e = no_goals hs e

-- one step back
pub sound : (gs hs : Goals) (p : ℕ) (k : Tok) (ts : List Placed) → step gs k ≡ Some hs → Meets hs ts → Meets gs (at p k ∷ ts)
sound [] hs p k ts e next = no_goals hs e
sound (g ∷ S) hs p k ts e next = go (begins g k) refl e (sound S hs p k ts)
  where
    skipped : (b : Bool) → empty g ≡ b → cond b (step S k) None ≡ Some hs → (step S k ≡ Some hs → Meets hs ts → Meets S (at p k ∷ ts)) → Meets (g ∷ S) (at p k ∷ ts)
    skipped true was h later = (at p k ∷ ts, (nothing g was (at p k ∷ ts), later h next))
    skipped false was h later = no_goals hs h

    go : (o : Option Goals) → begins g k ≡ o → elim o [ Some new ↦ Some (new ++ S) | None ↦ cond (empty g) (step S k) None ] ≡ Some hs → (step S k ≡ Some hs → Meets hs ts → Meets S (at p k ∷ ts)) → Meets (g ∷ S) (at p k ∷ ts)
    go None was h later = skipped (empty g) refl h later
    go (Some new) was h later = began p ts S new (subst (λ l. Meets l ts) (sym (same_goals (new ++ S) hs h)) next) k g was

-- so many steps back as there are tokens
pub back : (a : List Placed) (gs hs : Goals) (u : List Placed) → run gs a ≡ Some hs → Meets hs u → Meets gs (a ++ u)
back [] gs hs u goes met = subst (λ l. Meets l u) (sym (same_goals gs hs goes)) met
back (t ∷ a) gs hs u goes met = go (step gs t.tok) refl goes (λ ks e. back a ks hs u e met)
  where
    go : (o : Option Goals) → step gs t.tok ≡ o → elim o [ None ↦ None | Some ks ↦ run ks a ] ≡ Some hs → ((ks : Goals) → run ks a ≡ Some hs → Meets ks (a ++ u)) → Meets gs (t ∷ (a ++ u))
    go None was e later = no_goals hs e
    go (Some ks) was e later = sound gs ks t.place t.tok (a ++ u) was (later ks e)

pub a_declaration : (ts : List Placed) → Meets (dec ∷ []) ts → Whole ts
a_declaration ts (m, x) = (x.0.0, subst (λ l. Declares x.0.0 ts l) x.1 x.0.1)

-- tokens that the machine takes are the front of a declaration's
pub some_declaration : (a : List Placed) (hs : Goals) → run (dec ∷ []) a ≡ Some hs → Viable a
some_declaration a hs goes =
    let (u, met) = completion hs in
    (u, a_declaration (a ++ u) (back a (dec ∷ []) hs u goes met))
