-- Every tree of an expression is a way of the goals through its tokens. Assumes nothing.
use Rattle.std.proofs.Common.{◌≡◌, ℕ, ◌+◌, ◌≤◌, true, ◌&&◌, List, [], ◌∷◌, ◌++◌, Some, None, Option, sym, refl, ap, ◌∙◌, subst, append_assoc, arith}
use Rattle.tokens.specs.Tokens.{Tok, word, symbol, literal, identifier, binder as binder_mark, bound as bound_mark, Placed}
use Rattle.tokens.specs.declared.token.Word.TheVariants as kw
use Rattle.tokens.specs.declared.token.Symbol.TheVariants as sg
use Rattle.syntax.specs.declared.tree.Operator.{Operator}
use Rattle.syntax.specs.declared.tree.Operator.TheVariants as op
use Rattle.syntax.specs.Trees.{Text, Expr, Literal, Variable, Group, Assign, Let, Bounded, Ref, Read, Call, Arith, If, Arguments, Last, More, Bindings, Final, Then}
use Rattle.syntax.specs.Sorts.{at, After}
use Rattle.syntax.specs.Grammar.{class, strength, sign_of, Spans, Lists, Binds, Heads}
use Rattle.syntax.specs.Levels.{nested, nested_args, nested_vals, marked}
use Rattle.goals.specs.Goals.{Goal, Goals, one, name, exp, sum, term, app, atom, group, binder, terms, apps, marks, call, args, assign, vals, level}
use Rattle.goals.specs.Begins.{with, or, if_begins, sum_begins, term_begins, app_begins, begins}
use Rattle.goals.specs.Machine.{empty, step, all_empty, levels}
use Rattle.goals.proofs.Steps.{skipped}
use Rattle.goals.proofs.Track.{Track, after, track, over, on, steps, put, join}

-- what may come to nothing where an expression may end
pub data Rest : Type 0 where
  marking : Rest
  calling : Rest
  leveling : Rest
  multiplying : Rest
  adding : Rest
  assigning : Rest

abbrev pub goal : Rest → Goal
goal marking = marks
goal calling = call
goal leveling = level
goal multiplying = apps
goal adding = terms
goal assigning = assign

abbrev pub below : List Rest → Goals → Goals
below [] S = S
below (r ∷ rs) S = goal r ∷ below rs S

-- what may come to nothing where an app may end
pub data Stop : Type 0 where
  at_marks : Stop
  at_call : Stop
  at_level : Stop

abbrev pub rest : Stop → Rest
rest at_marks = marking
rest at_call = calling
rest at_level = leveling

abbrev pub stop : Stop → Goal
stop h = goal (rest h)

-- a token that none of these begins with
abbrev Ends : Tok → Type 0
Ends t = (begins marks t ≡ None) × (begins call t ≡ None) × (begins apps t ≡ None) × (begins terms t ≡ None) × (begins assign t ≡ None)

ends : (t : Tok) → Ends t → (r : Rest) → begins (goal r) t ≡ None
ends t q marking = q.0
ends t q calling = q.1
ends t q leveling = refl
ends t q multiplying = q.2
ends t q adding = q.3
ends t q assigning = q.4

pub may_end : (r : Rest) → empty (goal r) ≡ true
may_end marking = refl
may_end calling = refl
may_end leveling = refl
may_end multiplying = refl
may_end adding = refl
may_end assigning = refl

skip : (t : Tok) → Ends t → (rs : List Rest) (S : Goals) → step (below rs S) t ≡ step S t
skip t q [] S = refl
skip t q (r ∷ rs) S = skipped (goal r) (below rs S) t (may_end r) (ends t q r) ∙ skip t q rs S

-- a token that goes on neither with marks nor with a call
past_stop : (t : Tok) → begins marks t ≡ None → begins call t ≡ None → (h : Stop) (S : Goals) → step (stop h ∷ S) t ≡ step S t
past_stop t m c h S = skipped (stop h) S t (may_end (rest h)) (go h)
  where
    go : (h : Stop) → begins (stop h) t ≡ None
    go at_marks = m
    go at_call = c
    go at_level = refl

pub all_nothing : (rs : List Rest) → all_empty (below rs []) ≡ true
all_nothing [] = refl
all_nothing (r ∷ rs) = ap (λ b. b && all_empty (below rs [])) (may_end r) ∙ all_nothing rs

below_append : (rs qs : List Rest) (S : Goals) → below (rs ++ qs) S ≡ below rs (below qs S)
below_append [] qs S = refl
below_append (r ∷ rs) qs S = ap (λ gs. goal r ∷ gs) (below_append rs qs S)

-- a token that is known is taken
pub takes : (p : ℕ) (k : Tok) (gs hs : Goals) (ts m : List Placed) → step gs k ≡ Some hs → ts ≡ at p k ∷ m → track gs ts ≡ after (levels hs) (track hs m)
takes p k gs hs ts m e found = ap (track gs) found ∙ steps p k gs hs m e

pub word_taken : (t : Tok) (gs hs : Goals) (ts m : List Placed) → step gs t ≡ Some hs → After t ts m → track gs ts ≡ after (levels hs) (track hs m)
word_taken t gs hs ts m e found = takes found.0 t gs hs ts m e found.1

-- the same, past what may come to nothing
passes : (t : Tok) → Ends t → (rs : List Rest) (S hs : Goals) (ts m : List Placed) → step S t ≡ Some hs → After t ts m → track (below rs S) ts ≡ after (levels hs) (track hs m)
passes t q rs S hs ts m e found = word_taken t (below rs S) hs ts m (skip t q rs S ∙ e) found

level_ends : (S : Goals) (ts : List Placed) → track (level ∷ S) ts ≡ track S ts
level_ends S [] = refl
level_ends S (t ∷ ts) = refl

-- one goal that is another, and then a third
opens : (r : Goal) (S : Goals) (ts : List Placed) (o : Option Goals) → on ts (elim (with (r ∷ []) o) [ Some hs ↦ Some (hs ++ S) | None ↦ None ]) ≡ on ts (elim o [ Some hs ↦ Some (hs ++ (r ∷ S)) | None ↦ None ])
opens r S ts None = refl
opens r S ts (Some hs) = ap (λ l. on ts (Some l)) (append_assoc hs (r ∷ []) S)

sum_opens : (S : Goals) (ts : List Placed) → track (sum ∷ S) ts ≡ track (term ∷ terms ∷ S) ts
sum_opens S [] = refl
sum_opens S (t ∷ ts) = opens terms S ts (term_begins t.tok)

term_opens : (S : Goals) (ts : List Placed) → track (term ∷ S) ts ≡ track (app ∷ apps ∷ S) ts
term_opens S [] = refl
term_opens S (t ∷ ts) = opens apps S ts (app_begins t.tok)

-- the goals gs lead from ts, by the tokens of e, to hs and m
abbrev pub Leads : (ℕ → List ℕ) → (Goals → Goals) → (Goals → Goals) → List Placed → List Placed → Type 0
Leads ns gs hs ts m = (S : Goals) → track (gs S) ts ≡ over (ns (levels S)) (track (hs S) m)

abbrev pub AsAtom : Expr → Type 0
AsAtom e = (ts m : List Placed) → Spans e ts m → Leads (nested e) (λ S. atom ∷ S) (λ S. marks ∷ S) ts m

abbrev pub AsApp : Expr → Type 0
AsApp e = (ts m : List Placed) → Spans e ts m → (h : Stop) × Leads (nested e) (λ S. app ∷ S) (λ S. stop h ∷ S) ts m

-- an atom read as an app, which more marks may follow
abbrev pub AsMarked : Expr → Type 0
AsMarked e = (ts m : List Placed) → Spans e ts m → (h : Stop) × (((S : Goals) (x : Text) → step (stop h ∷ S) (bound_mark x.bytes) ≡ Some (marks ∷ S)) × Leads (nested e) (λ S. app ∷ S) (λ S. stop h ∷ S) ts m)

abbrev pub AsTerm : Expr → Type 0
AsTerm e = (ts m : List Placed) → Spans e ts m → (h : Stop) × Leads (nested e) (λ S. term ∷ S) (λ S. stop h ∷ apps ∷ S) ts m

abbrev pub AsSum : Expr → Type 0
AsSum e = (ts m : List Placed) → Spans e ts m → (h : Stop) × Leads (nested e) (λ S. sum ∷ S) (λ S. stop h ∷ apps ∷ terms ∷ S) ts m

abbrev pub NoIf : Expr → Type 0
NoIf e = (ts m : List Placed) → Spans e ts m → (S : Goals) → (track (exp ∷ S) ts ≡ track (sum ∷ S) ts) × (track (group ∷ S) ts ≡ track (sum ∷ assign ∷ S) ts)

pub record Facts (e : Expr) : Type 0 where
  pub as_atom : class e ≤ 0 → AsAtom e
  pub as_marked : class e ≤ 0 → AsMarked e
  pub as_app : class e ≤ 1 → AsApp e
  pub as_term : class e ≤ 2 → AsTerm e
  pub as_sum : class e ≤ 3 → AsSum e
  pub no_if : class e ≤ 3 → NoIf e
  pub as_exp : (ts m : List Placed) → Spans e ts m → (rs : List Rest) × Leads (nested e) (λ S. exp ∷ S) (λ S. below rs S) ts m
  pub as_group : (ts m : List Placed) → Spans e ts m → (rs : List Rest) × Leads (nested e) (λ S. group ∷ S) (λ S. below rs S) ts m

from_sum : (e : Expr) → (class e ≤ 0 → AsAtom e) → (class e ≤ 0 → AsMarked e) → (class e ≤ 1 → AsApp e) → (class e ≤ 2 → AsTerm e) → AsSum e → NoIf e → Facts e
from_sum e a b c d s n = record {
  as_atom = a;
  as_marked = b;
  as_app = c;
  as_term = d;
  as_sum = λ c. s;
  no_if = λ c. n;
  as_exp = λ ts m spans. let f = s ts m spans in (rest f.0 ∷ multiplying ∷ adding ∷ [], λ S. (n ts m spans S).0 ∙ f.1 S);
  as_group = λ ts m spans. let f = s ts m spans in (rest f.0 ∷ multiplying ∷ adding ∷ assigning ∷ [], λ S. (n ts m spans S).1 ∙ f.1 (assign ∷ S));
}

from_term : (e : Expr) → (class e ≤ 0 → AsAtom e) → (class e ≤ 0 → AsMarked e) → (class e ≤ 1 → AsApp e) → AsTerm e → NoIf e → Facts e
from_term e a b c t n =
    from_sum e a b c (λ c. t) (λ ts m spans. let f = t ts m spans in (f.0, λ S. sum_opens S ts ∙ f.1 (terms ∷ S))) n

from_app : (e : Expr) → (class e ≤ 0 → AsAtom e) → (class e ≤ 0 → AsMarked e) → AsApp e → NoIf e → Facts e
from_app e a b c n =
    from_term e a b (λ k. c) (λ ts m spans. let f = c ts m spans in (f.0, λ S. term_opens S ts ∙ f.1 (apps ∷ S))) n

from_atom : (e : Expr) → AsAtom e → AsMarked e → NoIf e → Facts e
from_atom e a b n = from_app e (λ c. a) (λ c. b) (λ ts m spans. let f = b ts m spans in (f.0, f.1.1)) n

-- all that stands for e begins with this token
abbrev BeginsWith : Expr → ℕ → Tok → Type 0
BeginsWith e p k = (ts m : List Placed) → Spans e ts m → (i : List Placed) × (ts ≡ at p k ∷ i)

no_if_at : (e : Expr) (p : ℕ) (k : Tok) → if_begins k ≡ None → BeginsWith e p k → NoIf e
no_if_at e p k none front ts m spans S =
    let (i, is) = front ts m spans in (
      subst (λ l. track (exp ∷ S) l ≡ track (sum ∷ S) l) (sym is)
          (ap (λ o. on i (elim (or o (sum_begins k)) [ Some hs ↦ Some (hs ++ S) | None ↦ None ])) none),
      subst (λ l. track (group ∷ S) l ≡ track (sum ∷ assign ∷ S) l) (sym is)
          (ap (λ o. on i (elim (or o (with (assign ∷ []) (sum_begins k))) [ Some hs ↦ Some (hs ++ S) | None ↦ None ])) none ∙ opens assign S i (sum_begins k)),
    )

-- an atom that begins with a token of its own, which an app takes alike
from_token : (e : Expr) (p : ℕ) (k : Tok) → ((S : Goals) → step (app ∷ S) k ≡ step (atom ∷ S) k) → if_begins k ≡ None → BeginsWith e p k → AsAtom e → Facts e
from_token e p k alike none front a =
    from_atom e a
    (λ ts m spans.
    let (i, is) = front ts m spans in
    (at_marks, ((λ S x. refl), λ S. ap (track (app ∷ S)) is ∙ ap (on i) (alike S) ∙ sym (ap (track (atom ∷ S)) is) ∙ a ts m spans S)))
    (no_if_at e p k none front)

number : (x : Text) → Facts (Literal x)
number x =
    from_token (Literal x) x.place (literal x.bytes) (λ S. refl) refl (λ ts m spans. (m, spans))
    (λ ts m spans S. takes x.place (literal x.bytes) (atom ∷ S) (marks ∷ S) ts m refl spans)

grouped : (n : ℕ) (e : Expr) → Facts e → Facts (Group n e)
grouped n e f =
    from_token (Group n e) n (symbol sg.Open) (λ S. refl) refl (λ ts m spans. (spans.0, spans.2.0))
    (λ ts m spans S.
    let (i, j, x) = spans in
    let inner = f.as_group i j x.1 in
    let d : ℕ = levels S in
    let S1 : Goals = one (symbol sg.Close) ∷ level ∷ marks ∷ S in
    let z : Track = track (marks ∷ S) m in
    put (d + 1) (nested e (d + 1) ++ ((d + 1) ∷ [])) (takes n (symbol sg.Open) (atom ∷ S) (group ∷ S1) ts i refl x.0)
    (join z (nested e (d + 1)) ((d + 1) ∷ []) (inner.1 S1)
    (passes (symbol sg.Close) (refl, refl, refl, refl, refl) inner.0 S1 (level ∷ marks ∷ S) j m refl x.2 ∙ ap (after (d + 1)) (level_ends (marks ∷ S) m))))

variable : (x : Text) → Facts (Variable x)
variable x =
    from_atom (Variable x)
    (λ ts m spans S. takes x.place (identifier x.bytes) (atom ∷ S) (marks ∷ S) ts m refl spans)
    (λ ts m spans. (at_call, ((λ S y. refl), λ S. takes x.place (identifier x.bytes) (app ∷ S) (call ∷ S) ts m refl spans)))
    (no_if_at (Variable x) x.place (identifier x.bytes) refl (λ ts m spans. (m, spans)))

bounded : (e : Expr) (x : Text) → Facts e → Facts (Bounded e x)
bounded e x f =
    from_atom (Bounded e x)
    (λ ts m spans S.
    let y = spans.1 in
    let z : Track = track (marks ∷ S) m in
    join z (nested e (levels S)) (levels S ∷ []) (f.as_atom y.0 ts spans.0 y.1 S)
    (takes x.place (bound_mark x.bytes) (marks ∷ S) (marks ∷ S) spans.0 m refl y.2))
    (λ ts m spans.
    let y = spans.1 in
    let g = f.as_marked y.0 ts spans.0 y.1 in (
      at_marks,
      (
        (λ S z. refl),
        λ S.
            let z : Track = track (marks ∷ S) m in
            join z (nested e (levels S)) (levels S ∷ []) (g.1.1 S)
            (takes x.place (bound_mark x.bytes) (stop g.0 ∷ S) (marks ∷ S) spans.0 m (g.1.0 S x) y.2),
      ),
    ))
    (λ ts m spans S. f.no_if (omega (arith, spans.1.0)) ts spans.0 spans.1.1 S)

assigned : (n : ℕ) (a b c : Expr) → Facts a → Facts b → Facts c → Facts (Assign n a b c)
assigned n a b c fa fb fc =
    from_token (Assign n a b c) n (symbol sg.Open) (λ S. refl) refl (λ ts m spans. (spans.0, spans.6.0))
    (λ ts m spans S.
    let (i, j, k, l, o, x, y) = spans in
    let d : ℕ = levels S in
    let S1 : Goals = one (symbol sg.Close) ∷ level ∷ marks ∷ S in
    let left = fa.as_sum y.1 i j y.2 in
    let right = fb.as_sum y.4 k l y.5 in
    let last = fc.as_exp o x y.7 in
    let z : Track = track (marks ∷ S) m in
    put (d + 1) (nested a (d + 1) ++ ((d + 1) ∷ (nested b (d + 1) ++ ((d + 1) ∷ (nested c (d + 1) ++ ((d + 1) ∷ [])))))) (takes n (symbol sg.Open) (atom ∷ S) (group ∷ S1) ts i refl y.0)
    (join z (nested a (d + 1)) ((d + 1) ∷ (nested b (d + 1) ++ ((d + 1) ∷ (nested c (d + 1) ++ ((d + 1) ∷ []))))) ((fa.no_if y.1 i j y.2 S1).1 ∙ left.1 (assign ∷ S1))
    (put (d + 1) (nested b (d + 1) ++ ((d + 1) ∷ (nested c (d + 1) ++ ((d + 1) ∷ [])))) (word_taken (symbol sg.Assign) (stop left.0 ∷ apps ∷ terms ∷ assign ∷ S1) (sum ∷ one (symbol sg.Semicolon) ∷ exp ∷ S1) j k (past_stop (symbol sg.Assign) refl refl left.0 (apps ∷ terms ∷ assign ∷ S1)) y.3)
    (join z (nested b (d + 1)) ((d + 1) ∷ (nested c (d + 1) ++ ((d + 1) ∷ []))) (right.1 (one (symbol sg.Semicolon) ∷ exp ∷ S1))
    (put (d + 1) (nested c (d + 1) ++ ((d + 1) ∷ [])) (passes (symbol sg.Semicolon) (refl, refl, refl, refl, refl) (rest right.0 ∷ multiplying ∷ adding ∷ []) (one (symbol sg.Semicolon) ∷ exp ∷ S1) (exp ∷ S1) l o refl y.6)
    (join z (nested c (d + 1)) ((d + 1) ∷ []) (last.1 S1)
    (passes (symbol sg.Close) (refl, refl, refl, refl, refl) last.0 S1 (level ∷ marks ∷ S) x m refl y.8 ∙ ap (after (d + 1)) (level_ends (marks ∷ S) m))))))))

-- a token before an atom
prefixed : (n : ℕ) (t : Tok) (e u : Expr) → if_begins t ≡ None → ((S : Goals) → step (app ∷ S) t ≡ Some (atom ∷ S)) → class u ≡ 1 → ((d : ℕ) → nested u d ≡ d ∷ nested e d) → ((ts m : List Placed) → Spans u ts m → (i : List Placed) × ((ts ≡ at n t ∷ i) × (class e ≤ 0) × Spans e i m)) → Facts e → Facts u
prefixed n t e u none goes is levels-are parts f =
    from_app u (λ c. absurd (omega (arith, is, c))) (λ c. absurd (omega (arith, is, c)))
    (λ ts m spans.
    let (i, x) = parts ts m spans in
    (at_marks, λ S. put (levels S) (nested e (levels S)) (takes n t (app ∷ S) (atom ∷ S) ts i (goes S) x.0) (f.as_atom x.1 i m x.2 S) ∙ ap (λ ns. over ns (track (marks ∷ S) m)) (sym (levels-are (levels S)))))
    (no_if_at u n t none (λ ts m spans. let (i, x) = parts ts m spans in (i, x.0)))

-- the arguments lead to what may follow the last
abbrev pub ArgsFacts : Arguments → Type 0
ArgsFacts xs = (ts m : List Placed) → Lists xs ts m → (rs : List Rest) × Leads (nested_args xs) (λ S. exp ∷ args ∷ S) (λ S. below rs (args ∷ S)) ts m

abbrev pub ValsFacts : Bindings → Type 0
ValsFacts vs = (ts m : List Placed) → Binds vs ts m → (rs : List Rest) × Leads (nested_vals vs) (λ S. name ∷ binder ∷ one (symbol sg.Equals) ∷ exp ∷ vals ∷ S) (λ S. below rs (vals ∷ S)) ts m

called : (f : Text) (xs : Arguments) → ArgsFacts xs → Facts (Call f xs)
called f xs facts =
    from_app (Call f xs) (λ c. absurd (omega (arith, c))) (λ c. absurd (omega (arith, c)))
    (λ ts m spans.
    let (i, j, k, x) = spans in
    let inner = facts j k x.2 in (
      at_level,
      λ S.
          let d : ℕ = levels S in
          let S1 : Goals = one (symbol sg.Close) ∷ level ∷ S in
          let z : Track = track (level ∷ S) m in
          put d ((d + 1) ∷ (nested_args xs (d + 1) ++ ((d + 1) ∷ []))) (takes f.place (identifier f.bytes) (app ∷ S) (call ∷ S) ts i refl x.0)
          (put (d + 1) (nested_args xs (d + 1) ++ ((d + 1) ∷ [])) (word_taken (symbol sg.Open) (call ∷ S) (exp ∷ args ∷ S1) i j refl x.1)
          (join z (nested_args xs (d + 1)) ((d + 1) ∷ []) (inner.1 S1)
          (passes (symbol sg.Close) (refl, refl, refl, refl, refl) inner.0 (args ∷ S1) (level ∷ S) k m refl x.3))),
    ))
    (no_if_at (Call f xs) f.place (identifier f.bytes) refl (λ ts m spans. (spans.0, spans.3.0)))

-- what stands behind `val`
pub heads : (x : Text) (mark : Option Text) (ts m : List Placed) (S : Goals) (ns : List ℕ) (k : Track) → Heads x mark ts m → track S m ≡ over ns k → track (name ∷ binder ∷ one (symbol sg.Equals) ∷ S) ts ≡ over (levels S ∷ marked mark (levels S) (levels S ∷ ns)) k
heads x None ts m S ns k (i, j, y) later =
    put (levels S) (levels S ∷ ns) (takes x.place (identifier x.bytes) (name ∷ binder ∷ one (symbol sg.Equals) ∷ S) (binder ∷ one (symbol sg.Equals) ∷ S) ts i refl y.0)
    (put (levels S) ns (word_taken (symbol sg.Equals) (binder ∷ one (symbol sg.Equals) ∷ S) S i m refl (y.2.0, y.1 ∙ y.2.1)) later)
heads x (Some z) ts m S ns k (i, j, y) later =
    put (levels S) (levels S ∷ (levels S ∷ ns)) (takes x.place (identifier x.bytes) (name ∷ binder ∷ one (symbol sg.Equals) ∷ S) (binder ∷ one (symbol sg.Equals) ∷ S) ts i refl y.0)
    (put (levels S) (levels S ∷ ns) (takes z.place (binder_mark z.bytes) (binder ∷ one (symbol sg.Equals) ∷ S) (one (symbol sg.Equals) ∷ S) i j refl y.1)
    (put (levels S) ns (word_taken (symbol sg.Equals) (one (symbol sg.Equals) ∷ S) S j m refl y.2) later))

block : (n : ℕ) (vs : Bindings) (e : Expr) → ValsFacts vs → Facts e → Facts (Let n vs e)
block n vs e facts f =
    from_token (Let n vs e) n (word kw.Let) (λ S. refl) refl (λ ts m spans. (spans.0, spans.5.0))
    (λ ts m spans S.
    let (h, i, j, k, l, x) = spans in
    let d : ℕ = levels S in
    let S1 : Goals = one (word kw.End) ∷ level ∷ marks ∷ S in
    let bound = facts i j x.2 in
    let last = f.as_exp k l x.4 in
    let z : Track = track (marks ∷ S) m in
    put (d + 1) ((d + 1) ∷ (nested_vals vs (d + 1) ++ ((d + 1) ∷ (nested e (d + 1) ++ ((d + 1) ∷ []))))) (takes n (word kw.Let) (atom ∷ S) (one (word kw.Val) ∷ name ∷ binder ∷ one (symbol sg.Equals) ∷ exp ∷ vals ∷ one (word kw.In) ∷ exp ∷ S1) ts h refl x.0)
    (put (d + 1) (nested_vals vs (d + 1) ++ ((d + 1) ∷ (nested e (d + 1) ++ ((d + 1) ∷ [])))) (word_taken (word kw.Val) (one (word kw.Val) ∷ name ∷ binder ∷ one (symbol sg.Equals) ∷ exp ∷ vals ∷ one (word kw.In) ∷ exp ∷ S1) (name ∷ binder ∷ one (symbol sg.Equals) ∷ exp ∷ vals ∷ one (word kw.In) ∷ exp ∷ S1) h i refl x.1)
    (join z (nested_vals vs (d + 1)) ((d + 1) ∷ (nested e (d + 1) ++ ((d + 1) ∷ []))) (bound.1 (one (word kw.In) ∷ exp ∷ S1))
    (put (d + 1) (nested e (d + 1) ++ ((d + 1) ∷ [])) (passes (word kw.In) (refl, refl, refl, refl, refl) bound.0 (vals ∷ one (word kw.In) ∷ exp ∷ S1) (exp ∷ S1) j k refl x.3)
    (join z (nested e (d + 1)) ((d + 1) ∷ []) (last.1 S1)
    (passes (word kw.End) (refl, refl, refl, refl, refl) last.0 S1 (level ∷ marks ∷ S) l m refl x.5 ∙ ap (after (d + 1)) (level_ends (marks ∷ S) m)))))))

abbrev EndsApp : Operator → Type 0
EndsApp o = (begins marks (sign_of o) ≡ None) × (begins call (sign_of o) ≡ None)

product : (a b : Expr) (n : ℕ) (o : Operator) → strength o ≡ 2 → EndsApp o → ((S : Goals) → step (apps ∷ S) (sign_of o) ≡ Some (app ∷ apps ∷ S)) → Facts a → Facts b → Facts (Arith a n o b)
product a b n o is quiet goes fa fb =
    from_term (Arith a n o b) (λ c. absurd (omega (arith, is, c))) (λ c. absurd (omega (arith, is, c))) (λ c. absurd (omega (arith, is, c)))
    (λ ts m spans.
    let (i, j, x) = spans in
    let left = fa.as_term (omega (arith, is, x.0)) ts i x.1 in
    let right = fb.as_app (omega (arith, is, x.3)) j m x.4 in (
      right.0,
      λ S.
          let z : Track = track (stop right.0 ∷ apps ∷ S) m in
          join z (nested a (levels S)) (levels S ∷ nested b (levels S)) (left.1 S)
          (put (levels S) (nested b (levels S)) (takes n (sign_of o) (stop left.0 ∷ apps ∷ S) (app ∷ apps ∷ S) i j (past_stop (sign_of o) quiet.0 quiet.1 left.0 (apps ∷ S) ∙ goes S) x.2)
          (right.1 (apps ∷ S))),
    ))
    (λ ts m spans S. fa.no_if (omega (arith, is, spans.2.0)) ts spans.0 spans.2.1 S)

addition : (a b : Expr) (n : ℕ) (o : Operator) → strength o ≡ 3 → EndsApp o → ((S : Goals) → step (apps ∷ terms ∷ S) (sign_of o) ≡ Some (term ∷ terms ∷ S)) → Facts a → Facts b → Facts (Arith a n o b)
addition a b n o is quiet goes fa fb =
    from_sum (Arith a n o b) (λ c. absurd (omega (arith, is, c))) (λ c. absurd (omega (arith, is, c))) (λ c. absurd (omega (arith, is, c))) (λ c. absurd (omega (arith, is, c)))
    (λ ts m spans.
    let (i, j, x) = spans in
    let left = fa.as_sum (omega (arith, is, x.0)) ts i x.1 in
    let right = fb.as_term (omega (arith, is, x.3)) j m x.4 in (
      right.0,
      λ S.
          let z : Track = track (stop right.0 ∷ apps ∷ terms ∷ S) m in
          join z (nested a (levels S)) (levels S ∷ nested b (levels S)) (left.1 S)
          (put (levels S) (nested b (levels S)) (takes n (sign_of o) (stop left.0 ∷ apps ∷ terms ∷ S) (term ∷ terms ∷ S) i j (past_stop (sign_of o) quiet.0 quiet.1 left.0 (apps ∷ terms ∷ S) ∙ goes S) x.2)
          (right.1 (terms ∷ S))),
    ))
    (λ ts m spans S. fa.no_if (omega (arith, is, spans.2.0)) ts spans.0 spans.2.1 S)

conditional : (n : ℕ) (a b c e : Expr) → Facts a → Facts b → Facts c → Facts e → Facts (If n a b c e)
conditional n a b c e fa fb fc fe = record {
  as_atom = λ k. absurd (omega (arith, k));
  as_marked = λ k. absurd (omega (arith, k));
  as_app = λ k. absurd (omega (arith, k));
  as_term = λ k. absurd (omega (arith, k));
  as_sum = λ k. absurd (omega (arith, k));
  no_if = λ k. absurd (omega (arith, k));
  as_exp = λ ts m spans. go exp (λ S. refl) ts m spans;
  as_group = λ ts m spans. go group (λ S. refl) ts m spans;
}
  where
    go : (g : Goal) → ((S : Goals) → step (g ∷ S) (word kw.If) ≡ Some (sum ∷ one (symbol sg.Less) ∷ sum ∷ one (word kw.Then) ∷ exp ∷ one (word kw.Else) ∷ exp ∷ level ∷ S)) → (ts m : List Placed) → Spans (If n a b c e) ts m → (rs : List Rest) × Leads (nested (If n a b c e)) (λ S. g ∷ S) (λ S. below rs S) ts m
    go g begin ts m spans =
        let (h, i, j, k, l, o, x, y) = spans in
        let first = fa.as_sum y.1 h i y.2 in
        let second = fb.as_sum y.4 j k y.5 in
        let then-part = fc.as_exp l o y.7 in
        let else-part = fe.as_exp x m y.9 in (
          else-part.0 ++ (leveling ∷ []),
          λ S.
              let d : ℕ = levels S in
              let Sd : Goals = level ∷ S in
              let Sc : Goals = one (word kw.Else) ∷ exp ∷ Sd in
              let Sb : Goals = one (word kw.Then) ∷ exp ∷ Sc in
              let Sa : Goals = one (symbol sg.Less) ∷ sum ∷ Sb in
              let ns-e : List ℕ = nested e (d + 1) in
              let ns-c : List ℕ = nested c (d + 1) ++ ((d + 1) ∷ ns-e) in
              let ns-b : List ℕ = nested b (d + 1) ++ ((d + 1) ∷ ns-c) in
              let ns-a : List ℕ = nested a (d + 1) ++ ((d + 1) ∷ ns-b) in
              let z : Track = track (below (else-part.0 ++ (leveling ∷ [])) S) m in
              put (d + 1) ns-a (takes n (word kw.If) (g ∷ S) (sum ∷ Sa) ts h (begin S) y.0)
              (join z (nested a (d + 1)) ((d + 1) ∷ ns-b) (first.1 Sa)
              (put (d + 1) ns-b (passes (symbol sg.Less) (refl, refl, refl, refl, refl) (rest first.0 ∷ multiplying ∷ adding ∷ []) Sa (sum ∷ Sb) i j refl y.3)
              (join z (nested b (d + 1)) ((d + 1) ∷ ns-c) (second.1 Sb)
              (put (d + 1) ns-c (passes (word kw.Then) (refl, refl, refl, refl, refl) (rest second.0 ∷ multiplying ∷ adding ∷ []) Sb (exp ∷ Sc) k l refl y.6)
              (join z (nested c (d + 1)) ((d + 1) ∷ ns-e) (then-part.1 Sc)
              (put (d + 1) ns-e (passes (word kw.Else) (refl, refl, refl, refl, refl) then-part.0 Sc (exp ∷ Sd) o x refl y.8)
              (else-part.1 Sd ∙ ap (λ gs. over ns-e (track gs m)) (sym (below_append else-part.0 (leveling ∷ []) S))))))))),
        )

last_arg : (e : Expr) → Facts e → ArgsFacts (Last e)
last_arg e f = λ ts m spans. let g = f.as_exp ts m spans in (g.0, λ S. g.1 (args ∷ S))

more_args : (e : Expr) (more : Arguments) → Facts e → ArgsFacts more → ArgsFacts (More e more)
more_args e more f facts = λ ts m spans.
    let (i, j, x) = spans in
    let g = f.as_exp ts i x.0 in
    let later = facts j m x.2 in (
      later.0,
      λ S.
          let z : Track = track (below later.0 (args ∷ S)) m in
          join z (nested e (levels S)) (levels S ∷ nested_args more (levels S)) (g.1 (args ∷ S))
          (put (levels S) (nested_args more (levels S)) (passes (symbol sg.Comma) (refl, refl, refl, refl, refl) g.0 (args ∷ S) (exp ∷ args ∷ S) i j refl x.1)
          (later.1 S)),
    )

final_val : (x : Text) (mark : Option Text) (e : Expr) → Facts e → ValsFacts (Final x mark e)
final_val x mark e f = λ ts m spans.
    let (i, y) = spans in
    let g = f.as_exp i m y.1 in
    (g.0, λ S. heads x mark ts i (exp ∷ vals ∷ S) (nested e (levels S)) (track (below g.0 (vals ∷ S)) m) y.0 (g.1 (vals ∷ S)))

more_vals : (x : Text) (mark : Option Text) (e : Expr) (more : Bindings) → Facts e → ValsFacts more → ValsFacts (Then x mark e more)
more_vals x mark e more f facts = λ ts m spans.
    let (i, j, k, y) = spans in
    let g = f.as_exp i j y.1 in
    let later = facts k m y.3 in (
      later.0,
      λ S.
          let z : Track = track (below later.0 (vals ∷ S)) m in
          heads x mark ts i (exp ∷ vals ∷ S) (nested e (levels S) ++ (levels S ∷ nested_vals more (levels S))) (track (below later.0 (vals ∷ S)) m) y.0
          (join z (nested e (levels S)) (levels S ∷ nested_vals more (levels S)) (g.1 (vals ∷ S))
          (put (levels S) (nested_vals more (levels S)) (passes (word kw.Val) (refl, refl, refl, refl, refl) g.0 (vals ∷ S) (name ∷ binder ∷ one (symbol sg.Equals) ∷ exp ∷ vals ∷ S) j k refl y.2)
          (later.1 S))),
    )

mutual
  pub complete : (e : Expr) → Facts e
  complete (Literal x) = number x
  complete (Variable x) = variable x
  complete (Group n e) = grouped n e (complete e)
  complete (Assign n a b c) = assigned n a b c (complete a) (complete b) (complete c)
  complete (Let n vs e) = block n vs e (complete_vals vs) (complete e)
  complete (Bounded e x) = bounded e x (complete e)
  complete (Ref n e) = prefixed n (word kw.Ref) e (Ref n e) refl (λ S. refl) refl (λ d. refl) (λ ts m spans. spans) (complete e)
  complete (Read n e) = prefixed n (symbol sg.Bang) e (Read n e) refl (λ S. refl) refl (λ d. refl) (λ ts m spans. spans) (complete e)
  complete (Call f xs) = called f xs (complete_args xs)
  complete (Arith a n op.Plus b) = addition a b n op.Plus refl (refl, refl) (λ S. refl) (complete a) (complete b)
  complete (Arith a n op.Minus b) = addition a b n op.Minus refl (refl, refl) (λ S. refl) (complete a) (complete b)
  complete (Arith a n op.Times b) = product a b n op.Times refl (refl, refl) (λ S. refl) (complete a) (complete b)
  complete (Arith a n op.Div b) = product a b n op.Div refl (refl, refl) (λ S. refl) (complete a) (complete b)
  complete (Arith a n op.Mod b) = product a b n op.Mod refl (refl, refl) (λ S. refl) (complete a) (complete b)
  complete (If n a b c e) = conditional n a b c e (complete a) (complete b) (complete c) (complete e)

  pub complete_args : (xs : Arguments) → ArgsFacts xs
  complete_args (Last e) = last_arg e (complete e)
  complete_args (More e more) = more_args e more (complete e) (complete_args more)

  pub complete_vals : (vs : Bindings) → ValsFacts vs
  complete_vals (Final x mark e) = final_val x mark e (complete e)
  complete_vals (Then x mark e more) = more_vals x mark e more (complete e) (complete_vals more)
