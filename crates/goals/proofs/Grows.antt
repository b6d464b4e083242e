-- A token opens at most one level. Assumes nothing.
use Rattle.std.proofs.Common.{◌≡◌, ℕ, ◌+◌, ◌-◌, ◌≤◌, Bool, true, false, cond, ltb, [], ◌∷◌, ◌++◌, Some, None, Option, sym, refl, subst, append_assoc, arith}
use Rattle.tokens.specs.Tokens.{Tok, word, symbol, literal, identifier, binder as binder_mark, bound as bound_mark}
use Rattle.tokens.specs.declared.token.Word.TheVariants as kw
use Rattle.tokens.specs.declared.token.Symbol.TheVariants as sg
use Rattle.syntax.specs.Sorts.{same_sort}
use Rattle.goals.specs.Goals.{Goal, Goals, one, name, dec, exp, sum, term, app, atom, group, binder, refs, pars, terms, apps, marks, call, args, assign, vals, level, val_goals, fun_goals, par_goals, group_goals, let_goals, if_goals, call_goals, args_goals, semi_goals, vals_goals}
use Rattle.goals.specs.Begins.{is, with, or, another, atom_begins, app_begins, term_begins, sum_begins, if_begins, begins}
use Rattle.goals.specs.Machine.{empty, step, more_levels, levels}
use Rattle.goals.proofs.Apart.{no_goals, same_goals}

-- goals among which at most one level ends
abbrev Flat : Goals → Type 0
Flat new = (S : Goals) → levels (new ++ S) ≤ levels S + 1

abbrev Small : Option Goals → Type 0
Small None = Unit {0}
Small (Some new) = Flat new

small_cond : (b : Bool) (o p : Option Goals) → Small o → Small p → Small (cond b o p)
small_cond true o p x y = x
small_cond false o p x y = y

small_is : (k t : Tok) (new : Goals) (o : Option Goals) → Flat new → Small o → Small (is t new o k)
small_is k t new o x y = small_cond (same_sort k t) (Some new) o x y

small_with : (g : Goal) → ((n : ℕ) → more_levels g n ≡ n) → (o : Option Goals) → Small o → Small (with (g ∷ []) o)
small_with g flat None x = tt
small_with g flat (Some new) x =
    λ S. subst (λ l. levels l ≤ levels S + 1) (sym (append_assoc new (g ∷ []) S)) (subst (λ n. levels (new ++ (g ∷ S)) ≤ n + 1) (flat (levels S)) (x (g ∷ S)))

small_or : (o p : Option Goals) → Small o → Small p → Small (or o p)
small_or None p x y = y
small_or (Some gs) p x y = x

small_another : (b : Bool) (n : ℕ) (new : Goals) → Flat new → Small (cond b (another n new) None)
small_another b n new x = small_cond b (another n new) None (small_cond (ltb 0 n) (Some new) None x tt) tt

module _ (k : Tok) where
  small_atom : Small (atom_begins k)
  small_atom =
      let last : Option Goals = is (word kw.Let) let_goals None k in
      let third : Option Goals = is (symbol sg.Open) group_goals last k in
      small_is k (literal []) (marks ∷ []) (is (identifier []) (marks ∷ []) third k) (λ S. omega arith)
      (small_is k (identifier []) (marks ∷ []) third (λ S. omega arith)
      (small_is k (symbol sg.Open) group_goals last (λ S. omega arith)
      (small_is k (word kw.Let) let_goals None (λ S. omega arith) tt)))

  small_app : Small (app_begins k)
  small_app =
      let third : Option Goals = is (symbol sg.Bang) (atom ∷ []) (atom_begins k) k in
      small_is k (identifier []) (call ∷ []) (is (word kw.Ref) (atom ∷ []) third k) (λ S. omega arith)
      (small_is k (word kw.Ref) (atom ∷ []) third (λ S. omega arith)
      (small_is k (symbol sg.Bang) (atom ∷ []) (atom_begins k) (λ S. omega arith) small_atom))

  small_term : Small (term_begins k)
  small_term = small_with apps (λ n. refl) (app_begins k) small_app

  small_sum : Small (sum_begins k)
  small_sum = small_with terms (λ n. refl) (term_begins k) small_term

  small_if : Small (if_begins k)
  small_if = small_is k (word kw.If) if_goals None (λ S. omega arith) tt

  small : (g : Goal) → Small (begins g k)
  small (one t) = small_is k t [] None (λ S. omega arith) tt
  small name = small_is k (identifier []) [] None (λ S. omega arith) tt
  small dec =
      small_is k (word kw.Val) val_goals (is (word kw.Fun) fun_goals None k) (λ S. omega arith)
      (small_is k (word kw.Fun) fun_goals None (λ S. omega arith) tt)
  small exp = small_or (if_begins k) (sum_begins k) small_if small_sum
  small sum = small_sum
  small term = small_term
  small app = small_app
  small atom = small_atom
  small group = small_or (if_begins k) (with (assign ∷ []) (sum_begins k)) small_if (small_with assign (λ n. refl) (sum_begins k) small_sum)
  small binder = small_is k (binder_mark []) [] None (λ S. omega arith) tt
  small (refs n) = small_another (same_sort k (word kw.Ref)) n (refs (n - 1) ∷ []) (λ S. omega arith)
  small (pars n) = small_another (same_sort k (symbol sg.Comma)) n (par_goals ++ (pars (n - 1) ∷ [])) (λ S. omega arith)
  small terms =
      let new : Goals = term ∷ terms ∷ [] in
      small_is k (symbol sg.Plus) new (is (symbol sg.Minus) new None k) (λ S. omega arith)
      (small_is k (symbol sg.Minus) new None (λ S. omega arith) tt)
  small apps =
      let new : Goals = app ∷ apps ∷ [] in
      let last : Option Goals = is (word kw.Mod) new None k in
      small_is k (symbol sg.Star) new (is (word kw.Div) new last k) (λ S. omega arith)
      (small_is k (word kw.Div) new last (λ S. omega arith)
      (small_is k (word kw.Mod) new None (λ S. omega arith) tt))
  small marks = small_is k (bound_mark []) (marks ∷ []) None (λ S. omega arith) tt
  small call =
      small_is k (symbol sg.Open) call_goals (is (bound_mark []) (marks ∷ []) None k) (λ S. omega arith)
      (small_is k (bound_mark []) (marks ∷ []) None (λ S. omega arith) tt)
  small args = small_is k (symbol sg.Comma) args_goals None (λ S. omega arith) tt
  small assign = small_is k (symbol sg.Assign) semi_goals None (λ S. omega arith) tt
  small vals = small_is k (word kw.Val) vals_goals None (λ S. omega arith) tt
  small level = tt

fewer : (g : Goal) (n : ℕ) → n ≤ more_levels g n
fewer level n = omega arith
fewer (one t) n = omega arith
fewer name n = omega arith
fewer dec n = omega arith
fewer exp n = omega arith
fewer sum n = omega arith
fewer term n = omega arith
fewer app n = omega arith
fewer atom n = omega arith
fewer group n = omega arith
fewer binder n = omega arith
fewer (refs m) n = omega arith
fewer (pars m) n = omega arith
fewer terms n = omega arith
fewer apps n = omega arith
fewer marks n = omega arith
fewer call n = omega arith
fewer args n = omega arith
fewer assign n = omega arith
fewer vals n = omega arith

pub grows : (gs hs : Goals) (k : Tok) → step gs k ≡ Some hs → levels hs ≤ levels gs + 1
grows [] hs k e = no_goals hs e
grows (g ∷ S) hs k e = go (begins g k) (small k g) e (grows S hs k)
  where
    more : levels S ≤ levels (g ∷ S)
    more = fewer g (levels S)

    skipped : (b : Bool) → cond b (step S k) None ≡ Some hs → (step S k ≡ Some hs → levels hs ≤ levels S + 1) → levels hs ≤ levels (g ∷ S) + 1
    skipped true h later = let x = later h in omega (arith, x, more)
    skipped false h later = no_goals hs h

    go : (o : Option Goals) → Small o → elim o [ Some new ↦ Some (new ++ S) | None ↦ cond (empty g) (step S k) None ] ≡ Some hs → (step S k ≡ Some hs → levels hs ≤ levels S + 1) → levels hs ≤ levels (g ∷ S) + 1
    go None x h later = skipped (empty g) h later
    go (Some new) x h later =
        let y = x S in
        subst (λ l. levels l ≤ levels (g ∷ S) + 1) (same_goals (new ++ S) hs h) (omega (arith, y, more))
