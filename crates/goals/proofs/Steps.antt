-- How one goal leads to the next. Assumes nothing.
use Rattle.std.proofs.Common.{◌≡◌, ℕ, ◌-◌, ◌<◌, ◌≤◌, Bool, true, false, cond, ◌&&◌, ltb, List, [], ◌∷◌, ◌++◌, Some, None, Option, sym, refl, ap, ◌∙◌, subst, append_assoc, le-ltb, lt-ltb}
use Rattle.tokens.specs.Tokens.{Tok, word, symbol, Placed}
use Rattle.tokens.specs.declared.token.Word.TheVariants as kw
use Rattle.tokens.specs.declared.token.Symbol.TheVariants as sg
use Rattle.syntax.specs.Sorts.{at, After, same_sort}
use Rattle.syntax.specs.Levels.{most_levels}
use Rattle.goals.specs.Goals.{Goal, Goals, one, sum, term, app, terms, apps, level, refs, pars, par_goals}
use Rattle.goals.specs.Begins.{with, another, begins, app_begins, term_begins}
use Rattle.goals.specs.Machine.{empty, all_empty, step, levels, Verdict, accepted, misplaced, too_deep, fate}

-- what a token leaves of the fate, once it is known what the goals become
abbrev pub on : ℕ → ℕ → List Placed → Option Goals → Verdict
on end p ts None = misplaced p
on end p ts (Some hs) = cond (ltb most_levels (levels hs)) (too_deep p) (fate end hs ts)

pub steps : (end p : ℕ) (k : Tok) (gs hs : Goals) (ts : List Placed) → step gs k ≡ Some hs → levels hs ≤ most_levels → fate end gs (at p k ∷ ts) ≡ fate end hs ts
steps end p k gs hs ts e h = ap (on end p ts) e ∙ ap (λ b. cond b (too_deep p) (fate end hs ts)) (le-ltb most_levels (levels hs) h)

-- a token is taken that must come
pub word_taken : {t : Tok} (end : ℕ) (S : Goals) (ts m : List Placed) → step (one t ∷ S) t ≡ Some S → After t ts m → levels S ≤ most_levels → fate end (one t ∷ S) ts ≡ fate end S m
word_taken {t} end S ts m e after few = ap (fate end (one t ∷ S)) after.1 ∙ steps end after.0 t (one t ∷ S) S m e few

-- a level that ends takes no token
pub level_ends : (end : ℕ) (S : Goals) (ts : List Placed) → fate end (level ∷ S) ts ≡ fate end S ts
level_ends end S [] = refl
level_ends end S (t ∷ ts) = refl

-- one goal that is another, and then a third
opens : (end p : ℕ) (r : Goal) (S : Goals) (ts : List Placed) (o : Option Goals) → on end p ts (elim (with (r ∷ []) o) [ Some hs ↦ Some (hs ++ S) | None ↦ None ]) ≡ on end p ts (elim o [ Some hs ↦ Some (hs ++ (r ∷ S)) | None ↦ None ])
opens end p r S ts None = refl
opens end p r S ts (Some hs) = ap (λ l. on end p ts (Some l)) (append_assoc hs (r ∷ []) S)

pub sum_opens : (end : ℕ) (S : Goals) (ts : List Placed) → fate end (sum ∷ S) ts ≡ fate end (term ∷ terms ∷ S) ts
sum_opens end S [] = refl
sum_opens end S (t ∷ ts) = opens end t.place terms S ts (term_begins t.tok)

pub term_opens : (end : ℕ) (S : Goals) (ts : List Placed) → fate end (term ∷ S) ts ≡ fate end (app ∷ apps ∷ S) ts
term_opens end S [] = refl
term_opens end S (t ∷ ts) = opens end t.place apps S ts (app_begins t.tok)

-- a goal that may come to nothing does so at a token that it does not begin with
pub skipped : (g : Goal) (S : Goals) (k : Tok) → empty g ≡ true → begins g k ≡ None → step (g ∷ S) k ≡ step S k
skipped g S k e none =
    ap (λ o. elim o [ Some hs ↦ Some (hs ++ S) | None ↦ cond (empty g) (step S k) None ]) none ∙ ap (λ b. cond b (step S k) None) e

pub passed : (end : ℕ) (g : Goal) (S : Goals) (ts : List Placed) → empty g ≡ true → ((k : Tok) → begins g k ≡ None) → fate end (g ∷ S) ts ≡ fate end S ts
passed end g S [] e none = ap (λ b. cond (b && all_empty S) accepted (misplaced end)) e
passed end g S (t ∷ ts) e none = ap (on end t.place ts) (skipped g S t.tok e (none t.tok))

-- no more of at most none
none_left : (b : Bool) (gs : Goals) → cond b (another 0 gs) None ≡ None
none_left true gs = refl
none_left false gs = refl

pub no_refs : (end n : ℕ) → n ≡ 0 → (S : Goals) (ts : List Placed) → fate end (refs n ∷ S) ts ≡ fate end S ts
no_refs end n e S ts =
    subst (λ k. fate end (refs k ∷ S) ts ≡ fate end S ts) (sym e) (passed end (refs 0) S ts refl (λ k. none_left (same_sort k (word kw.Ref)) (refs (0 - 1) ∷ [])))

pub no_pars : (end n : ℕ) → n ≡ 0 → (S : Goals) (ts : List Placed) → fate end (pars n ∷ S) ts ≡ fate end S ts
no_pars end n e S ts =
    subst (λ k. fate end (pars k ∷ S) ts ≡ fate end S ts) (sym e) (passed end (pars 0) S ts refl (λ k. none_left (same_sort k (symbol sg.Comma)) (par_goals ++ (pars (0 - 1) ∷ []))))

-- one more of at most n
pub one_ref : (n : ℕ) (S : Goals) → 0 < n → step (refs n ∷ S) (word kw.Ref) ≡ Some (refs (n - 1) ∷ S)
one_ref n S h =
    ap (λ c. elim (cond c (Some (refs (n - 1) ∷ [])) None) [ Some hs ↦ Some (hs ++ S) | None ↦ step S (word kw.Ref) ]) (lt-ltb 0 n h)

pub another_par : (n : ℕ) (S : Goals) → 0 < n → step (pars n ∷ S) (symbol sg.Comma) ≡ Some (par_goals ++ (pars (n - 1) ∷ S))
another_par n S h =
    ap (λ c. elim (cond c (Some (par_goals ++ (pars (n - 1) ∷ []))) None) [ Some hs ↦ Some (hs ++ S) | None ↦ step S (symbol sg.Comma) ]) (lt-ltb 0 n h)
