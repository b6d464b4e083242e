-- Every declaration is a way of the goals through its tokens, which pins the levels of each. Assumes nothing.
use Rattle.std.proofs.Common.{◌≡◌, ℕ, zero, suc, ◌+◌, ◌-◌, ◌≤◌, cond, List, [], ◌∷◌, ◌++◌, Some, None, Option, sym, refl, ap, ◌∙◌, arith}
use Rattle.tokens.specs.Tokens.{word, symbol, identifier, binder as binder_mark, Placed}
use Rattle.tokens.specs.declared.token.Word.TheVariants as kw
use Rattle.tokens.specs.declared.token.Symbol.TheVariants as sg
use Rattle.syntax.specs.declared.tree.Ty.{Ty}
use Rattle.syntax.specs.Trees.{Text, Expr, Parameter, Parameters, Sole, And, Declaration, Val, Fun, count}
use Rattle.syntax.specs.Sorts.{After}
use Rattle.syntax.specs.Grammar.{Spans, Marked, Refs, Typed, Par, Pars, Declares}
use Rattle.syntax.specs.Levels.{nested, marked, nested_par, nested_pars, levels_in, refs as ref_levels}
use Rattle.goals.specs.Goals.{Goals, one, name, dec, exp, binder, refs, pars, val_goals, type_goals, par_goals}
use Rattle.goals.specs.Machine.{levels}
use Rattle.goals.proofs.Steps.{one_ref, another_par}
use Rattle.goals.proofs.Track.{Track, done, stuck, track, over, put}
use Rattle.goals.proofs.Complete.{complete, all_nothing, heads, takes, word_taken}

-- an expression that ends the text
last_exp : (e : Expr) (ts : List Placed) → Spans e ts [] → track (exp ∷ []) ts ≡ over (nested e 0) done
last_exp e ts spans =
    let g = (complete e).as_exp ts [] spans in
    g.1 [] ∙ ap (λ b. over (nested e 0) (cond b done stuck)) (all_nothing g.0)

reffed : (n b : ℕ) → n ≤ b → (from last : ℕ) (ts m : List Placed) (S : Goals) (ns : List ℕ) (k : Track) → Refs n from last ts m → ((c : ℕ) → track (refs c ∷ S) m ≡ over ns k) → track (refs b ∷ S) ts ≡ over (ref_levels n (levels S) ++ ns) k
reffed zero b le from last ts m S ns k found later = ap (track (refs b ∷ S)) found.1 ∙ later b
reffed (suc n) b le from last ts m S ns k (p, x) later =
    let (i, y) = x in
    put (levels S) [] (takes p (word kw.Ref) (refs b ∷ S) (refs (b - 1) ∷ S) ts i (one_ref b S (omega (arith, le))) y.0)
    (reffed n (b - 1) (omega (arith, le)) p last i m S ns k y.1 later)

typed : (t : Ty) (ts m : List Placed) (S : Goals) (ns : List ℕ) (k : Track) → Typed t ts m → ((c : ℕ) → track (refs c ∷ S) m ≡ over ns k) → track (type_goals ++ S) ts ≡ over (levels S ∷ (levels S ∷ (ref_levels t.depth (levels S) ++ ns))) k
typed t ts m S ns k (p, x) later =
    let (i, j, y) = x in
    put (levels S) [] (word_taken (symbol sg.Colon) (type_goals ++ S) (one (word kw.Int) ∷ refs 3 ∷ S) ts i refl y.0)
    (put (levels S) [] (takes p (word kw.Int) (one (word kw.Int) ∷ refs 3 ∷ S) (refs 3 ∷ S) i j refl y.1)
    (reffed t.depth 3 y.2 p t.last j m S ns k y.3 later))

-- what stands behind a function's parameters
abbrev tail : Goals
tail = one (symbol sg.Close) ∷ (type_goals ++ (binder ∷ one (symbol sg.Equals) ∷ exp ∷ []))

abbrev behind : ℕ → Goals
behind n = type_goals ++ (pars n ∷ tail)

pared : (x : Parameter) (n : ℕ) (ts m : List Placed) (ns : List ℕ) (k : Track) → Par x ts m → ((c : ℕ) → track (refs c ∷ pars n ∷ tail) m ≡ over ns k) → track (par_goals ++ (pars n ∷ tail)) ts ≡ over (nested_par x ns) k
pared x n ts m ns k (i, j, y) later =
    put 0 [] (takes x.name.place (identifier x.name.bytes) (par_goals ++ (pars n ∷ tail)) (binder ∷ behind n) ts i refl y.0)
    (mark x.mark y.1)
  where
    type_of : track (behind n) j ≡ over (0 ∷ (0 ∷ (ref_levels x.ty.depth 0 ++ ns))) k
    type_of = typed x.ty j m (pars n ∷ tail) ns k y.2 later

    skip_binder : track (binder ∷ behind n) j ≡ track (behind n) j
    skip_binder = let (p, z) = y.2 in ap (track (binder ∷ behind n)) z.2.0.1 ∙ sym (ap (track (behind n)) z.2.0.1)

    mark : (o : Option Text) → Marked o i j → track (binder ∷ behind n) i ≡ over (marked o 0 (0 ∷ (0 ∷ (ref_levels x.ty.depth 0 ++ ns)))) k
    mark None found = ap (track (binder ∷ behind n)) found ∙ skip_binder ∙ type_of
    mark (Some z) found = put 0 [] (takes z.place (binder_mark z.bytes) (binder ∷ behind n) (behind n) i j refl found) type_of

some_pars : (ps : Parameters) → 1 ≤ count ps
some_pars (Sole x) = omega arith
some_pars (And x more) = omega arith

all_pars : (ps : Parameters) (n : ℕ) → count ps ≤ n + 1 → (ts m : List Placed) (ns : List ℕ) (k : Track) → Pars ps ts m → ((b c : ℕ) → track (refs b ∷ pars c ∷ tail) m ≡ over ns k) → track (par_goals ++ (pars n ∷ tail)) ts ≡ over (nested_pars ps ns) k
all_pars (Sole x) n le ts m ns k found later = pared x n ts m ns k found (λ b. later b n)
all_pars (And x more) n le ts m ns k (i, j, y) later =
    let some = some_pars more in
    pared x n ts i (0 ∷ nested_pars more ns) k y.0
    (λ b. put 0 [] (word_taken (symbol sg.Comma) (refs b ∷ pars n ∷ tail) (par_goals ++ (pars (n - 1) ∷ tail)) i j (another_par n tail (omega (arith, le, some))) y.1)
    (all_pars more (n - 1) (omega (arith, le, some)) j m ns k y.2 later))

-- the mark of a function's result, and `=`
result_marked : (o : Option Text) (b : ℕ) (ts i m : List Placed) (ns : List ℕ) (k : Track) → Marked o ts i → After (symbol sg.Equals) i m → track (exp ∷ []) m ≡ over ns k → track (refs b ∷ binder ∷ one (symbol sg.Equals) ∷ exp ∷ []) ts ≡ over (marked o 0 (0 ∷ ns)) k
result_marked None b ts i m ns k found equals later =
    put 0 [] (word_taken (symbol sg.Equals) (refs b ∷ binder ∷ one (symbol sg.Equals) ∷ exp ∷ []) (exp ∷ []) ts m refl (equals.0, found ∙ equals.1)) later
result_marked (Some z) b ts i m ns k found equals later =
    put 0 [] (takes z.place (binder_mark z.bytes) (refs b ∷ binder ∷ one (symbol sg.Equals) ∷ exp ∷ []) (one (symbol sg.Equals) ∷ exp ∷ []) ts i refl found)
    (put 0 [] (word_taken (symbol sg.Equals) (one (symbol sg.Equals) ∷ exp ∷ []) (exp ∷ []) i m refl equals) later)

pub way : (d : Declaration) (ts : List Placed) → Declares d ts [] → track (dec ∷ []) ts ≡ over (levels_in d) done
way (Val x mark e) ts (i, j, y) =
    put 0 [] (word_taken (word kw.Val) (dec ∷ []) val_goals ts i refl y.0)
    (heads x mark i j (exp ∷ []) (nested e 0) done y.1 (last_exp e j y.2))
way (Fun f params t mark e) ts (h, i, j, k, l, o, x, y, z) =
    let body : List ℕ = marked mark 0 (0 ∷ nested e 0) in
    let result : List ℕ = 0 ∷ (0 ∷ (0 ∷ (ref_levels t.depth 0 ++ body))) in
    let inside : Goals = par_goals ++ (pars 7 ∷ tail) in
    put 0 [] (word_taken (word kw.Fun) (dec ∷ []) (name ∷ one (symbol sg.Open) ∷ inside) ts h refl z.0)
    (put 0 [] (takes f.place (identifier f.bytes) (name ∷ one (symbol sg.Open) ∷ inside) (one (symbol sg.Open) ∷ inside) h i refl z.1)
    (put 0 [] (word_taken (symbol sg.Open) (one (symbol sg.Open) ∷ inside) inside i j refl z.2)
    (all_pars params 7 (omega (arith, z.3)) j k result done z.4
    (λ b c. put 0 [] (word_taken (symbol sg.Close) (refs b ∷ pars c ∷ tail) (type_goals ++ (binder ∷ one (symbol sg.Equals) ∷ exp ∷ [])) k l refl z.5)
    (typed t l o (binder ∷ one (symbol sg.Equals) ∷ exp ∷ []) body done z.6
    (λ a. result_marked mark a o x y (nested e 0) done z.7 z.8 (last_exp e y z.9)))))))
