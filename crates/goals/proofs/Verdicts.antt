-- What each verdict of the machine says of declarations; so any tokens come to something. Assumes nothing.
use Rattle.std.proofs.Common.{◌≡◌, ℕ, ◌<◌, ◌≤◌, Bool, true, false, cond, List, [], ◌∷◌, ◌++◌, length, take, Some, None, sym, refl, ap, ◌∙◌, subst, append-nil, arith}
use Rattle.tokens.specs.Tokens.{Placed}
use Rattle.syntax.specs.Trees.{Declaration}
use Rattle.syntax.specs.Grammar.{Declares}
use Rattle.syntax.specs.Levels.{most_levels, levels_in, AtMost}
use Rattle.goals.specs.Goals.{Goals, dec}
use Rattle.goals.specs.Machine.{step, all_empty, levels, Verdict, accepted, misplaced, too_deep, fate}
use Rattle.goals.specs.Outcomes.{place_at, Dead, Misplaced, TooDeep, Outcome, tree, misplaced_at, too_deep_at, ComesTo}
use Rattle.goals.specs.Theorems.{Answered}
use Rattle.goals.proofs.Apart.{ends_otherwise, sticks_otherwise, same_levels}
use Rattle.goals.proofs.Fronts.{run_on, behind_front, Why, Stops, stops}
use Rattle.goals.proofs.Grows.{grows}
use Rattle.goals.proofs.Meant.{Meets, met_by_none}
use Rattle.goals.proofs.Sound.{back, a_declaration, some_declaration}
use Rattle.goals.proofs.Track.{done, stuck, track, over, on, run}
use Rattle.goals.proofs.Way.{way}

-- where the machine stops on a whole text
stopped : (end : ℕ) (ts : List Placed) (v : Verdict) → fate end (dec ∷ []) ts ≡ v → Stops end (dec ∷ []) ts v
stopped end ts v e = subst (Stops end (dec ∷ []) ts) e (stops end ts (dec ∷ []) (omega arith))

-- the levels of a declaration behind a front of its tokens are those of the goals that are left
left_way : (before u : List Placed) (left : Goals) (d : Declaration) → run (dec ∷ []) before ≡ Some left → Declares d (before ++ u) [] → (later : List ℕ) × ((levels_in d ≡ take (length before) (levels_in d) ++ later) × (track left u ≡ over later done))
left_way before u left d goes declares = behind_front before u (dec ∷ []) left (levels_in d) goes (way d (before ++ u) declares)

here_at : (end p : ℕ) (left : Goals) (rest : List Placed) → Why end (misplaced p) left rest → p ≡ place_at end rest
here_at end p left [] why = why.1
here_at end p left (t ∷ ts) why = why.1

dead_at : (end p : ℕ) (before : List Placed) (left : Goals) → run (dec ∷ []) before ≡ Some left → (rest : List Placed) → Why end (misplaced p) left rest → Dead before rest
dead_at end p before left goes [] why = λ (d, declares).
    let x = left_way before [] left d goes (subst (λ l. Declares d l []) (sym (append-nil before)) declares) in
    sticks_otherwise x.0 (sym (ap (λ b. cond b done stuck) why.0) ∙ x.1.1)
dead_at end p before left goes (t ∷ ts) why = λ u (d, declares).
    let x = left_way before (t ∷ u) left d goes declares in
    sticks_otherwise x.0 (sym (ap (on u) why.0) ∙ x.1.1)

pub misplaced_here : (end p : ℕ) (ts : List Placed) → fate end (dec ∷ []) ts ≡ misplaced p → Misplaced end ts p
misplaced_here end p ts e =
    let s = stopped end ts (misplaced p) e in
    record { before = s.before; after = s.rest; split = s.split; here = here_at end p s.left s.rest s.why; viable = some_declaration s.before s.left s.goes; shallow = λ u d declares. s.shallow u (levels_in d) (way d (s.before ++ u) declares); dead = dead_at end p s.before s.left s.goes s.rest s.why }

pub too_deep_here : (end p : ℕ) (ts : List Placed) → fate end (dec ∷ []) ts ≡ too_deep p → TooDeep ts p
too_deep_here end p ts e =
    let s = stopped end ts (too_deep p) e in
    let (t, x) = s.why in
    let (after-it, y) = x in
    let (next, z) = y in
    record { before = s.before; opening = t; after = after-it; split = s.split ∙ ap (λ l. s.before ++ l) z.0; here = z.1; viable = some_declaration (s.before ++ (t ∷ [])) next (run_on s.before (t ∷ []) (dec ∷ []) s.left s.goes ∙ ap (λ o. elim o [ None ↦ None | Some ks ↦ Some ks ]) z.2); shallow = λ u d declares. s.shallow u (levels_in d) (way d (s.before ++ u) declares); deep = λ u d declares. deep_at s.before s.left next t u d s.goes s.low z.2 z.3 declares }
  where
    first_is : (left next : Goals) (t : Placed) (u : List Placed) (later : List ℕ) → levels left ≤ most_levels → step left t.tok ≡ Some next → most_levels < levels next → track left (t ∷ u) ≡ over later done → (l : List ℕ) × (later ≡ 33 ∷ l)
    first_is left next t u [] low was high h = ends_otherwise (levels next) (track next u) (sym (ap (on u) was) ∙ h)
    first_is left next t u (n ∷ l) low was high h =
        let same : levels next ≡ n = same_levels (levels next) n (track next u) (over l done) (sym (ap (on u) was) ∙ h) in
        let most = grows left next t.tok was in
        let exact : n ≡ 33 = omega (arith, same, most, high, low) in
        (l, ap (λ m. m ∷ l) exact)

    deep_at : (before : List Placed) (left next : Goals) (t : Placed) (u : List Placed) (d : Declaration) → run (dec ∷ []) before ≡ Some left → levels left ≤ most_levels → step left t.tok ≡ Some next → most_levels < levels next → Declares d (before ++ (t ∷ u)) [] → (later : List ℕ) × (levels_in d ≡ take (length before) (levels_in d) ++ (33 ∷ later))
    deep_at before left next t u d goes low was high declares =
        let x = left_way before (t ∷ u) left d goes declares in
        let y = first_is left next t u x.0 low was high x.1.1 in
        (y.0, x.1.0 ∙ ap (λ l. take (length before) (levels_in d) ++ l) y.1)

-- what is accepted is all taken
all_taken : (ts before rest : List Placed) → ts ≡ before ++ rest → rest ≡ [] → before ++ [] ≡ ts
all_taken ts before rest split e = sym (split ∙ ap (λ l. before ++ l) e)

pub some_tree : (end : ℕ) (ts : List Placed) → fate end (dec ∷ []) ts ≡ accepted → (d : Declaration) × Declares d ts []
some_tree end ts e =
    let s = stopped end ts accepted e in
    let met = back s.before (dec ∷ []) s.left [] s.goes (met_by_none s.left s.why.1) in
    a_declaration ts (subst (Meets (dec ∷ [])) (all_taken ts s.before s.rest s.split s.why.0) met)

no_more : (left : Goals) (later : List ℕ) → track left [] ≡ over later done → later ≡ []
no_more left [] h = refl
no_more left (n ∷ later) h = go (all_empty left) h
  where
    go : (b : Bool) → cond b done stuck ≡ over (n ∷ later) done → n ∷ later ≡ []
    go true h = ends_otherwise n (over later done) (sym h)
    go false h = sticks_otherwise (n ∷ later) h

pub at_most : (end : ℕ) (d : Declaration) (ts : List Placed) → Declares d ts [] → fate end (dec ∷ []) ts ≡ accepted → AtMost most_levels (levels_in d)
at_most end d ts declares e =
    let s = stopped end ts accepted e in
    let all = subst (λ l. Declares d l []) (sym (all_taken ts s.before s.rest s.split s.why.0)) declares in
    let x = left_way s.before [] s.left d s.goes all in
    let front : List ℕ = take (length s.before) (levels_in d) in
    let same : levels_in d ≡ front = x.1.0 ∙ ap (λ l. front ++ l) (no_more s.left x.0 x.1.1) ∙ append-nil front in
    subst (AtMost most_levels) (sym same) (s.shallow [] (levels_in d) (way d (s.before ++ []) all))

pub answered : Answered
answered end ts = go (fate end (dec ∷ []) ts) refl
  where
    go : (v : Verdict) → fate end (dec ∷ []) ts ≡ v → (o : Outcome) × ComesTo end ts o
    go accepted e = let (d, declares) = some_tree end ts e in (tree d, (declares, at_most end d ts declares e))
    go (misplaced p) e = (misplaced_at p, misplaced_here end p ts e)
    go (too_deep p) e = (too_deep_at p, too_deep_here end p ts e)
