-- Where the machine stops, and what it says of every way that begins like the tokens before. Assumes nothing.
use Rattle.std.proofs.Common.{◌≡◌, ℕ, ◌<◌, ◌≤◌, Bool, true, false, cond, ltb, List, [], ◌∷◌, ◌++◌, length, take, Some, None, Option, sym, refl, ap, ◌∙◌, subst, arith, ltb-false, ltb-true}
use Rattle.tokens.specs.Tokens.{Placed}
use Rattle.syntax.specs.Levels.{most_levels, AtMost}
use Rattle.goals.specs.Goals.{Goals}
use Rattle.goals.specs.Machine.{step, all_empty, levels, Verdict, accepted, misplaced, too_deep, fate}
use Rattle.goals.proofs.Apart.{no_goals, same_goals, ends_otherwise, same_levels, same_way}
use Rattle.goals.proofs.Track.{done, track, over, on, run}

pub run_on : (a b : List Placed) (gs hs : Goals) → run gs a ≡ Some hs → run gs (a ++ b) ≡ run hs b
run_on [] b gs hs goes = ap (λ l. run l b) (same_goals gs hs goes)
run_on (t ∷ a) b gs hs goes = go (step gs t.tok) goes (λ ks. run_on a b ks hs)
  where
    go : (o : Option Goals) → elim o [ None ↦ None | Some ks ↦ run ks a ] ≡ Some hs → ((ks : Goals) → run ks a ≡ Some hs → run ks (a ++ b) ≡ run hs b) → elim o [ None ↦ None | Some ks ↦ run ks (a ++ b) ] ≡ run hs b
    go None goes later = no_goals hs goes
    go (Some ks) goes later = later ks goes

-- behind a front that the machine takes, a way goes on as that of the goals that are left
pub behind_front : (a u : List Placed) (gs hs : Goals) (ns : List ℕ) → run gs a ≡ Some hs → track gs (a ++ u) ≡ over ns done → (later : List ℕ) × ((ns ≡ take (length a) ns ++ later) × (track hs u ≡ over later done))
behind_front [] u gs hs ns goes h = (ns, (refl, subst (λ l. track l u ≡ over ns done) (same_goals gs hs goes) h))
behind_front (t ∷ a) u gs hs ns goes h = go (step gs t.tok) ns goes h (λ ks ms. behind_front a u ks hs ms)
  where
    go : (o : Option Goals) (ns : List ℕ) → elim o [ None ↦ None | Some ks ↦ run ks a ] ≡ Some hs → on (a ++ u) o ≡ over ns done → ((ks : Goals) (ms : List ℕ) → run ks a ≡ Some hs → track ks (a ++ u) ≡ over ms done → (later : List ℕ) × ((ms ≡ take (length a) ms ++ later) × (track hs u ≡ over later done))) → (later : List ℕ) × ((ns ≡ take (length (t ∷ a)) ns ++ later) × (track hs u ≡ over later done))
    go None ns goes h rest = no_goals hs goes
    go (Some ks) [] goes h rest = ends_otherwise (levels ks) (track ks (a ++ u)) h
    go (Some ks) (n ∷ ns) goes h rest =
        let x = rest ks ns goes (same_way (levels ks) n (track ks (a ++ u)) (over ns done) h) in
        (x.0, (ap (λ l. n ∷ l) x.1.0, x.1.1))

-- why the machine says this where these goals are left
abbrev pub Why : ℕ → Verdict → Goals → List Placed → Type 0
Why end accepted left rest = (rest ≡ []) × (all_empty left ≡ true)
Why end (misplaced p) left [] = (all_empty left ≡ false) × (p ≡ end)
Why end (misplaced p) left (t ∷ ts) = (step left t.tok ≡ None) × (p ≡ t.place)
Why end (too_deep p) left rest =
    (t : Placed) × ((ts : List Placed) × ((next : Goals) × ((rest ≡ t ∷ ts) × (p ≡ t.place) × (step left t.tok ≡ Some next) × (most_levels < levels next))))

-- the tokens that the machine takes, the goals that are left then, and why it goes no further
pub record Stops (end : ℕ) (gs : Goals) (ts : List Placed) (v : Verdict) : Type 0 where
  pub before : List Placed
  pub rest : List Placed
  pub left : Goals
  pub split : ts ≡ before ++ rest
  pub goes : run gs before ≡ Some left
  pub low : levels left ≤ most_levels
  pub shallow : (u : List Placed) (ns : List ℕ) → track gs (before ++ u) ≡ over ns done → AtMost most_levels (take (length before) ns)
  pub why : Why end v left rest

pub stops : (end : ℕ) (ts : List Placed) (gs : Goals) → levels gs ≤ most_levels → Stops end gs ts (fate end gs ts)
stops end [] gs low = go (all_empty gs) refl
  where
    go : (b : Bool) → all_empty gs ≡ b → Stops end gs [] (cond b accepted (misplaced end))
    go true was = record { before = []; rest = []; left = gs; split = refl; goes = refl; low = low; shallow = λ u ns h. tt; why = (refl, was) }
    go false was = record { before = []; rest = []; left = gs; split = refl; goes = refl; low = low; shallow = λ u ns h. tt; why = (was, refl) }
stops end (t ∷ ts) gs low = go (step gs t.tok) refl (λ hs. stops end ts hs)
  where
    shallow_on : (hs : Goals) (a u : List Placed) (ns : List ℕ) → step gs t.tok ≡ Some hs → levels hs ≤ most_levels → ((ms : List ℕ) → track hs (a ++ u) ≡ over ms done → AtMost most_levels (take (length a) ms)) → track gs (t ∷ (a ++ u)) ≡ over ns done → AtMost most_levels (take (length (t ∷ a)) ns)
    shallow_on hs a u [] was few later h = tt
    shallow_on hs a u (n ∷ ns) was few later h =
        let both = sym (ap (on (a ++ u)) was) ∙ h in
        let same : levels hs ≡ n = same_levels (levels hs) n (track hs (a ++ u)) (over ns done) both in
        (omega (arith, same, few), later ns (same_way (levels hs) n (track hs (a ++ u)) (over ns done) both))

    taken : (hs : Goals) (b : Bool) → step gs t.tok ≡ Some hs → ltb most_levels (levels hs) ≡ b → (levels hs ≤ most_levels → Stops end hs ts (fate end hs ts)) → Stops end gs (t ∷ ts) (cond b (too_deep t.place) (fate end hs ts))
    taken hs true was is later = record { before = []; rest = t ∷ ts; left = gs; split = refl; goes = refl; low = low; shallow = λ u ns h. tt; why = (t, (ts, (hs, (refl, refl, was, ltb-true most_levels (levels hs) is)))) }
    taken hs false was is later =
        let few = ltb-false most_levels (levels hs) is in
        let s = later few in
        record { before = t ∷ s.before; rest = s.rest; left = s.left; split = ap (λ l. t ∷ l) s.split; goes = ap (λ o. elim o [ None ↦ None | Some ks ↦ run ks s.before ]) was ∙ s.goes; low = s.low; shallow = λ u ns h. shallow_on hs s.before u ns was few (s.shallow u) h; why = s.why }

    go : (o : Option Goals) → step gs t.tok ≡ o → ((hs : Goals) → levels hs ≤ most_levels → Stops end hs ts (fate end hs ts)) → Stops end gs (t ∷ ts) (elim o [ None ↦ misplaced t.place | Some hs ↦ cond (ltb most_levels (levels hs)) (too_deep t.place) (fate end hs ts) ])
    go None was later = record { before = []; rest = t ∷ ts; left = gs; split = refl; goes = refl; low = low; shallow = λ u ns h. tt; why = (was, refl) }
    go (Some hs) was later = taken hs (ltb most_levels (levels hs)) was refl (later hs)
