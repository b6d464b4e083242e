-- The goals' way through the tokens: how many levels are open with each. Assumes nothing.
use Rattle.std.proofs.Common.{◌≡◌, ℕ, cond, List, [], ◌∷◌, ◌++◌, Some, None, Option, sym, refl, ap, ◌∙◌}
use Rattle.tokens.specs.Tokens.{Tok, Placed}
use Rattle.syntax.specs.Sorts.{at}
use Rattle.goals.specs.Goals.{Goals}
use Rattle.goals.specs.Machine.{step, all_empty, levels}

pub data Track : Type 0 where
  done : Track
  stuck : Track
  after : ℕ → Track → Track

abbrev pub track : Goals → List Placed → Track
track gs [] = cond (all_empty gs) done stuck
track gs (t ∷ ts) = elim (step gs t.tok) [ None ↦ stuck | Some hs ↦ after (levels hs) (track hs ts) ]

abbrev pub over : List ℕ → Track → Track
over [] k = k
over (n ∷ ns) k = after n (over ns k)

abbrev pub on : List Placed → Option Goals → Track
on ts None = stuck
on ts (Some hs) = after (levels hs) (track hs ts)

pub steps : (p : ℕ) (k : Tok) (gs hs : Goals) (ts : List Placed) → step gs k ≡ Some hs → track gs (at p k ∷ ts) ≡ after (levels hs) (track hs ts)
steps p k gs hs ts e = ap (on ts) e

pub over_append : (a b : List ℕ) (k : Track) → over (a ++ b) k ≡ over a (over b k)
over_append [] b k = refl
over_append (n ∷ a) b k = ap (after n) (over_append a b k)

pub put : {x y w : Track} (n : ℕ) (b : List ℕ) → x ≡ after n y → y ≡ w → x ≡ after n w
put n b p q = p ∙ ap (after n) q

pub join : {x y : Track} (z : Track) (a b : List ℕ) → x ≡ over a y → y ≡ over b z → x ≡ over (a ++ b) z
join z a b p q = p ∙ ap (over a) q ∙ sym (over_append a b z)

-- what is still to come after the tokens
abbrev pub run : Goals → List Placed → Option Goals
run gs [] = Some gs
run gs (t ∷ ts) = elim (step gs t.tok) [ None ↦ None | Some hs ↦ run hs ts ]
