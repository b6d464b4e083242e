-- How the `ref` of a type and the parameters of a declaration lead on. Assumes nothing.
use Rattle.std.proofs.Common.{◌≡◌, ℕ, zero, suc, ◌+◌, ◌-◌, ◌<◌, ◌≤◌, List, ◌∷◌, Ok, refl, ap, ◌∙◌, add-one, arith, Bor}
use Rattle.tokens.specs.declared.token.Token.{Token}
use Rattle.tokens.specs.declared.token.Word.TheVariants as kw
use Rattle.tokens.specs.Tokens.{word, Placed}
use Rattle.syntax.specs.Sorts.{at}
use Rattle.syntax.specs.Grammar.{Refs}
use Rattle.syntax.specs.Levels.{most_levels}
use Rattle.goals.proofs.Steps.{steps, one_ref}
use Rattle.syntax.specs.declared.tree.Param.{Param}
use Rattle.syntax.specs.declared.tree.Params.TheVariants.{Sole}
use Rattle.goals.specs.Goals.{Goals, refs, pars}
use Rattle.goals.specs.Machine.{levels, fate}
use Rattle.pieces.specs.Seen.{seen}
use Rattle.pieces.specs.Headers.{ReadsParam, ReadsParams}

-- one more `ref` behind those that were read
pub refs_more : (n from last p : ℕ) (ts m rest : List Placed) → Refs n from last ts m → m ≡ at p (word kw.Ref) ∷ rest → Refs (n + 1) from p ts rest
refs_more n from last p ts m rest read found = rw add-one (go n from ts read)
  where
    go : (k start : ℕ) (us : List Placed) → Refs k start last us m → Refs (suc k) start p us rest
    go zero start us (e, same) = (p, (rest, (same ∙ found, (refl, refl))))
    go (suc k) start us (q, (i, (e, r))) = (q, (i, (e, go k q i r)))

pub one_more : (end room n p : ℕ) → n < room → (m rest : List Placed) → m ≡ at p (word kw.Ref) ∷ rest → (S : Goals) → levels S ≤ most_levels → fate end (refs (room - n) ∷ S) m ≡ fate end (refs (room - (n + 1)) ∷ S) rest
one_more end room n p less m rest found S few =
    let k : ℕ = room - n in
    let e : k - 1 ≡ room - (n + 1) = omega arith in
    ap (fate end (refs k ∷ S)) found ∙ steps end p (word kw.Ref) (refs k ∷ S) (refs (k - 1) ∷ S) rest (one_ref k S (omega arith)) few ∙ ap (λ j. fate end (refs j ∷ S) rest) e

pub params_last : (end room : ℕ) (ts : List Placed) (x : Param × Bor (List Token)) → ReadsParam end ts (Ok x) → ((S : Goals) → fate end (pars room ∷ S) (seen x.1) ≡ fate end S (seen x.1)) → ReadsParams end room ts (Ok (Sole x.0, x.1))
params_last end room ts x a none = ((omega arith, a.0), a.1, λ S few. a.2 (pars room ∷ S) few ∙ none S)
