-- What the closing word of an atom or a call leads to. Assumes nothing.
use Rattle.std.proofs.Common.{◌≡◌, ℕ, ◌<◌, ◌≤◌, List, [], ◌∷◌, length, Some, Ok, Err, Result, sym, refl, ap, subst, ◌∙◌, arith, Bor}
use Rattle.tokens.specs.declared.token.Token.{Token}
use Rattle.tokens.specs.declared.token.Word.TheVariants as kw
use Rattle.tokens.specs.declared.token.Symbol.TheVariants as sg
use Rattle.tokens.specs.Tokens.{Tok, word, symbol, Placed}
use Rattle.syntax.specs.declared.tree.Exp.{Exp}
use Rattle.syntax.specs.declared.tree.Args.{Args}
use Rattle.syntax.specs.declared.tree.Vals.{Vals}
use Rattle.syntax.specs.declared.tree.Lexeme.{Lexeme}
use Rattle.syntax.specs.Sorts.{at, After}
use Rattle.syntax.specs.Levels.{most_levels}
use Rattle.goals.specs.Goals.{Goals, one, marks, level}
use Rattle.goals.specs.Machine.{step, levels, fate}
use Rattle.goals.proofs.Steps.{word_taken, level_ends}
use Rattle.pieces.specs.declared.fault.Fault.{Fault}
use Rattle.pieces.specs.declared.fault.Fault.TheVariants.{Misplaced, TooDeep, Memory}
use Rattle.pieces.specs.Seen.{seen, left}
use Rattle.pieces.specs.Reading.{Leads, Failed, Extends}
use Rattle.pieces.specs.Closing.{LeadsOut, FailedOut, Closed, Ended, Applied}
use Rattle.pieces.specs.Making.{Made, Within, Called}

-- a closing word, and what stands outside
module _ (end depth : ℕ) (t : Tok) (takes : (S : Goals) → step (one t ∷ S) t ≡ Some S) (ts m : List Placed) (close : After t ts m) where
  close_leads : (S : Goals) → levels S < most_levels → fate end (one t ∷ level ∷ S) ts ≡ fate end S m
  close_leads S few = word_taken end (level ∷ S) ts m (takes (level ∷ S)) close (omega (arith, few)) ∙ level_ends end S m

  shorter : (n : ℕ) → n ≤ length m → n < length ts
  shorter n le = omega (arith, le, ap length close.1)

  marks_lead : (y : List Placed) → Leads end depth (marks ∷ []) m [] y → LeadsOut end depth (one t ∷ level ∷ marks ∷ []) ts y
  marks_lead y x S d few = close_leads (marks ∷ S) few ∙ x S d (omega (arith, few))

  marks_fail : (e : Fault) → Failed end depth (marks ∷ []) m e → FailedOut end depth (one t ∷ level ∷ marks ∷ []) ts e
  marks_fail (Misplaced p) x = λ S d few. close_leads (marks ∷ S) few ∙ x S d (omega (arith, few))
  marks_fail (TooDeep p) x = λ S d few. close_leads (marks ∷ S) few ∙ x S d (omega (arith, few))
  marks_fail Memory x = tt

pub closes : (end depth : ℕ) (ts m : List Placed) (e : Exp) (y : Result (Exp × Bor (List Token)) Fault) → After (symbol sg.Close) ts m → Extends end 0 depth marks e m y → Closed end depth e ts y
closes end depth ts m e (Ok y) close x = (
  x.0,
  (λ ss low f. x.1 ss low (f m close)),
  shorter end depth (symbol sg.Close) (λ S. refl) ts m close (length (seen y.1)) x.2,
  marks_lead end depth (symbol sg.Close) (λ S. refl) ts m close (seen y.1) x.3,
)
closes end depth ts m e (Err r) close x = marks_fail end depth (symbol sg.Close) (λ S. refl) ts m close r x

pub ends : (end depth place : ℕ) (ts m : List Placed) (vs : Vals) (e v : Exp) (y : Result (Exp × Bor (List Token)) Fault) → After (word kw.End) ts m → Within place vs e v → Extends end 0 depth marks v m y → Ended end depth place vs e ts y
ends end depth place ts m vs e v (Ok y) close made x = (
  x.0 (omega (arith, made.0)),
  (λ h i j k val binds inner spans. x.1 (at place (word kw.Let) ∷ h) (omega (arith, made.0)) (made.1 h i j k ts m val binds inner spans close)),
  shorter end depth (word kw.End) (λ S. refl) ts m close (length (seen y.1)) x.2,
  marks_lead end depth (word kw.End) (λ S. refl) ts m close (seen y.1) x.3,
)
ends end depth place ts m vs e v (Err r) close made x = marks_fail end depth (word kw.End) (λ S. refl) ts m close r x

pub applies : (end depth : ℕ) (ts : List Placed) (f : Lexeme) (xs : Args) (r : Result Exp Fault) (rest : Bor (List Token)) → After (symbol sg.Close) ts (seen rest) → Made (Called f xs) r → Applied end depth f xs ts (left r rest)
applies end depth ts f xs (Ok v) rest close made = (
  made.0,
  (λ j p l. made.1 j ts (seen rest) p l close),
  shorter end depth (symbol sg.Close) (λ S. refl) ts (seen rest) close (length (seen rest)) (omega arith),
  λ S d few. close_leads end depth (symbol sg.Close) (λ S. refl) ts (seen rest) close S few,
)
applies end depth ts f xs (Err e) rest close made =
    subst (λ k. FailedOut end depth (one (symbol sg.Close) ∷ level ∷ []) ts k) (sym made) tt
