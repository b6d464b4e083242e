-- `val` and `fun`, and what follows them. Assumes nothing.
use Rattle.std.proofs.Common.{◌≡◌, ℕ, ◌≤◌, List, ◌∷◌, Ok, Err, Option, refl, ap, ◌∙◌, subst, arith, Bor, Some, None, MatchOption}
use Rattle.tokens.specs.declared.token.Token.{Token}
use Rattle.tokens.specs.declared.token.Word.TheVariants as kw
use Rattle.tokens.specs.declared.token.Symbol.TheVariants as sg
use Rattle.tokens.specs.Tokens.{word, symbol, identifier, Placed}
use Rattle.syntax.specs.declared.tree.Exp.{Exp}
use Rattle.syntax.specs.declared.tree.Lexeme.{Lexeme}
use Rattle.syntax.specs.declared.tree.Params.{Params}
use Rattle.syntax.specs.declared.tree.Ty.{Ty}
use Rattle.syntax.specs.declared.tree.Dec.TheVariants.{Fun}
use Rattle.syntax.specs.Meanings.{text_of}
use Rattle.syntax.specs.Sorts.{at, After}
use Rattle.goals.specs.Goals.{Goals, one, name, dec, exp, binder, refs, pars}
use Rattle.goals.specs.Machine.{levels, misplaced, fate}
use Rattle.goals.proofs.Steps.{steps, word_taken}
use Rattle.pieces.specs.declared.front.Reader.{Reader}
use Rattle.pieces.specs.declared.fault.Fault.{Fault}
use Rattle.pieces.specs.declared.fault.Fault.TheVariants.{Misplaced, TooDeep, Memory}
use Rattle.pieces.specs.Seen.{seen}
use Rattle.pieces.specs.Looking.{Went, Identified, BinderMark}
use Rattle.pieces.specs.Reading.{Reads}
use Rattle.pieces.specs.Headers.{ReadsType, ReadsParams}
use Rattle.grammar.specs.Declaring.{ReadsDec}

-- the end stays, whether a mark stands there or not
pub same_either : (o : Option Lexeme) (before after : Reader) → MatchOption o (after ≡ before) (λ _. after.end ≡ before.end) → after.end ≡ before.end
same_either None before after e = ap (λ (r : Reader). r.end) e
same_either (Some x) before after e = e

-- what the goals come to with an end, they come to with the same end
at_end : (end n : ℕ) → n ≡ end → (gs hs : Goals) (ts m : List Placed) → fate n gs ts ≡ fate n hs m → fate end gs ts ≡ fate end hs m
at_end end n e gs hs ts m f = subst (λ k. fate k gs ts ≡ fate k hs m) e f

-- the ends are those that the parts have, one after the other
module _ (end place : ℕ) (ts : List Placed) (f : Lexeme × Bor (List Token)) (i2 i4 : List Placed) (ps : Params × Bor (List Token)) (ty : Ty × Bor (List Token)) (mk : Option Lexeme × Bor (List Token)) (n1 n2 n3 n4 n5 : ℕ) (e1 : n1 ≡ end) (e2 : n2 ≡ end) (e3 : n3 ≡ end) (e4 : n4 ≡ end) (e5 : n5 ≡ end) (named : Identified end ts (Ok f)) (opened : After (symbol sg.Open) (seen f.1) i2) (read : ReadsParams n1 7 i2 (Ok ps)) (close : After (symbol sg.Close) (seen ps.1) i4) (result : ReadsType n2 i4 (Ok ty)) (mark : BinderMark n3 (seen ty.1) mk) where
  -- up to the `=`
  fun_leads : (S : Goals) → levels S ≤ 32 → fate end (dec ∷ S) (at place (word kw.Fun) ∷ ts) ≡ fate end (one (symbol sg.Equals) ∷ exp ∷ S) (seen mk.1)
  fun_leads S few =
      let S6 : Goals = one (symbol sg.Equals) ∷ exp ∷ S in
      let S5 : Goals = binder ∷ S6 in
      let S4 : Goals = one (symbol sg.Colon) ∷ one (word kw.Int) ∷ refs 3 ∷ S5 in
      let S3 : Goals = one (symbol sg.Close) ∷ S4 in
      let S2 : Goals = name ∷ binder ∷ one (symbol sg.Colon) ∷ one (word kw.Int) ∷ refs 3 ∷ pars 7 ∷ S3 in
      steps end place (word kw.Fun) (dec ∷ S) (name ∷ one (symbol sg.Open) ∷ S2) ts refl few
      ∙ ap (fate end (name ∷ one (symbol sg.Open) ∷ S2)) named
      ∙ steps end f.0.place (identifier (text_of f.0).bytes) (name ∷ one (symbol sg.Open) ∷ S2) (one (symbol sg.Open) ∷ S2) (seen f.1) refl few
      ∙ word_taken end S2 (seen f.1) i2 refl opened few
      ∙ at_end end n1 e1 S2 S3 i2 (seen ps.1) (read.2 S3 few)
      ∙ word_taken end S4 (seen ps.1) i4 refl close few
      ∙ at_end end n2 e2 S4 S5 i4 (seen ty.1) (result.2 S5 few)
      ∙ at_end end n3 e3 S5 S6 (seen ty.1) (seen mk.1) (mark.2 S6 few)

  pub fun_stops : (e : Fault) → Went n4 (symbol sg.Equals) (seen mk.1) (Err e) → ReadsDec end (at place (word kw.Fun) ∷ ts) (Err e)
  fun_stops (Misplaced p) stops = λ S d few. fun_leads S few ∙ subst (λ k. fate k (one (symbol sg.Equals) ∷ exp ∷ S) (seen mk.1) ≡ misplaced p) e4 (stops (exp ∷ S))
  fun_stops (TooDeep p) stops = absurd stops
  fun_stops Memory stops = tt

  pub fun_reads : (i7 : List Placed) (x : Exp × Bor (List Token)) → After (symbol sg.Equals) (seen mk.1) i7 → Reads n5 4 0 exp i7 (Ok x) → ReadsDec end (at place (word kw.Fun) ∷ ts) (Ok (Fun f.0 ps.0 ty.0 mk.0 x.0, x.1))
  fun_reads i7 x equals body = (
    (ts, seen f.1, i2, seen ps.1, i4, seen ty.1, seen mk.1, i7, ((place, refl), named, opened, omega (arith, read.0.0), read.0.1, close, result.0, mark.0, equals, body.1)),
    λ S d few. fun_leads S few ∙ word_taken end (exp ∷ S) (seen mk.1) i7 refl equals few ∙ at_end end n5 e5 (exp ∷ S) S i7 (seen x.1) (body.3 S d few),
  )
