-- One turn of the lexer's loop. Assumes nothing.
use Rattle.std.proofs.Common.{◌≡◌, ℕ, ◌+◌, ◌<◌, ◌≤◌, true, false, List, [], ◌∷◌, ◌++◌, length, get_or, drop, Some, None, sym, refl, ap, ◌∙◌, arith, length-append, length-drop}
use Rattle.std.proofs.lemmas.List.{at_drop_more, at_drop_all, drop-drop, drop_at}
use Rattle.std.proofs.lemmas.Bool.{cond-true, cond-false, le-leb}
use Rattle.refusals.specs.Refusals.{longest_text}
use Rattle.tokens.specs.Bytes.{blank}
use Rattle.tokens.specs.Tokens.{Placed}
use Rattle.tokens.specs.Finding.{Sized, token_at}
use Rattle.tokens.specs.Lexer.{Lexed, read, no_token, prepend, step, scan, lexed}
use Rattle.tokens.proofs.Sound.{Stands, token_sound}
use Rattle.tokens.proofs.Complete.{token_begins}
use Rattle.tokens.proofs.Scanning.{prepend_all, prepend_read, prepend_stop, at_place, scan_token}

-- the scan of the text is these tokens, and then the scan from the place on
pub record Sofar (text : List ℕ) (ts : List Placed) (p : ℕ) : Type 0 where
  pub within : p ≤ length text
  pub scanned : scan 0 0 text ≡ prepend_all ts (scan 0 p (drop p text))

prepend_push : (ts : List Placed) (t : Placed) (l : Lexed) → prepend_all (ts ++ t ∷ []) l ≡ prepend_all ts (prepend t l)
prepend_push [] t l = refl
prepend_push (u ∷ ts) t l = ap (prepend u) (prepend_push ts t l)

module _ (text : List ℕ) (ts : List Placed) (p : ℕ) (sofar : Sofar text ts p) where
  pub turn_blank : p < length text → blank (get_or text p 0) ≡ true → Sofar text ts (p + 1)
  turn_blank inside yes' =
      record { within = omega arith; scanned = sofar.scanned ∙ ap (prepend_all ts) (at_drop_more (scan 0 p) text p 0 inside ∙ cond-true (blank (get_or text p 0)) _ _ yes') }

  pub turn_stop : p < length text → blank (get_or text p 0) ≡ false → token_at (drop p text) ≡ None → scan 0 0 text ≡ no_token p
  turn_stop inside no' none =
      sofar.scanned
      ∙ ap (prepend_all ts) (at_drop_more (scan 0 p) text p 0 inside ∙ cond-false (blank (get_or text p 0)) _ _ no' ∙ ap (λ o. step p o (λ k. scan k (p + 1) (drop (p + 1) text))) (sym (at_drop_more token_at text p 0 inside) ∙ none))
      ∙ prepend_stop ts p

  module _ (s : Sized) (found : token_at (drop p text) ≡ Some s) where
    stands : Stands (drop p text) s
    stands = token_sound (drop p text) s found

    pub turn_within : (1 ≤ s.size) × (p + s.size ≤ length text)
    turn_within =
        let long = length-append stands.lexeme stands.rest in
        let all = ap length stands.text in
        let size = stands.size in
        let some = ap length (token_begins s.tok stands.lexeme stands.spells).text in
        (omega arith, omega (arith, length-drop p text))

    pub turn_token : Sofar text (ts ++ at_place p s.tok ∷ []) (p + s.size)
    turn_token =
        let rest : stands.rest ≡ drop (p + s.size) text = sym (drop_at stands.lexeme stands.rest s.size (sym stands.size)) ∙ ap (drop s.size) (sym stands.text) ∙ drop-drop s.size p text in
        record {
          within = turn_within.1;
          scanned =
              sofar.scanned
              ∙ ap (prepend_all ts) (ap (scan 0 p) stands.text ∙ scan_token p s.tok stands.lexeme stands.rest stands.spells stands.ends ∙ ap (prepend (at_place p s.tok)) (λ i. scan 0 (p + sym stands.size i) (rest i)))
              ∙ sym (prepend_push ts (at_place p s.tok) _);
        }

  pub turn_end : length text ≤ p → scan 0 0 text ≡ read ts
  turn_end past = sofar.scanned ∙ ap (prepend_all ts) (at_drop_all (scan 0 p) text p past) ∙ prepend_read ts

pub lexed_scan : (text : List ℕ) → length text ≤ longest_text → lexed text ≡ scan 0 0 text
lexed_scan text short = cond-true _ _ _ (le-leb (length text) longest_text short)
