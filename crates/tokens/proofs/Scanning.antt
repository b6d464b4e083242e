-- The computed tokens keep the law, and nothing else does. Assumes nothing.
use Rattle.std.proofs.Common.{◌≡◌, ℕ, zero, suc, ◌+◌, ◌-◌, ◌≤◌, true, false, List, [], ◌∷◌, ◌++◌, length, Some, None, Option, sym, refl, ap, ◌∙◌, subst, ⊎_elim, add-zero, arith, length-append}
use Rattle.std.proofs.lemmas.Bool.{cond-true, cond-false, cases_Bool, cases_lt, le-leb, lt-leb}
use Rattle.refusals.specs.Refusals.{longest_text}
use Rattle.tokens.specs.Bytes.{blank}
use Rattle.tokens.specs.Tokens.{Tok, Placed, Spells, Ends, Before}
use Rattle.tokens.specs.Finding.{Sized, sized, token_at}
use Rattle.tokens.specs.Lexer.{Lexed, read, no_token, too_long, prepend, step, scan, lexed}
use Rattle.tokens.specs.Reading.{Blanks, Front, Reads, ReadsAs, NoToken, Stops, Law}
use Rattle.tokens.proofs.Sound.{Good, token_good}
use Rattle.tokens.proofs.Complete.{token_complete, token_begins, Begins}

-- ---- steps of the scan

-- the rest of a token is passed over
scan_skip : (p : ℕ) (s rest : List ℕ) → scan (length s) p (s ++ rest) ≡ scan 0 (p + length s) rest
scan_skip p [] rest = ap (λ q. scan 0 q rest) (sym (add-zero p))
scan_skip p (b ∷ s) rest =
    scan_skip (p + 1) s rest ∙ ap (λ q. scan 0 q rest) (let e : p + 1 + length s ≡ p + suc (length s) = omega arith in e)

pub scan_blanks : (p : ℕ) (blanks bs : List ℕ) → Blanks blanks → scan 0 p (blanks ++ bs) ≡ scan 0 (p + length blanks) bs
scan_blanks p [] bs h = ap (λ q. scan 0 q bs) (sym (add-zero p))
scan_blanks p (b ∷ blanks) bs h =
    cond-true (blank b) _ _ h.0
    ∙ scan_blanks (p + 1) blanks bs h.1
    ∙ ap (λ q. scan 0 q bs) (let e : p + 1 + length blanks ≡ p + suc (length blanks) = omega arith in e)

abbrev pub at_place : ℕ → Tok → Placed
at_place p t = record { place = p; tok = t }

pub scan_token : (p : ℕ) (t : Tok) (lexeme rest : List ℕ) → Spells lexeme t → Ends t rest → scan 0 p (lexeme ++ rest) ≡ prepend (at_place p t) (scan 0 (p + length lexeme) rest)
scan_token p t lexeme rest spells ends = by lexeme (token_begins t lexeme spells) (token_complete t lexeme rest spells ends)
  where
    from : (b : ℕ) (s : List ℕ) → blank b ≡ false → token_at ((b ∷ s) ++ rest) ≡ sized (length (b ∷ s)) t → scan 0 p ((b ∷ s) ++ rest) ≡ prepend (at_place p t) (scan 0 (p + length (b ∷ s)) rest)
    from b s solid found =
        cond-false (blank b) _ _ solid
        ∙ ap (λ o. step p o (λ n. scan n (p + 1) (s ++ rest))) found
        ∙ ap (λ n. prepend (at_place p t) (scan n (p + 1) (s ++ rest))) (let e : suc (length s) - 1 ≡ length s = omega arith in e)
        ∙ ap (prepend (at_place p t)) (scan_skip (p + 1) s rest ∙ ap (λ q. scan 0 q rest) (let e : p + 1 + length s ≡ p + suc (length s) = omega arith in e))

    by : (l : List ℕ) → Begins l → token_at (l ++ rest) ≡ sized (length l) t → scan 0 p (l ++ rest) ≡ prepend (at_place p t) (scan 0 (p + length l) rest)
    by l starts found =
        subst (λ m. scan 0 p (m ++ rest) ≡ prepend (at_place p t) (scan 0 (p + length m) rest)) (sym starts.text)
        (from starts.first starts.more starts.solid (subst (λ m. token_at (m ++ rest) ≡ sized (length m) t) starts.text found))

-- ---- the law holds of what is computed

-- what a scan from the place p says
abbrev pub Told : ℕ → List ℕ → Lexed → Type 0
Told p bs (read ts) = ReadsAs p bs ts
Told p bs (no_token q) = Stops p bs q
Told p bs too_long = ⊥

-- one blank more in front of a token
reads_blank : (p b : ℕ) (bs : List ℕ) (t : Placed) (ts : List Placed) (left : List ℕ) → blank b ≡ true → Reads (p + 1) bs (t ∷ ts) left → Reads p (b ∷ bs) (t ∷ ts) left
reads_blank p b bs t ts left h (f, more) = (
  record {
    blanks = b ∷ f.blanks;
    lexeme = f.lexeme;
    rest = f.rest;
    text = ap (λ l. b ∷ l) f.text;
    all_blank = (h, f.all_blank);
    place = omega (arith, f.place);
    spells = f.spells;
    ends = f.ends;
  },
  more,
)

stops_blank : (p b : ℕ) (bs : List ℕ) (q : ℕ) → blank b ≡ true → Stops (p + 1) bs q → Stops p (b ∷ bs) q
stops_blank p b bs q h s = by s.tokens s.reads
  where
    by : (ts : List Placed) → Reads (p + 1) bs ts (s.blanks ++ s.at) → Stops p (b ∷ bs) q
    by [] same = record {
      tokens = [];
      blanks = b ∷ s.blanks;
      at = s.at;
      reads = ap (λ l. b ∷ l) same;
      all_blank = (h, s.all_blank);
      place = omega (arith, s.place);
      some = s.some;
      no_blank = s.no_blank;
      no_token = s.no_token;
    }
    by (t ∷ ts) reads = record {
      tokens = t ∷ ts;
      blanks = s.blanks;
      at = s.at;
      reads = reads_blank p b bs t ts _ h reads;
      all_blank = s.all_blank;
      place = omega (arith, s.place);
      some = s.some;
      no_blank = s.no_blank;
      no_token = s.no_token;
    }

told_blank : (p b : ℕ) (bs : List ℕ) (l : Lexed) → blank b ≡ true → Told (p + 1) bs l → Told p (b ∷ bs) l
told_blank p b bs (read []) h (left, same, blanks) = (b ∷ bs, refl, (h, subst Blanks (sym same) blanks))
told_blank p b bs (read (t ∷ ts)) h (left, reads, blanks) = (left, reads_blank p b bs t ts left h reads, blanks)
told_blank p b bs (no_token q) h told = stops_blank p b bs q h told
told_blank p b bs too_long h told = told

-- one token more
abbrev token_front : (p : ℕ) (t : Tok) (lexeme rest : List ℕ) → Spells lexeme t → Ends t rest → Front p (lexeme ++ rest) (at_place p t)
token_front p t lexeme rest spells ends =
    record { blanks = []; lexeme = lexeme; rest = rest; text = refl; all_blank = tt; place = sym (add-zero p); spells = spells; ends = ends }

told_token : (p : ℕ) (t : Tok) (lexeme rest : List ℕ) (l : Lexed) → Spells lexeme t → Ends t rest → Told (p + length lexeme) rest l → Told p (lexeme ++ rest) (prepend (at_place p t) l)
told_token p t lexeme rest (read ts) spells ends (left, reads, blanks) = (left, (token_front p t lexeme rest spells ends, reads), blanks)
told_token p t lexeme rest (no_token q) spells ends s = record {
  tokens = at_place p t ∷ s.tokens;
  blanks = s.blanks;
  at = s.at;
  reads = (token_front p t lexeme rest spells ends, s.reads);
  all_blank = s.all_blank;
  place = omega (arith, s.place, length-append lexeme rest);
  some = s.some;
  no_blank = s.no_blank;
  no_token = s.no_token;
}
told_token p t lexeme rest too_long spells ends told = told

-- nothing is found where no token stands
pub none_stands : (bs : List ℕ) → token_at bs ≡ None → NoToken bs
none_stands bs none t lexeme rest text spells ends =
    let found : None ≡ sized (length lexeme) t = sym none ∙ ap token_at text ∙ token_complete t lexeme rest spells ends in
    let z : ◌≡◌ {A = ℕ} 0 1 = cc in
    omega arith

-- at a byte that is no blank; `later` has what is told of shorter texts
told_solid : (p b : ℕ) (bs : List ℕ) → ((q : ℕ) (rest : List ℕ) → length rest ≤ length bs → Told q rest (scan 0 q rest)) → blank b ≡ false → (o : Option Sized) → token_at (b ∷ bs) ≡ o → Good (b ∷ bs) o → Told p (b ∷ bs) (scan 0 p (b ∷ bs))
told_solid p b bs later solid None none good =
    subst (Told p (b ∷ bs)) (sym (cond-false (blank b) _ _ solid ∙ ap (λ o. step p o (λ k. scan k (p + 1) bs)) none))
    (record { tokens = []; blanks = []; at = b ∷ bs; reads = refl; all_blank = tt; place = refl; some = omega arith; no_blank = solid; no_token = none_stands (b ∷ bs) none })
told_solid p b bs later solid (Some s) found good =
    let shorter : length good.rest ≤ length bs = omega (arith, ap length good.text, length-append good.lexeme good.rest, ap length (token_begins s.tok good.lexeme good.spells).text) in
    subst (λ l. Told p l (scan 0 p l)) (sym good.text)
    (subst (Told p (good.lexeme ++ good.rest)) (sym (scan_token p s.tok good.lexeme good.rest good.spells good.ends))
    (told_token p s.tok good.lexeme good.rest _ good.spells good.ends (later (p + length good.lexeme) good.rest shorter)))

-- by the length of what is left
told_within : (n p : ℕ) (bs : List ℕ) → length bs ≤ n → Told p bs (scan 0 p bs)
told_within n p [] within = ([], refl, tt)
told_within zero p (b ∷ bs) within = absurd (omega arith)
told_within (suc n) p (b ∷ bs) within =
    ⊎_elim
    (λ yes'. subst (Told p (b ∷ bs)) (sym (cond-true (blank b) _ _ yes')) (told_blank p b bs _ yes' (told_within n (p + 1) bs (omega arith))))
    (λ no'. told_solid p b bs (λ q rest h. told_within n q rest (omega arith)) no' (token_at (b ∷ bs)) refl (token_good (b ∷ bs)))
    (cases_Bool (blank b))

pub told : (p : ℕ) (bs : List ℕ) → Told p bs (scan 0 p bs)
told p bs = told_within (length bs) p bs (omega arith)

from_told : (text : List ℕ) (l : Lexed) → length text ≤ longest_text → Told 0 text l → Law text l
from_told text (read ts) short h = (short, h)
from_told text (no_token q) short h = (short, h)
from_told text too_long short h = absurd h

pub lexed_lawful : (text : List ℕ) → Law text (lexed text)
lexed_lawful text =
    ⊎_elim
    (λ long. subst (Law text) (sym (cond-false _ _ _ (lt-leb (length text) longest_text long))) long)
    (λ short. subst (Law text) (sym (cond-true _ _ _ (le-leb (length text) longest_text short))) (from_told text _ short (told 0 text)))
    (cases_lt longest_text (length text))

-- ---- nothing else keeps it

abbrev pub prepend_all : List Placed → Lexed → Lexed
prepend_all [] l = l
prepend_all (t ∷ ts) l = prepend t (prepend_all ts l)

pub prepend_read : (ts : List Placed) → prepend_all ts (read []) ≡ read ts
prepend_read [] = refl
prepend_read (t ∷ ts) = ap (prepend t) (prepend_read ts)

pub prepend_stop : (ts : List Placed) (q : ℕ) → prepend_all ts (no_token q) ≡ no_token q
prepend_stop [] q = refl
prepend_stop (t ∷ ts) q = ap (prepend t) (prepend_stop ts q)

-- what reads as tokens scans as them, and then as what is left
pub scan_reads : (p : ℕ) (bs : List ℕ) (ts : List Placed) (left : List ℕ) → Reads p bs ts left → (q : ℕ) × (q + length left ≡ p + length bs) × (scan 0 p bs ≡ prepend_all ts (scan 0 q left))
scan_reads p bs [] left same = (p, ap (λ l. p + length l) (sym same), ap (scan 0 p) same)
scan_reads p bs (t ∷ ts) left (f, more) =
    let later = scan_reads (t.place + length f.lexeme) f.rest ts left more in (
      later.0,
      omega (arith, later.1, f.place, ap length f.text, length-append f.blanks (f.lexeme ++ f.rest), length-append f.lexeme f.rest),
      ap (scan 0 p) f.text
          ∙ scan_blanks p f.blanks (f.lexeme ++ f.rest) f.all_blank
          ∙ ap (λ q. scan 0 q (f.lexeme ++ f.rest)) (sym f.place)
          ∙ scan_token t.place t.tok f.lexeme f.rest f.spells f.ends
          ∙ ap (prepend t) later.2,
    )

scan_end : (q : ℕ) (left : List ℕ) → Blanks left → scan 0 q left ≡ read []
scan_end q [] h = refl
scan_end q (b ∷ left) h = cond-true (blank b) _ _ h.0 ∙ scan_end (q + 1) left h.1

-- where nothing stands, nothing is found
none_found : (bs : List ℕ) → NoToken bs → token_at bs ≡ None
none_found bs no' = by (token_at bs) (token_good bs)
  where
    by : (o : Option Sized) → Good bs o → o ≡ None
    by None good = refl
    by (Some s) good = absurd (no' s.tok good.lexeme good.rest good.text good.spells good.ends)

scan_stop : (q : ℕ) (at : List ℕ) → 1 ≤ length at → Before blank at → NoToken at → scan 0 q at ≡ no_token q
scan_stop q [] some solid none = absurd (omega arith)
scan_stop q (b ∷ at) some solid none =
    cond-false (blank b) _ _ solid ∙ ap (λ o. step q o (λ k. scan k (q + 1) at)) (none_found (b ∷ at) none)

pub scan_only : (p : ℕ) (bs : List ℕ) (l : Lexed) → Told p bs l → scan 0 p bs ≡ l
scan_only p bs (read ts) (left, reads, blanks) =
    let r = scan_reads p bs ts left reads in
    r.2 ∙ ap (prepend_all ts) (scan_end r.0 left blanks) ∙ prepend_read ts
scan_only p bs (no_token q) s =
    let r = scan_reads p bs s.tokens (s.blanks ++ s.at) s.reads in
    let here : r.0 + length s.blanks ≡ q = omega (arith, r.1, s.place, length-append s.blanks s.at) in
    r.2
    ∙ ap (prepend_all s.tokens) (scan_blanks r.0 s.blanks s.at s.all_blank ∙ scan_stop (r.0 + length s.blanks) s.at s.some s.no_blank s.no_token ∙ ap no_token here)
    ∙ prepend_stop s.tokens q
scan_only p bs too_long h = absurd h

pub lexed_only : (text : List ℕ) (l : Lexed) → Law text l → lexed text ≡ l
lexed_only text (read ts) (short, h) = cond-true _ _ _ (le-leb (length text) longest_text short) ∙ scan_only 0 text (read ts) h
lexed_only text (no_token q) (short, h) = cond-true _ _ _ (le-leb (length text) longest_text short) ∙ scan_only 0 text (no_token q) h
lexed_only text too_long long = cond-false _ _ _ (lt-leb (length text) longest_text long)
