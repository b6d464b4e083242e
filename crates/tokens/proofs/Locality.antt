-- How a part of a text reads does not depend on the rest. Assumes nothing.
use Rattle.std.proofs.Common.{◌≡◌, ℕ, ◌+◌, true, false, List, [], ◌∷◌, ◌++◌, map, length, codes, sym, refl, ap, ◌∙◌, subst, append_assoc, arith, length-append}
use Rattle.std.proofs.lemmas.List.{append_cancel_right}
use Rattle.std.proofs.lemmas.Bool.Decides.{nat_tests}
use Rattle.tokens.specs.Bytes.{blank, tail, digit}
use Rattle.tokens.specs.Tokens.{Tok, word, symbol, literal, identifier, binder, bound, Placed, Spells, Ends, joins}
use Rattle.tokens.specs.Reading.{Blanks, Front, Reads}
use Rattle.tokens.specs.Local.{moved, Apart, Stays, Joins, Splits, Moves, MovesBack, Marks, Inserts, Replaces}
use Rattle.tokens.specs.declared.token.Symbol.{Symbol}
use Rattle.tokens.specs.declared.token.Symbol.TheVariants.{Bang, Plus, Minus, Star, Less, Colon, Equals, Assign, Open, Close, Comma, Semicolon}
use Rattle.tokens.proofs.Sound.{never}

-- what is left is the end of the bytes
pub reads_end : (p : ℕ) (bs : List ℕ) (ts : List Placed) (left : List ℕ) → Reads p bs ts left → (front : List ℕ) × (bs ≡ front ++ left)
reads_end p bs [] left same = ([], same)
reads_end p bs (t ∷ ts) left (f, more) =
    let later = reads_end (t.place + length f.lexeme) f.rest ts left more in (
      f.blanks ++ (f.lexeme ++ later.0),
      f.text
          ∙ ap (λ l. f.blanks ++ (f.lexeme ++ l)) later.1
          ∙ ap (λ l. f.blanks ++ l) (sym (append_assoc f.lexeme later.0 left))
          ∙ sym (append_assoc f.blanks (f.lexeme ++ later.0) left),
    )

-- a byte of the front decides, or else what follows the front
ends_front : (t : Tok) (r b b' : List ℕ) → Ends t (r ++ b) → Ends t b' → Ends t (r ++ b')
ends_front t [] b b' was is = is
ends_front t (x ∷ r) b b' was is = was

pub stays : Stays
stays p a b b' [] same apart = ap (λ l. l ++ b') (append_cancel_right a [] b same)
stays p a b b' (t ∷ ts) (f, more) apart =
    let later = reads_end (t.place + length f.lexeme) f.rest ts b more in
    let front : a ≡ f.blanks ++ (f.lexeme ++ later.0) = append_cancel_right a (f.blanks ++ (f.lexeme ++ later.0)) b (f.text ∙ ap (λ l. f.blanks ++ (f.lexeme ++ l)) later.1 ∙ ap (λ l. f.blanks ++ l) (sym (append_assoc f.lexeme later.0 b)) ∙ sym (append_assoc f.blanks (f.lexeme ++ later.0) b)) in (
      record {
        blanks = f.blanks;
        lexeme = f.lexeme;
        rest = later.0 ++ b';
        text = ap (λ l. l ++ b') front ∙ append_assoc f.blanks (f.lexeme ++ later.0) b' ∙ ap (λ l. f.blanks ++ l) (append_assoc f.lexeme later.0 b');
        all_blank = f.all_blank;
        place = f.place;
        spells = f.spells;
        ends = ends_front t.tok later.0 b b' (subst (Ends t.tok) later.1 f.ends) (apart t.tok);
      },
      stays (t.place + length f.lexeme) later.0 b b' ts (subst (λ l. Reads (t.place + length f.lexeme) l ts b) later.1 more) apart,
    )

-- the place behind the first token
front_place : (p : ℕ) (bs : List ℕ) (t : Placed) (f : Front p bs t) → t.place + length f.lexeme + length f.rest ≡ p + length bs
front_place p bs t f =
    omega (arith, f.place, ap length f.text, length-append f.blanks (f.lexeme ++ f.rest), length-append f.lexeme f.rest)

pub joined : Joins
joined p q bs mid left [] us first second same =
    let here : q ≡ p = omega (arith, ap length first) in
    subst (λ l. Reads p l us left) (sym first) (subst (λ k. Reads k mid us left) here second)
joined p q bs mid left (t ∷ ts) us (f, more) second same =
    (f, joined (t.place + length f.lexeme) q f.rest mid left ts us more second (same ∙ sym (front_place p bs t f)))

pub split : Splits
split p bs left [] us reads = record { mid = bs; place = p; first = refl; second = reads; same = refl }
split p bs left (t ∷ ts) us (f, more) =
    let later = split (t.place + length f.lexeme) f.rest left ts us more in
    record { mid = later.mid; place = later.place; first = (f, later.first); second = later.second; same = later.same ∙ front_place p bs t f }

abbrev move_front : (k p : ℕ) (bs : List ℕ) (t : Placed) → Front p bs t → Front (k + p) bs (moved k t)
move_front k p bs t f =
    record { blanks = f.blanks; lexeme = f.lexeme; rest = f.rest; text = f.text; all_blank = f.all_blank; place = omega (arith, f.place); spells = f.spells; ends = f.ends }

pub moves : Moves
moves k p bs left [] same = same
moves k p bs left (t ∷ ts) (f, more) = (
  move_front k p bs t f,
  subst (λ q. Reads q f.rest (map (moved k) ts) left) (let e : k + (t.place + length f.lexeme) ≡ k + t.place + length f.lexeme = omega arith in e)
      (moves k (t.place + length f.lexeme) f.rest left ts more),
)

map_moved : (p k : ℕ) (ts : List Placed) → map (moved p) (map (moved k) ts) ≡ map (moved (p + k)) ts
map_moved p k [] = refl
map_moved p k (t ∷ ts) =
    let e : p + (k + t.place) ≡ p + k + t.place = omega arith in
    (λ i. record { place = e i; tok = t.tok } ∷ map_moved p k ts i)

pub moves_back : MovesBack
moves_back p bs left [] same = record { tokens = []; same = refl; reads = same }
moves_back p bs left (t ∷ ts) (f, more) =
    let later = moves_back (t.place + length f.lexeme) f.rest left ts more in
    let k : ℕ = length f.blanks + length f.lexeme in
    let far : t.place + length f.lexeme ≡ p + (length f.blanks + length f.lexeme) = omega (arith, f.place) in
    let here : 0 + length f.blanks ≡ length f.blanks = omega arith in
    let none : k + 0 ≡ length f.blanks + length f.lexeme = omega arith in
    record {
      tokens = record { place = length f.blanks; tok = t.tok } ∷ map (moved k) later.tokens;
      same = (λ i. record { place = f.place i; tok = t.tok } ∷ (later.same ∙ ap (λ q. map (moved q) later.tokens) far ∙ sym (map_moved p k later.tokens)) i);
      reads = (
        record { blanks = f.blanks; lexeme = f.lexeme; rest = f.rest; text = f.text; all_blank = f.all_blank; place = sym here; spells = f.spells; ends = f.ends },
        subst (λ q. Reads q f.rest (map (moved k) later.tokens) left) none (moves k 0 f.rest left later.tokens later.reads),
      );
    }

-- ---- a mark put in

-- no token goes on with a blank or with `(`
symbol_blank : (y : Symbol) (b : ℕ) → blank b ≡ true → joins y b ≡ false
symbol_blank Bang b h = grind (arith, nat_tests)
symbol_blank Plus b h = grind (arith, nat_tests)
symbol_blank Minus b h = grind (arith, nat_tests)
symbol_blank Star b h = grind (arith, nat_tests)
symbol_blank Less b h = grind (arith, nat_tests)
symbol_blank Colon b h = grind (arith, nat_tests)
symbol_blank Equals b h = grind (arith, nat_tests)
symbol_blank Assign b h = grind (arith, nat_tests)
symbol_blank Open b h = grind (arith, nat_tests)
symbol_blank Close b h = refl
symbol_blank Comma b h = refl
symbol_blank Semicolon b h = refl

tail_blank : (b : ℕ) → blank b ≡ true → tail b ≡ false
tail_blank b h = grind (arith, nat_tests)

digit_blank : (b : ℕ) → blank b ≡ true → digit b ≡ false
digit_blank b h = grind (arith, nat_tests)

pub apart_blank : (b : ℕ) (bs : List ℕ) → blank b ≡ true → Apart (b ∷ bs)
apart_blank b bs h (word w) = tail_blank b h
apart_blank b bs h (symbol y) = symbol_blank y b h
apart_blank b bs h (literal d) = digit_blank b h
apart_blank b bs h (identifier n) = tail_blank b h
apart_blank b bs h (binder m) = refl
apart_blank b bs h (bound m) = refl

symbol_open : (y : Symbol) → joins y 40 ≡ false
symbol_open Bang = refl
symbol_open Plus = refl
symbol_open Minus = refl
symbol_open Star = refl
symbol_open Less = refl
symbol_open Colon = refl
symbol_open Equals = refl
symbol_open Assign = refl
symbol_open Open = refl
symbol_open Close = refl
symbol_open Comma = refl
symbol_open Semicolon = refl

pub apart_open : (bs : List ℕ) → Apart (40 ∷ bs)
apart_open bs (word w) = refl
apart_open bs (symbol y) = symbol_open y
apart_open bs (literal d) = refl
apart_open bs (identifier n) = refl
apart_open bs (binder m) = refl
apart_open bs (bound m) = refl

apart_mark : (gap mark text b : List ℕ) → Blanks gap → Spells mark (binder text) → Apart (gap ++ (mark ++ b))
apart_mark [] mark text b blanks spells = subst (λ l. Apart (l ++ b)) (sym spells.0) (apart_open ((42 ∷ 36 ∷ (text ++ codes "*)")) ++ b))
apart_mark (g ∷ gap) mark text b blanks spells = apart_blank g (gap ++ (mark ++ b)) blanks.0

pub marks : Marks
marks a old gap mark text b left ts us before blanks spells after =
    let k : ℕ = length a + length gap + length mark in
    let none : k + 0 ≡ length a + length gap + length mark = omega arith in
    joined 0 (length a) (a ++ (gap ++ (mark ++ b))) (gap ++ (mark ++ b)) left ts _
    (stays 0 a old (gap ++ (mark ++ b)) ts before (apart_mark gap mark text b blanks spells)) (
      record { blanks = gap; lexeme = mark; rest = b; text = refl; all_blank = blanks; place = refl; spells = spells; ends = never b },
      subst (λ q. Reads q b (map (moved k) us) left) none (moves k 0 b left us after),
    )
    (let e : length a + length (gap ++ (mark ++ b)) ≡ 0 + length (a ++ (gap ++ (mark ++ b))) = omega (arith, length-append a (gap ++ (mark ++ b))) in e)

-- ---- marks put in and replaced

pub inserts : Inserts
inserts text left ts us gap mark new reads blanks spells =
    let s = split 0 text left ts us reads in
    let e = reads_end 0 text ts s.mid s.first in
    let u = moves_back s.place s.mid left us s.second in
    let here : s.place ≡ length e.0 = omega (arith, s.same, ap length e.1, length-append e.0 s.mid) in
    record {
      front = e.0;
      rest = s.mid;
      later = u.tokens;
      whole = e.1;
      before = s.first;
      after = u.same ∙ ap (λ q. map (moved q) u.tokens) here;
      reads = marks e.0 s.mid gap mark new s.mid left ts u.tokens (subst (λ l. Reads 0 l ts s.mid) e.1 s.first) blanks spells u.reads;
    }

pub replaces : Replaces
replaces text left ts us place old mark new reads spells =
    let s = split 0 text left ts (record { place = place; tok = binder old } ∷ us) reads in
    let e = reads_end 0 text ts s.mid s.first in
    let f = s.second.0 in
    let u = moves_back (place + length f.lexeme) f.rest left us s.second.1 in
    let here : s.place ≡ length e.0 = omega (arith, s.same, ap length e.1, length-append e.0 s.mid) in
    let there : length e.0 + length f.blanks ≡ place = omega (arith, here, f.place) in
    record {
      front = e.0 ++ f.blanks;
      was = f.lexeme;
      rest = f.rest;
      later = u.tokens;
      whole = e.1 ∙ ap (λ l. e.0 ++ l) f.text ∙ sym (append_assoc e.0 f.blanks (f.lexeme ++ f.rest));
      stood = sym there ∙ sym (length-append e.0 f.blanks);
      spelled = f.spells;
      after = u.same;
      reads =
          subst (λ l. Reads 0 l (ts ++ (record { place = place; tok = binder new } ∷ map (moved (place + length mark)) u.tokens)) left) (sym (append_assoc e.0 f.blanks (mark ++ f.rest)))
          (subst (λ q. Reads 0 (e.0 ++ (f.blanks ++ (mark ++ f.rest))) (ts ++ (record { place = q; tok = binder new } ∷ map (moved (q + length mark)) u.tokens)) left) there
          (marks e.0 s.mid f.blanks mark new f.rest left ts u.tokens (subst (λ l. Reads 0 l ts s.mid) e.1 s.first) f.all_blank spells u.reads));
    }
