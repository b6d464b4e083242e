-- Where no token as long as can be stands, the longest run of its class is none. Assumes nothing.
use Rattle.std.proofs.Common.{◌≡◌, ℕ, ◌≤◌, Bool, true, false, eqb, List, [], ◌∷◌, ◌++◌, length, take, drop, sym, refl, ap, ◌∙◌, arith, take-append-drop}
use Rattle.std.specs.List.{prefix_len, AllByRecursion}
use Rattle.std.proofs.lemmas.Bool.{eqb-true, both_ways, or_left}
use Rattle.std.proofs.lemmas.Bool.Decides.{nat_tests}
use Rattle.tokens.specs.Bytes.{letter, digit, tail, operator}
use Rattle.tokens.specs.Tokens.{Tok, word, symbol, literal, identifier, binder, bound, Spells, Ends, Before, Named, spelling, sign}
use Rattle.tokens.specs.Reading.{NoToken}
use Rattle.tokens.specs.Refusing.{run, Unspelled, Unbegun, Unmarked, RunRefused}
use Rattle.tokens.specs.declared.token.Word.{Word}
use Rattle.tokens.specs.declared.token.Word.TheVariants.{Val, Fun, Let, In, End, If, Then, Else, Ref, Int, Div, Mod}
use Rattle.tokens.specs.declared.token.Symbol.{Symbol}
use Rattle.tokens.specs.declared.token.Symbol.TheVariants.{Bang, Plus, Minus, Star, Less, Colon, Equals, Assign, Open, Close, Comma, Semicolon}
use Rattle.tokens.proofs.Fronts.{leading_yes, front_stops}
use Rattle.tokens.proofs.Sound.{never}
use Rattle.tokens.proofs.Complete.{token_begins}

-- ---- the first byte of a token

abbrev head : List ℕ → ℕ
head [] = 0
head (b ∷ bs) = b

word_head : (w : Word) → letter (head (spelling w)) ≡ true
word_head Val = refl
word_head Fun = refl
word_head Let = refl
word_head In = refl
word_head End = refl
word_head If = refl
word_head Then = refl
word_head Else = refl
word_head Ref = refl
word_head Int = refl
word_head Div = refl
word_head Mod = refl

named_head : (s : List ℕ) → Named s → letter (head s) ≡ true
named_head [] h = absurd h
named_head (b ∷ s) h = h.0

literal_head : (s : List ℕ) → 1 ≤ length s → AllByRecursion (λ b. digit b ≡ true) s → digit (head s) ≡ true
literal_head [] some each = absurd (omega arith)
literal_head (b ∷ s) some each = each.0

-- no symbol begins with a letter or a digit
symbol_head : (y : Symbol) → (letter (head (sign y)) ≡ false) × (digit (head (sign y)) ≡ false)
symbol_head Bang = (refl, refl)
symbol_head Plus = (refl, refl)
symbol_head Minus = (refl, refl)
symbol_head Star = (refl, refl)
symbol_head Less = (refl, refl)
symbol_head Colon = (refl, refl)
symbol_head Equals = (refl, refl)
symbol_head Assign = (refl, refl)
symbol_head Open = (refl, refl)
symbol_head Close = (refl, refl)
symbol_head Comma = (refl, refl)
symbol_head Semicolon = (refl, refl)

-- ---- the classes

digit_letter : (b : ℕ) → digit b ≡ true → letter b ≡ false
digit_letter b h = grind (arith, nat_tests)

operator_letter : (b : ℕ) → operator b ≡ true → letter b ≡ false
operator_letter b h = grind (arith, nat_tests)

operator_digit : (b : ℕ) → operator b ≡ true → digit b ≡ false
operator_digit b h = grind (arith, nat_tests)

tail_digit : (b : ℕ) → tail b ≡ false → digit b ≡ false
tail_digit b h = grind (arith, nat_tests)

before_digit : (bs : List ℕ) → Before tail bs → Before digit bs
before_digit [] h = tt
before_digit (b ∷ bs) h = tail_digit b h

-- ---- where a run that is a token ends

word_ends : (t : Tok) (s rest : List ℕ) → letter (head s) ≡ true → Before tail rest → Spells s t → Ends t rest
word_ends (word w) s rest first stops h = stops
word_ends (symbol y) s rest first stops h = absurd (both_ways _ (ap (λ l. letter (head l)) h ∙ (symbol_head y).0) first)
word_ends (literal d) s rest first stops h = before_digit rest stops
word_ends (identifier n) s rest first stops h = stops
word_ends (binder m) s rest first stops h = never rest
word_ends (bound m) s rest first stops h = never rest

literal_ends : (t : Tok) (s rest : List ℕ) → digit (head s) ≡ true → Before digit rest → Spells s t → Ends t rest
literal_ends (word w) s rest first stops h =
    absurd (both_ways _ (digit_letter (head s) first) (ap (λ l. letter (head l)) h ∙ word_head w))
literal_ends (symbol y) s rest first stops h = absurd (both_ways _ (ap (λ l. digit (head l)) h ∙ (symbol_head y).1) first)
literal_ends (literal d) s rest first stops h = stops
literal_ends (identifier n) s rest first stops h = absurd (both_ways _ (digit_letter (head s) first) (named_head s h.1))
literal_ends (binder m) s rest first stops h = never rest
literal_ends (bound m) s rest first stops h = never rest

symbol_ends : (y : Symbol) (s rest : List ℕ) → operator (head s) ≡ true → Before operator rest → s ≡ sign y → Ends (symbol y) rest
symbol_ends Bang s rest first stops h = stops
symbol_ends Plus s rest first stops h = stops
symbol_ends Minus s rest first stops h = stops
symbol_ends Star s rest first stops h = stops
symbol_ends Less s rest first stops h = stops
symbol_ends Colon s rest first stops h = stops
symbol_ends Equals s rest first stops h = stops
symbol_ends Assign s rest first stops h = stops
symbol_ends Open s rest first stops h = absurd (both_ways _ (ap (λ l. operator (head l)) h) first)
symbol_ends Close s rest first stops h = never rest
symbol_ends Comma s rest first stops h = never rest
symbol_ends Semicolon s rest first stops h = never rest

operator_ends : (t : Tok) (s rest : List ℕ) → operator (head s) ≡ true → Before operator rest → Spells s t → Ends t rest
operator_ends (word w) s rest first stops h =
    absurd (both_ways _ (operator_letter (head s) first) (ap (λ l. letter (head l)) h ∙ word_head w))
operator_ends (symbol y) s rest first stops h = symbol_ends y s rest first stops h
operator_ends (literal d) s rest first stops h =
    absurd (both_ways _ (operator_digit (head s) first) (literal_head s h.1 h.3))
operator_ends (identifier n) s rest first stops h =
    absurd (both_ways _ (operator_letter (head s) first) (named_head s h.1))
operator_ends (binder m) s rest first stops h = never rest
operator_ends (bound m) s rest first stops h = never rest

run_head : (p : ℕ → Bool) (b : ℕ) (bs : List ℕ) → p b ≡ true → head (run p (b ∷ bs)) ≡ b
run_head p b bs h = ap (λ n. head (take n (b ∷ bs))) (leading_yes p b bs h)

-- ---- bytes that begin no token

module _ (b : ℕ) (bs : List ℕ) (none : NoToken (b ∷ bs)) where
  -- the run of a class is no token, since it would end where the run does
  whole : (p : ℕ → Bool) → ((t : Tok) → Spells (run p (b ∷ bs)) t → Ends t (drop (prefix_len p (b ∷ bs)) (b ∷ bs))) → Unspelled (run p (b ∷ bs))
  whole p ends t h = none t (run p (b ∷ bs)) (drop (prefix_len p (b ∷ bs)) (b ∷ bs)) (sym (take-append-drop (prefix_len p (b ∷ bs)) (b ∷ bs))) h (ends t h)

  no_words : letter b ≡ true → Unspelled (run tail (b ∷ bs))
  no_words h =
      whole tail (λ t. word_ends t _ _ (ap letter (run_head tail b bs (or_left (letter b) _ h)) ∙ h) (front_stops tail (b ∷ bs)))

  no_literals : digit b ≡ true → Unspelled (run digit (b ∷ bs))
  no_literals h = whole digit (λ t. literal_ends t _ _ (ap digit (run_head digit b bs h) ∙ h) (front_stops digit (b ∷ bs)))

  no_operators : operator b ≡ true → Unspelled (run operator (b ∷ bs))
  no_operators h =
      whole operator (λ t. operator_ends t _ _ (ap operator (run_head operator b bs h) ∙ h) (front_stops operator (b ∷ bs)))

  no_marks : Unmarked (b ∷ bs)
  no_marks m s rest e = ((λ h. none (binder m) s rest e h (never rest)), (λ h. none (bound m) s rest e h (never rest)))

  -- a symbol of one byte
  alone : (y : Symbol) → (b ∷ []) ≡ sign y → Ends (symbol y) bs → ⊥
  alone y is ends = none (symbol y) (b ∷ []) bs refl is ends

  no_symbol : (y : Symbol) → operator b ≡ false → (b ≡ 40 → ⊥) → b ≡ head (sign y) → ⊥
  no_symbol Bang no' opening e = both_ways _ no' (ap operator e)
  no_symbol Plus no' opening e = both_ways _ no' (ap operator e)
  no_symbol Minus no' opening e = both_ways _ no' (ap operator e)
  no_symbol Star no' opening e = both_ways _ no' (ap operator e)
  no_symbol Less no' opening e = both_ways _ no' (ap operator e)
  no_symbol Colon no' opening e = both_ways _ no' (ap operator e)
  no_symbol Equals no' opening e = both_ways _ no' (ap operator e)
  no_symbol Assign no' opening e = both_ways _ no' (ap operator e)
  no_symbol Open no' opening e = opening e
  no_symbol Close no' opening e = alone Close (ap (λ c. c ∷ []) e) (never bs)
  no_symbol Comma no' opening e = alone Comma (ap (λ c. c ∷ []) e) (never bs)
  no_symbol Semicolon no' opening e = alone Semicolon (ap (λ c. c ∷ []) e) (never bs)

  module _ (no_letter : letter b ≡ false) (no_digit : digit b ≡ false) (no-operator : operator b ≡ false) (no-open : b ≡ 40 → ⊥) where
    no_head : (t : Tok) (s : List ℕ) → b ≡ head s → Spells s t → ⊥
    no_head (word w) s e h = both_ways _ no_letter (ap letter e ∙ ap (λ l. letter (head l)) h ∙ word_head w)
    no_head (symbol y) s e h = no_symbol y no-operator no-open (e ∙ ap head h)
    no_head (literal d) s e h = both_ways _ no_digit (ap digit e ∙ literal_head s h.1 h.3)
    no_head (identifier n) s e h = both_ways _ no_letter (ap letter e ∙ named_head s h.1)
    no_head (binder m) s e h = no-open (e ∙ ap head h.0)
    no_head (bound m) s e h = no-open (e ∙ ap head h.0)

    no_others : Unbegun (b ∷ bs)
    no_others s rest e t h =
        let begins = token_begins t s h in
        no_head t s (ap head e ∙ ap (λ l. head (l ++ rest)) begins.text ∙ sym (ap head begins.text)) h

-- where `(` is refused a `*` follows
star_follows : (b : ℕ) (bs : List ℕ) → NoToken (b ∷ bs) → b ≡ 40 → (rest : List ℕ) × (bs ≡ 42 ∷ rest)
star_follows b [] none e = absurd (alone b [] none Open (ap (λ c. c ∷ []) e) tt)
star_follows b (c ∷ bs) none e =
    let star : (v : Bool) → eqb c 42 ≡ v → (rest : List ℕ) × ((c ∷ bs) ≡ 42 ∷ rest) =
    λ v. elim v as (λ v. eqb c 42 ≡ v → (rest : List ℕ) × ((c ∷ bs) ≡ 42 ∷ rest)) [ true ↦ λ h. (bs, ap (λ k. k ∷ bs) (eqb-true c 42 h)) | false ↦ λ h. absurd (alone b (c ∷ bs) none Open (ap (λ c. c ∷ []) e) h) ] in
    star (eqb c 42) refl

pub run_refused : RunRefused
run_refused b bs none =
    record {
      words = no_words b bs none;
      literals = no_literals b bs none;
      operators = no_operators b bs none;
      opens = λ e. (star_follows b bs none e, no_marks b bs none);
      closes = λ e. alone b bs none Close (ap (λ c. c ∷ []) e) (never bs);
      commas = λ e. alone b bs none Comma (ap (λ c. c ∷ []) e) (never bs);
      semicolons = λ e. alone b bs none Semicolon (ap (λ c. c ∷ []) e) (never bs);
      others = no_others b bs none;
    }
