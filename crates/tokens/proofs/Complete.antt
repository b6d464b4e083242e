-- Each token that stands at the front of a text is found there. Assumes nothing.
use Rattle.std.proofs.Common.{◌≡◌, ℕ, ◌+◌, ◌≤◌, Bool, true, false, cond, ◌&&◌, eqb, List, [], ◌∷◌, ◌++◌, length, take, drop, None, codes, sym, refl, ap, ◌∙◌, subst, append_assoc, arith, length-append}
use Rattle.std.specs.List.{prefix_len, AllByRecursion}
use Rattle.std.specs.Str.{bytes_eq}
use Rattle.std.proofs.lemmas.Slice.Eq.{bytes_eq-Decides}
use Rattle.std.proofs.lemmas.List.{take_at, drop_at}
use Rattle.std.proofs.lemmas.Bool.{cond-true, cond-false, cond_both, le-leb, and_from, or_left}
use Rattle.std.proofs.lemmas.Bool.Decides.{nat_tests}
use Rattle.tokens.specs.Bytes.{blank, letter, digit, tail, operator, marking}
use Rattle.tokens.specs.Marks.{name, grouped, Grouped}
use Rattle.tokens.specs.Tokens.{Tok, word, symbol, literal, identifier, binder, bound, Spells, Ends, Before, Named, spelling, sign}
use Rattle.tokens.specs.Finding.{sized, reserved, first_word, word_of, operator_of, word_run, digit_run, operator_run, size_symbol, closes, binder_mark, bound_mark, token_at}
use Rattle.tokens.specs.declared.token.Word.{Word}
use Rattle.tokens.specs.declared.token.Word.TheVariants.{Val, Fun, Let, In, End, If, Then, Else, Ref, Int, Div, Mod}
use Rattle.tokens.specs.declared.token.Symbol.{Symbol}
use Rattle.tokens.specs.declared.token.Symbol.TheVariants.{Bang, Plus, Minus, Star, Less, Colon, Equals, Assign, Open, Close, Comma, Semicolon}
use Rattle.tokens.proofs.Fronts.{leading_front}
use Rattle.tokens.proofs.Groups.{grouped_complete, grouped_marking, name_letters}

-- ---- words and identifiers

word_at : (b : ℕ) (s rest : List ℕ) → letter b ≡ true → AllByRecursion (λ c. tail c ≡ true) s → length (b ∷ s) ≤ 16 → Before tail rest → token_at ((b ∷ s) ++ rest) ≡ sized (length (b ∷ s)) (word_of (b ∷ s))
word_at b s rest is-letter each short stops =
    cond-true (letter b) _ _ is-letter
    ∙ ap (λ n. word_run n ((b ∷ s) ++ rest)) (leading_front tail (b ∷ s) rest (or_left (letter b) _ is-letter, each) stops)
    ∙ cond-true _ _ _ (le-leb (length (b ∷ s)) 16 short)
    ∙ ap (λ l. sized (length (b ∷ s)) (word_of l)) (take_at (b ∷ s) rest (length (b ∷ s)) refl)

no_word : (ws : List Word) (s : List ℕ) → ((w : Word) → s ≡ spelling w → ⊥) → first_word ws s ≡ identifier s
no_word [] s other = refl
no_word (w ∷ ws) s other =
    cond_both (bytes_eq s (spelling w)) _ _ (λ t. t ≡ identifier s) (λ yes'. absurd (other w ((bytes_eq-Decides s (spelling w)).0 yes'))) (λ _. no_word ws s other)

named_at : (s rest : List ℕ) → Named s → Before tail rest → token_at (s ++ rest) ≡ sized (length s) (identifier s)
named_at [] rest h stops = absurd h
named_at (b ∷ s) rest h stops =
    word_at b s rest h.0 h.1 h.2 stops ∙ ap (λ t. sized (length (b ∷ s)) t) (no_word reserved (b ∷ s) h.3)

reserved_at : (w : Word) (rest : List ℕ) → Before tail rest → token_at (spelling w ++ rest) ≡ sized (length (spelling w)) (word w)
reserved_at Val rest h = word_at 118 (codes "al") rest refl (refl, (refl, tt)) (omega arith) h
reserved_at Fun rest h = word_at 102 (codes "un") rest refl (refl, (refl, tt)) (omega arith) h
reserved_at Let rest h = word_at 108 (codes "et") rest refl (refl, (refl, tt)) (omega arith) h
reserved_at In rest h = word_at 105 (codes "n") rest refl (refl, tt) (omega arith) h
reserved_at End rest h = word_at 101 (codes "nd") rest refl (refl, (refl, tt)) (omega arith) h
reserved_at If rest h = word_at 105 (codes "f") rest refl (refl, tt) (omega arith) h
reserved_at Then rest h = word_at 116 (codes "hen") rest refl (refl, (refl, (refl, tt))) (omega arith) h
reserved_at Else rest h = word_at 101 (codes "lse") rest refl (refl, (refl, (refl, tt))) (omega arith) h
reserved_at Ref rest h = word_at 114 (codes "ef") rest refl (refl, (refl, tt)) (omega arith) h
reserved_at Int rest h = word_at 105 (codes "nt") rest refl (refl, (refl, tt)) (omega arith) h
reserved_at Div rest h = word_at 100 (codes "iv") rest refl (refl, (refl, tt)) (omega arith) h
reserved_at Mod rest h = word_at 109 (codes "od") rest refl (refl, (refl, tt)) (omega arith) h

-- ---- literals

no_letter : (b : ℕ) → digit b ≡ true → letter b ≡ false
no_letter b h = grind (arith, nat_tests)

literal_at : (s rest : List ℕ) → 1 ≤ length s → length s ≤ 9 → AllByRecursion (λ b. digit b ≡ true) s → Before digit rest → token_at (s ++ rest) ≡ sized (length s) (literal s)
literal_at [] rest some short each stops = absurd (omega arith)
literal_at (b ∷ s) rest some short each stops =
    cond-false (letter b) _ _ (no_letter b each.0)
    ∙ cond-true (digit b) _ _ each.0
    ∙ ap (λ n. digit_run n ((b ∷ s) ++ rest)) (leading_front digit (b ∷ s) rest each stops)
    ∙ cond-true _ _ _ (le-leb (length (b ∷ s)) 9 short)
    ∙ ap (λ l. sized (length (b ∷ s)) (literal l)) (take_at (b ∷ s) rest (length (b ∷ s)) refl)

-- ---- symbols

-- a run of operator characters
run_at : (s rest : List ℕ) → AllByRecursion (λ b. operator b ≡ true) s → Before operator rest → operator_run (prefix_len operator (s ++ rest)) (s ++ rest) ≡ size_symbol (length s) (operator_of s)
run_at s rest each stops =
    ap (λ n. operator_run n (s ++ rest)) (leading_front operator s rest each stops)
    ∙ ap (λ l. size_symbol (length s) (operator_of l)) (take_at s rest (length s) refl)

symbol_at : (y : Symbol) (rest : List ℕ) → Ends (symbol y) rest → token_at (sign y ++ rest) ≡ sized (length (sign y)) (symbol y)
symbol_at Bang rest h = run_at (codes "!") rest (refl, tt) h
symbol_at Plus rest h = run_at (codes "+") rest (refl, tt) h
symbol_at Minus rest h = run_at (codes "-") rest (refl, tt) h
symbol_at Star rest h = run_at (codes "*") rest (refl, tt) h
symbol_at Less rest h = run_at (codes "<") rest (refl, tt) h
symbol_at Colon rest h = run_at (codes ":") rest (refl, tt) h
symbol_at Equals rest h = run_at (codes "=") rest (refl, tt) h
symbol_at Assign rest h = run_at (codes ":=") rest (refl, (refl, tt)) h
symbol_at Open [] h = refl
symbol_at Open (b ∷ rest) h = cond-false (eqb b 42) _ _ h
symbol_at Close rest h = refl
symbol_at Comma rest h = refl
symbol_at Semicolon rest h = refl

-- ---- marks

-- the text of a mark, with `*)` behind it
mark_front : (test : ℕ → Bool) (m rest : List ℕ) → AllByRecursion (λ b. test b ≡ true) m → test 42 ≡ false → prefix_len test ((m ++ codes "*)") ++ rest) ≡ length m
mark_front test m rest each star =
    ap (prefix_len test) (append_assoc m (codes "*)") rest) ∙ leading_front test m (codes "*)" ++ rest) each star

mark_take : (m rest : List ℕ) → take (length m) ((m ++ codes "*)") ++ rest) ≡ m
mark_take m rest = ap (take (length m)) (append_assoc m (codes "*)") rest) ∙ take_at m (codes "*)" ++ rest) (length m) refl

mark_drop : (m rest : List ℕ) → drop (length m) ((m ++ codes "*)") ++ rest) ≡ codes "*)" ++ rest
mark_drop m rest = ap (drop (length m)) (append_assoc m (codes "*)") rest) ∙ drop_at m (codes "*)" ++ rest) (length m) refl

mark_length : (a b c : ℕ) (m : List ℕ) → length m + 5 ≡ length (a ∷ b ∷ c ∷ (m ++ codes "*)"))
mark_length a b c m = omega (arith, length-append m (codes "*)"))

module _ (test : List ℕ → Bool) (make : List ℕ → Tok) (m rest : List ℕ) (good : test m ≡ true) where
  mark_at : cond (closes (drop (length m) ((m ++ codes "*)") ++ rest)) && test (take (length m) ((m ++ codes "*)") ++ rest))) (sized (length m + 5) (make (take (length m) ((m ++ codes "*)") ++ rest)))) None ≡ sized (length m + 5) (make m)
  mark_at =
      cond-true _ _ _ (and_from (closes (drop (length m) ((m ++ codes "*)") ++ rest))) _ (ap closes (mark_drop m rest)) (ap test (mark_take m rest) ∙ good))
      ∙ ap (λ l. sized (length m + 5) (make l)) (mark_take m rest)

binder_at : (m rest : List ℕ) (groups : List (List (List ℕ))) → Grouped m groups → token_at ((codes "(*$" ++ (m ++ codes "*)")) ++ rest) ≡ sized (length (codes "(*$" ++ (m ++ codes "*)"))) (binder m)
binder_at m rest groups h =
    ap (λ n. binder_mark n ((m ++ codes "*)") ++ rest)) (mark_front marking m rest (grouped_marking m groups h) refl)
    ∙ mark_at grouped binder m rest (grouped_complete m groups h)
    ∙ ap (λ n. sized n (binder m)) (mark_length 40 42 36 m)

bound_at : (m rest : List ℕ) → name m ≡ true → token_at ((codes "(*!" ++ (m ++ codes "*)")) ++ rest) ≡ sized (length (codes "(*!" ++ (m ++ codes "*)"))) (bound m)
bound_at m rest h =
    ap (λ n. bound_mark n ((m ++ codes "*)") ++ rest)) (mark_front letter m rest (name_letters m h) refl)
    ∙ mark_at name bound m rest h
    ∙ ap (λ n. sized n (bound m)) (mark_length 40 42 33 m)

-- ---- all together

pub token_complete : (t : Tok) (s rest : List ℕ) → Spells s t → Ends t rest → token_at (s ++ rest) ≡ sized (length s) t
token_complete (word w) s rest h e = subst (λ l. token_at (l ++ rest) ≡ sized (length l) (word w)) (sym h) (reserved_at w rest e)
token_complete (symbol y) s rest h e = subst (λ l. token_at (l ++ rest) ≡ sized (length l) (symbol y)) (sym h) (symbol_at y rest e)
token_complete (literal d) s rest h e = literal_at s rest h.1 h.2 h.3 e ∙ ap (λ l. sized (length s) (literal l)) h.0
token_complete (identifier n) s rest h e = named_at s rest h.1 e ∙ ap (λ l. sized (length s) (identifier l)) h.0
token_complete (binder m) s rest h e = subst (λ l. token_at (l ++ rest) ≡ sized (length l) (binder m)) (sym h.0) (binder_at m rest h.1.0 h.1.1)
token_complete (bound m) s rest h e = subst (λ l. token_at (l ++ rest) ≡ sized (length l) (bound m)) (sym h.0) (bound_at m rest h.1)

-- a token begins with a byte that is no blank
no_blank_letter : (b : ℕ) → letter b ≡ true → blank b ≡ false
no_blank_letter b h = grind (arith, nat_tests)

no_blank_digit : (b : ℕ) → digit b ≡ true → blank b ≡ false
no_blank_digit b h = grind (arith, nat_tests)

-- there is a first byte, and it is no blank
pub record Begins (s : List ℕ) : Type 0 where
  pub first : ℕ
  pub more : List ℕ
  pub text : s ≡ first ∷ more
  pub solid : blank first ≡ false

begin : (b : ℕ) (s : List ℕ) → blank b ≡ false → Begins (b ∷ s)
begin b s h = record { first = b; more = s; text = refl; solid = h }

begins_word : (w : Word) → Begins (spelling w)
begins_word Val = begin _ _ refl
begins_word Fun = begin _ _ refl
begins_word Let = begin _ _ refl
begins_word In = begin _ _ refl
begins_word End = begin _ _ refl
begins_word If = begin _ _ refl
begins_word Then = begin _ _ refl
begins_word Else = begin _ _ refl
begins_word Ref = begin _ _ refl
begins_word Int = begin _ _ refl
begins_word Div = begin _ _ refl
begins_word Mod = begin _ _ refl

begins_symbol : (y : Symbol) → Begins (sign y)
begins_symbol Bang = begin _ _ refl
begins_symbol Plus = begin _ _ refl
begins_symbol Minus = begin _ _ refl
begins_symbol Star = begin _ _ refl
begins_symbol Less = begin _ _ refl
begins_symbol Colon = begin _ _ refl
begins_symbol Equals = begin _ _ refl
begins_symbol Assign = begin _ _ refl
begins_symbol Open = begin _ _ refl
begins_symbol Close = begin _ _ refl
begins_symbol Comma = begin _ _ refl
begins_symbol Semicolon = begin _ _ refl

begins_literal : (s : List ℕ) → 1 ≤ length s → AllByRecursion (λ b. digit b ≡ true) s → Begins s
begins_literal [] some each = absurd (omega arith)
begins_literal (b ∷ s) some each = begin b s (no_blank_digit b each.0)

begins_name : (s : List ℕ) → Named s → Begins s
begins_name [] h = absurd h
begins_name (b ∷ s) h = begin b s (no_blank_letter b h.0)

pub token_begins : (t : Tok) (s : List ℕ) → Spells s t → Begins s
token_begins (word w) s h = subst Begins (sym h) (begins_word w)
token_begins (symbol y) s h = subst Begins (sym h) (begins_symbol y)
token_begins (literal d) s h = begins_literal s h.1 h.3
token_begins (identifier n) s h = begins_name s h.1
token_begins (binder m) s h = subst Begins (sym h.0) (begin 40 _ refl)
token_begins (bound m) s h = subst Begins (sym h.0) (begin 40 _ refl)
