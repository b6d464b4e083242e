-- What is found at the front of a text is a token by its rule, and as long as can be. Assumes nothing.
use Rattle.std.proofs.Common.{◌≡◌, ℕ, suc, ◌+◌, ◌≤◌, true, false, ◌&&◌, eqb, leb, ◌⊎◌, List, [], ◌∷◌, ◌++◌, length, take, drop, Some, None, codes, Option, sym, refl, ap, ◌∙◌, subst, inl, inr, ⊎_elim, append_assoc, arith, length-append, take-append-drop}
use Rattle.std.specs.List.{prefix_len}
use Rattle.std.specs.Str.{bytes_eq}
use Rattle.std.proofs.lemmas.Slice.Eq.{bytes_eq-Decides}
use Rattle.std.proofs.lemmas.List.{length-take-le}
use Rattle.std.proofs.lemmas.List.Sums.{prefix_len-le-length}
use Rattle.std.proofs.lemmas.Bool.{cond_both, eqb-true, leb-true, and_parts, or_left, both_ways}
use Rattle.tokens.specs.Bytes.{letter, digit, tail, operator, marking}
use Rattle.tokens.specs.Marks.{name, grouped, groups_of}
use Rattle.tokens.specs.Tokens.{Tok, symbol, literal, Spells, Ends, Before, Named, spelling, sign}
use Rattle.tokens.specs.Finding.{Sized, sized, reserved, first_word, word_of, operator_of, word_run, digit_run, operator_run, size_symbol, closes, binder_mark, bound_mark, mark, opened, token_at}
use Rattle.tokens.specs.declared.token.Word.{Word}
use Rattle.tokens.specs.declared.token.Word.TheVariants.{Val, Fun, Let, In, End, If, Then, Else, Ref, Int, Div, Mod}
use Rattle.tokens.specs.declared.token.Symbol.{Symbol}
use Rattle.tokens.specs.declared.token.Symbol.TheVariants.{Open, Close, Comma, Semicolon}
use Rattle.tokens.proofs.Fronts.{leading_yes, front_each, front_stops}
use Rattle.tokens.proofs.Groups.{grouped_sound}

-- the token stands at the front of bs, and has that many bytes
pub record Stands (bs : List ℕ) (s : Sized) : Type 0 where
  pub lexeme : List ℕ
  pub rest : List ℕ
  pub text : bs ≡ lexeme ++ rest
  pub size : s.size ≡ length lexeme
  pub spells : Spells lexeme s.tok
  pub ends : Ends s.tok rest

abbrev pub Good : List ℕ → Option Sized → Type 0
Good bs None = Unit {0}
Good bs (Some s) = Stands bs s

-- ---- words

-- the word is one of these
abbrev Has : Word → List Word → Type 0
Has v [] = ⊥
Has v (w ∷ ws) = (v ≡ w) ⊎ Has v ws

every_word : (w : Word) → Has w reserved
every_word Val = inl refl
every_word Fun = inr (inl refl)
every_word Let = inr (inr (inl refl))
every_word In = inr (inr (inr (inl refl)))
every_word End = inr (inr (inr (inr (inl refl))))
every_word If = inr (inr (inr (inr (inr (inl refl)))))
every_word Then = inr (inr (inr (inr (inr (inr (inl refl))))))
every_word Else = inr (inr (inr (inr (inr (inr (inr (inl refl)))))))
every_word Ref = inr (inr (inr (inr (inr (inr (inr (inr (inl refl))))))))
every_word Int = inr (inr (inr (inr (inr (inr (inr (inr (inr (inl refl)))))))))
every_word Div = inr (inr (inr (inr (inr (inr (inr (inr (inr (inr (inl refl))))))))))
every_word Mod = inr (inr (inr (inr (inr (inr (inr (inr (inr (inr (inr (inl refl)))))))))))

-- where no word is spelled so, it is a name
word_spells : (ws : List Word) (s : List ℕ) → (((w : Word) → s ≡ spelling w → ⊥) → Named s) → ((w : Word) → s ≡ spelling w → Has w ws) → Spells s (first_word ws s)
word_spells [] s named found = (refl, named found)
word_spells (w ∷ ws) s named found =
    cond_both (bytes_eq s (spelling w)) _ _ (Spells s)
    (λ yes'. (bytes_eq-Decides s (spelling w)).0 yes')
    (λ no'. word_spells ws s named (λ v e. ⊎_elim (λ same. absurd (both_ways _ no' ((bytes_eq-Decides s (spelling w)).1 (e ∙ ap spelling same)))) (λ later. later) (found v e)))

word_continues : (ws : List Word) (s rest : List ℕ) → Before tail rest → Ends (first_word ws s) rest
word_continues [] s rest h = h
word_continues (w ∷ ws) s rest h = cond_both (bytes_eq s (spelling w)) _ _ (λ t. Ends t rest) (λ _. h) (λ _. word_continues ws s rest h)

-- ---- runs

-- the first n bytes
front : (bs : List ℕ) (n : ℕ) (t : Tok) → n ≤ length bs → Spells (take n bs) t → Ends t (drop n bs) → Good bs (sized n t)
front bs n t within spells ends =
    record { lexeme = take n bs; rest = drop n bs; text = sym (take-append-drop n bs); size = sym (length-take-le n bs within); spells = spells; ends = ends }

word_good : (b : ℕ) (bs : List ℕ) → letter b ≡ true → Good (b ∷ bs) (word_run (prefix_len tail (b ∷ bs)) (b ∷ bs))
word_good b bs is-letter =
    let n : ℕ = prefix_len tail (b ∷ bs) in
    let more : prefix_len tail (b ∷ bs) ≡ suc (prefix_len tail bs) = leading_yes tail b bs (or_left (letter b) _ is-letter) in
    let within = prefix_len-le-length tail (b ∷ bs) in
    cond_both (leb n 16) _ _ (Good (b ∷ bs))
    (λ short. front (b ∷ bs) n (word_of (take n (b ∷ bs))) within
    (word_spells reserved (take n (b ∷ bs)) (subst (λ k. leb k 16 ≡ true → k ≤ length (b ∷ bs) → ((w : Word) → take k (b ∷ bs) ≡ spelling w → ⊥) → Named (take k (b ∷ bs))) (sym more) (λ le inside other. (is-letter, front_each tail bs, subst (λ k. k ≤ 16) (sym (length-take-le (suc (prefix_len tail bs)) (b ∷ bs) inside)) (leb-true _ 16 le), other)) short within) (λ w _. every_word w))
    (word_continues reserved (take n (b ∷ bs)) (drop n (b ∷ bs)) (front_stops tail (b ∷ bs))))
    (λ _. tt)

digit_good : (b : ℕ) (bs : List ℕ) → digit b ≡ true → Good (b ∷ bs) (digit_run (prefix_len digit (b ∷ bs)) (b ∷ bs))
digit_good b bs is_digit =
    let n : ℕ = prefix_len digit (b ∷ bs) in
    let within = prefix_len-le-length digit (b ∷ bs) in
    let long = length-take-le n (b ∷ bs) within in
    cond_both (leb n 9) _ _ (Good (b ∷ bs))
    (λ short. front (b ∷ bs) n (literal (take n (b ∷ bs))) within (refl, omega (arith, long, leading_yes digit b bs is_digit), omega (arith, long, leb-true n 9 short), front_each digit (b ∷ bs)) (front_stops digit (b ∷ bs)))
    (λ _. tt)

-- ---- operators

abbrev Operates : List ℕ → Option Symbol → Type 0
Operates s None = Unit {0}
Operates s (Some y) = (s ≡ sign y) × ((rest : List ℕ) → Before operator rest → Ends (symbol y) rest)

one : (b c : ℕ) → eqb b c ≡ true → (b ∷ []) ≡ (c ∷ [])
one b c h = ap (λ k. k ∷ []) (eqb-true b c h)

operates : (s : List ℕ) → Operates s (operator_of s)
operates [] = tt
operates (b ∷ []) =
    cond_both (eqb b 33) _ _ (Operates (b ∷ [])) (λ h. (one b 33 h, λ _ e. e))
    (λ _. cond_both (eqb b 43) _ _ (Operates (b ∷ [])) (λ h. (one b 43 h, λ _ e. e))
    (λ _. cond_both (eqb b 45) _ _ (Operates (b ∷ [])) (λ h. (one b 45 h, λ _ e. e))
    (λ _. cond_both (eqb b 42) _ _ (Operates (b ∷ [])) (λ h. (one b 42 h, λ _ e. e))
    (λ _. cond_both (eqb b 60) _ _ (Operates (b ∷ [])) (λ h. (one b 60 h, λ _ e. e))
    (λ _. cond_both (eqb b 58) _ _ (Operates (b ∷ [])) (λ h. (one b 58 h, λ _ e. e))
    (λ _. cond_both (eqb b 61) _ _ (Operates (b ∷ [])) (λ h. (one b 61 h, λ _ e. e)) (λ _. tt)))))))
operates (b ∷ c ∷ []) =
    cond_both (eqb b 58 && eqb c 61) _ _ (Operates (b ∷ c ∷ []))
    (λ h. let both = and_parts (eqb b 58) (eqb c 61) h in ((λ i. eqb-true b 58 both.0 i ∷ eqb-true c 61 both.1 i ∷ []), λ _ e. e))
    (λ _. tt)
operates (b ∷ c ∷ d ∷ s) = tt

operator_sized : (bs : List ℕ) (n : ℕ) (o : Option Symbol) → n ≤ length bs → Before operator (drop n bs) → Operates (take n bs) o → Good bs (size_symbol n o)
operator_sized bs n None within stops h = tt
operator_sized bs n (Some y) within stops h = front bs n (symbol y) within h.0 (h.1 (drop n bs) stops)

operator_good : (bs : List ℕ) → Good bs (operator_run (prefix_len operator bs) bs)
operator_good bs =
    operator_sized bs (prefix_len operator bs) (operator_of (take (prefix_len operator bs) bs)) (prefix_len-le-length operator bs) (front_stops operator bs) (operates (take (prefix_len operator bs) bs))

-- ---- marks

pub never : (bs : List ℕ) → Before (λ _. false) bs
never [] = tt
never (b ∷ bs) = refl

closing : (bs : List ℕ) → closes bs ≡ true → bs ≡ codes "*)" ++ drop 2 bs
closing [] h = absurd (both_ways false refl h)
closing (a ∷ []) h = absurd (both_ways false refl h)
closing (a ∷ b ∷ bs) h = let both = and_parts (eqb a 42) (eqb b 41) h in (λ i. eqb-true a 42 both.0 i ∷ eqb-true b 41 both.1 i ∷ bs)

-- three bytes, the text of a mark, `*)`, and the rest
mark_text : (a b c : ℕ) (bs : List ℕ) (n : ℕ) → closes (drop n bs) ≡ true → a ∷ b ∷ c ∷ bs ≡ (a ∷ b ∷ c ∷ (take n bs ++ codes "*)")) ++ drop 2 (drop n bs)
mark_text a b c bs n closed =
    ap (λ l. a ∷ b ∷ c ∷ l)
    (sym (take-append-drop n bs) ∙ ap (λ l. take n bs ++ l) (closing (drop n bs) closed) ∙ sym (append_assoc (take n bs) (codes "*)") (drop 2 (drop n bs))))

mark_size : (a b c : ℕ) (bs : List ℕ) (n : ℕ) → n ≤ length bs → n + 5 ≡ length (a ∷ b ∷ c ∷ (take n bs ++ codes "*)"))
mark_size a b c bs n within = omega (arith, length-append (take n bs) (codes "*)"), length-take-le n bs within)

binder_good : (a b c : ℕ) (bs : List ℕ) → (a ∷ b ∷ c ∷ []) ≡ codes "(*$" → Good (a ∷ b ∷ c ∷ bs) (binder_mark (prefix_len marking bs) bs)
binder_good a b c bs opening =
    let n : ℕ = prefix_len marking bs in
    cond_both (closes (drop n bs) && grouped (take n bs)) _ _ (Good (a ∷ b ∷ c ∷ bs))
    (λ h. let both = and_parts (closes (drop n bs)) (grouped (take n bs)) h in record {
      lexeme = a ∷ b ∷ c ∷ (take n bs ++ codes "*)");
      rest = drop 2 (drop n bs);
      text = mark_text a b c bs n both.0;
      size = mark_size a b c bs n (prefix_len-le-length marking bs);
      spells = (ap (λ o. o ++ (take n bs ++ codes "*)")) opening, (groups_of (take n bs), grouped_sound (take n bs) both.1));
      ends = never (drop 2 (drop n bs));
    })
    (λ _. tt)

bound_good : (a b c : ℕ) (bs : List ℕ) → (a ∷ b ∷ c ∷ []) ≡ codes "(*!" → Good (a ∷ b ∷ c ∷ bs) (bound_mark (prefix_len letter bs) bs)
bound_good a b c bs opening =
    let n : ℕ = prefix_len letter bs in
    cond_both (closes (drop n bs) && name (take n bs)) _ _ (Good (a ∷ b ∷ c ∷ bs))
    (λ h. let both = and_parts (closes (drop n bs)) (name (take n bs)) h in record {
      lexeme = a ∷ b ∷ c ∷ (take n bs ++ codes "*)");
      rest = drop 2 (drop n bs);
      text = mark_text a b c bs n both.0;
      size = mark_size a b c bs n (prefix_len-le-length letter bs);
      spells = (ap (λ o. o ++ (take n bs ++ codes "*)")) opening, both.1);
      ends = never (drop 2 (drop n bs));
    })
    (λ _. tt)

-- a symbol of one byte
sign_good : (b c : ℕ) (bs : List ℕ) (y : Symbol) → b ≡ c → (c ∷ []) ≡ sign y → Ends (symbol y) bs → Good (b ∷ bs) (sized 1 (symbol y))
sign_good b c bs y same is ends = record { lexeme = b ∷ []; rest = bs; text = refl; size = refl; spells = ap (λ k. k ∷ []) same ∙ is; ends = ends }

mark_good : (a b : ℕ) (bs : List ℕ) → a ≡ 40 → b ≡ 42 → Good (a ∷ b ∷ bs) (mark bs)
mark_good a b [] is star = tt
mark_good a b (c ∷ bs) is star =
    cond_both (eqb c 36) _ _ (Good (a ∷ b ∷ c ∷ bs))
    (λ h. binder_good a b c bs (λ i. is i ∷ star i ∷ eqb-true c 36 h i ∷ []))
    (λ _. cond_both (eqb c 33) _ _ (Good (a ∷ b ∷ c ∷ bs))
    (λ h. bound_good a b c bs (λ i. is i ∷ star i ∷ eqb-true c 33 h i ∷ []))
    (λ _. tt))

open_good : (a : ℕ) (bs : List ℕ) → a ≡ 40 → Good (a ∷ bs) (opened bs)
open_good a [] is = sign_good a 40 [] Open is refl tt
open_good a (b ∷ bs) is =
    cond_both (eqb b 42) _ _ (Good (a ∷ b ∷ bs)) (λ h. mark_good a b bs is (eqb-true b 42 h)) (λ h. sign_good a 40 (b ∷ bs) Open is refl h)

pub token_good : (bs : List ℕ) → Good bs (token_at bs)
token_good [] = tt
token_good (b ∷ bs) =
    cond_both (letter b) _ _ (Good (b ∷ bs)) (λ h. word_good b bs h)
    (λ _. cond_both (digit b) _ _ (Good (b ∷ bs)) (λ h. digit_good b bs h)
    (λ _. cond_both (operator b) _ _ (Good (b ∷ bs)) (λ _. operator_good (b ∷ bs))
    (λ _. cond_both (eqb b 40) _ _ (Good (b ∷ bs)) (λ h. open_good b bs (eqb-true b 40 h))
    (λ _. cond_both (eqb b 41) _ _ (Good (b ∷ bs)) (λ h. sign_good b 41 bs Close (eqb-true b 41 h) refl (never bs))
    (λ _. cond_both (eqb b 44) _ _ (Good (b ∷ bs)) (λ h. sign_good b 44 bs Comma (eqb-true b 44 h) refl (never bs))
    (λ _. cond_both (eqb b 59) _ _ (Good (b ∷ bs)) (λ h. sign_good b 59 bs Semicolon (eqb-true b 59 h) refl (never bs))
    (λ _. tt)))))))

pub token_sound : (bs : List ℕ) (s : Sized) → token_at bs ≡ Some s → Stands bs s
token_sound bs s e = subst (Good bs) e (token_good bs)
