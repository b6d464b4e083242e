-- What the reading of a declaration says of a whole text. Assumes nothing.
use Rattle.std.proofs.Common.{◌≡◌, ℕ, ◌⊎◌, List, [], ◌∷◌, map, None, Some, Ok, Err, Result, sym, refl, ap, ◌∙◌, subst, inl, inr, arith, Bor, MatchResult}
use Rattle.std.specs.List.{slice_get}
use Rattle.tokens.specs.Meanings.{placed}
use Rattle.refusals.specs.declared.refusal.Refusal.{Refusal}
use Rattle.refusals.specs.declared.refusal.Refusal.TheVariants as cause
use Rattle.tokens.specs.declared.token.Token.{Token}
use Rattle.tokens.specs.Tokens.{Placed}
use Rattle.tokens.specs.Lexer.{Lexed, read, no_token, too_long}
use Rattle.tokens.specs.Answers.{refusal_of as lex_refusal}
use Rattle.syntax.specs.declared.tree.Dec.{Dec}
use Rattle.syntax.specs.Meanings.{declaration_of}
use Rattle.syntax.specs.Grammar.{Declares}
use Rattle.goals.specs.Outcomes.{tree, misplaced_at, too_deep_at}
use Rattle.goals.specs.Machine.{fate}
use Rattle.goals.proofs.Verdicts.{misplaced_here, too_deep_here, at_most, answered}
use Rattle.goals.proofs.Single.{single}
use Rattle.pieces.specs.declared.fault.Fault.{Fault}
use Rattle.pieces.specs.declared.fault.Fault.TheVariants.{Misplaced, TooDeep, Memory}
use Rattle.pieces.specs.Faults.{refusal_of}
use Rattle.pieces.specs.Seen.{seen}
use Rattle.grammar.specs.Declaring.{ReadsDec}
use Rattle.grammar.specs.Readings.{Reading, declaration, refused, reading_of, Parses, ParseRefused, ReadsFrom}

pub all_seen : (ts : List Token) → None ≡ slice_get ts 0 → map placed ts ≡ []
all_seen [] none = refl
all_seen (t ∷ ts) none = cc

pub front_seen : (ts : List Token) (t : Token) → Some t ≡ slice_get ts 0 → (more : List Placed) × (map placed ts ≡ placed t ∷ more)
front_seen [] t first = cc
front_seen (u ∷ ts) t first = (map placed ts, cc)

pub parsed_all : (end : ℕ) (ts : List Placed) (x : Dec × Bor (List Token)) → ReadsDec end ts (Ok x) → seen x.1 ≡ [] → Parses end ts (declaration (declaration_of x.0))
parsed_all end ts x reads all =
    let declares = subst (λ l. Declares (declaration_of x.0) ts l) all reads.0 in
    (tree (declaration_of x.0), ((declares, at_most end (declaration_of x.0) ts declares (reads.1 [] refl (omega arith) ∙ ap (fate end []) all)), refl))

pub parsed_front : (end : ℕ) (ts : List Placed) (x : Dec × Bor (List Token)) (t : Placed) (more : List Placed) → ReadsDec end ts (Ok x) → seen x.1 ≡ t ∷ more → ParseRefused end ts (cause.Misplaced t.place)
parsed_front end ts x t more reads front =
    inr (misplaced_at t.place, (misplaced_here end t.place ts (reads.1 [] refl (omega arith) ∙ ap (fate end []) front), refl))

pub parse_refused : (end : ℕ) (ts : List Placed) (e : Fault) → ReadsDec end ts (Err e) → ParseRefused end ts (refusal_of e)
parse_refused end ts (Misplaced p) failed = inr (misplaced_at p, (misplaced_here end p ts (failed [] refl (omega arith)), refl))
parse_refused end ts (TooDeep p) failed = inr (too_deep_at p, (too_deep_here end p ts (failed [] refl (omega arith)), refl))
parse_refused end ts Memory failed = inl refl

pub some_parse : (end : ℕ) (ts : List Placed) → (x : Reading) × Parses end ts x
some_parse end ts = let (o, comes) = answered end ts in (reading_of o, (o, (comes, refl)))

pub only_parse : (end : ℕ) (ts : List Placed) (x y : Reading) → Parses end ts x → Parses end ts y → x ≡ y
only_parse end ts x y (o, a) (q, b) = a.1 ∙ ap reading_of (single end ts o q a.0 b.0) ∙ sym b.1

pub some_reading : (end : ℕ) (l : Lexed) → (x : Reading) × ReadsFrom end l x
some_reading end (read ts) = some_parse end ts
some_reading end (no_token p) = (refused (cause.NoToken p), refl)
some_reading end too_long = (refused cause.TooLong, refl)

pub only_reading : (end : ℕ) (l : Lexed) (x y : Reading) → ReadsFrom end l x → ReadsFrom end l y → x ≡ y
only_reading end (read ts) x y a b = only_parse end ts x y a b
only_reading end (no_token p) x y a b = a ∙ sym b
only_reading end too_long x y a b = a ∙ sym b

-- a text without tokens is refused as the lexer says
pub lex_refused : (end : ℕ) (l : Lexed) (e : Refusal) → (e ≡ cause.Memory) ⊎ (lex_refusal l ≡ Some e) → (e ≡ cause.Memory) ⊎ ReadsFrom end l (refused e)
lex_refused end l e (inl memory) = inl memory
lex_refused end (read ts) e (inr told) = let z : ◌≡◌ {A = ℕ} 0 1 = cc in absurd (omega arith)
lex_refused end (no_token p) e (inr told) = inr (cc)
lex_refused end too_long e (inr told) = inr (cc)

-- what the tokens of a text parse to, the text reads to
pub text_read : (end : ℕ) (ts : List Placed) (l : Lexed) (r : Result Dec Refusal) → l ≡ read ts → MatchResult r (λ d. Parses end ts (declaration (declaration_of d))) (ParseRefused end ts) → MatchResult r (λ d. ReadsFrom end l (declaration (declaration_of d))) (λ e. (e ≡ cause.Memory) ⊎ ReadsFrom end l (refused e))
text_read end ts l r same parsed =
    subst (λ k. MatchResult r (λ d. ReadsFrom end k (declaration (declaration_of d))) (λ e. (e ≡ cause.Memory) ⊎ ReadsFrom end k (refused e))) (sym same) parsed
