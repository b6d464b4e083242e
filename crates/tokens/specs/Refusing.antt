-- What stands where a text is refused, in the words of the rules of tokens. Assumes nothing.
use Rattle.std.specs.Prelude.{◌≡◌, ℕ, Bool, true, false, List, ◌∷◌, ◌++◌, take}
use Rattle.std.specs.List.{prefix_len}
use Rattle.tokens.specs.Bytes.{byte, letter, digit, tail, operator}
use Rattle.tokens.specs.Tokens.{Tok, binder, bound, Spells}
use Rattle.tokens.specs.Reading.{NoToken}

-- the longest run of bytes of a class that stands at the front
abbrev pub run : (ℕ → Bool) → List ℕ → List ℕ
run class bs = take (prefix_len class bs) bs

-- these bytes as a whole are no token
abbrev pub Unspelled : List ℕ → Type 0
Unspelled s = (t : Tok) → Spells s t → ⊥

-- no token begins here, however long
abbrev pub Unbegun : List ℕ → Type 0
Unbegun bs = (s rest : List ℕ) → bs ≡ s ++ rest → Unspelled s

-- no mark begins here
abbrev pub Unmarked : List ℕ → Type 0
Unmarked bs = (m s rest : List ℕ) → bs ≡ s ++ rest → (Spells s (binder m) → ⊥) × (Spells s (bound m) → ⊥)

-- What is refused at the byte b, with bs behind it: a run that as a whole is no token, `(*` that begins no mark, or a byte that
-- begins no token. The symbols `)`, `,` and `;` never are.
pub record RefusedAt (b : ℕ) (bs : List ℕ) : Type 0 where
  pub words : letter b ≡ true → Unspelled (run tail (b ∷ bs))
  pub literals : digit b ≡ true → Unspelled (run digit (b ∷ bs))
  pub operators : operator b ≡ true → Unspelled (run operator (b ∷ bs))
  pub opens : b ≡ byte "(" → ((rest : List ℕ) × (bs ≡ byte "*" ∷ rest)) × Unmarked (b ∷ bs)
  pub closes : b ≡ byte ")" → ⊥
  pub commas : b ≡ byte "," → ⊥
  pub semicolons : b ≡ byte ";" → ⊥
  pub others : letter b ≡ false → digit b ≡ false → operator b ≡ false → (b ≡ byte "(" → ⊥) → Unbegun (b ∷ bs)

abbrev pub RunRefused : Type 0
RunRefused = (b : ℕ) (bs : List ℕ) → NoToken (b ∷ bs) → RefusedAt b bs
