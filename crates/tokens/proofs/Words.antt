-- The search for a reserved word. Assumes nothing.
use Rattle.std.proofs.Common.{◌≡◌, ℕ, ◌+◌, ◌<◌, Bool, true, false, List, length, get_or, drop, sym, refl, ◌∙◌}
use Rattle.std.specs.Str.{bytes_eq}
use Rattle.std.proofs.lemmas.Slice.Eq.{bytes_eq-Decides}
use Rattle.std.proofs.lemmas.List.{at_drop_more}
use Rattle.std.proofs.lemmas.Bool.{cond-false}
use Rattle.tokens.specs.declared.token.Word.{Word}
use Rattle.tokens.specs.Tokens.{spelling}
use Rattle.tokens.specs.Finding.{first_word}

differ : (b : Bool) → (b ≡ true → ⊥) → b ≡ false
differ true no' = absurd (no' refl)
differ false no' = refl

module _ (ws : List Word) (i : ℕ) (d : Word) (s t : List ℕ) (inside : i < length ws) (spelled : t ≡ spelling (get_or ws i d)) where
  pub word_passed : (s ≡ t → ⊥) → first_word (drop i ws) s ≡ first_word (drop (i + 1) ws) s
  word_passed differs =
      at_drop_more (λ l. first_word l s) ws i d inside ∙ cond-false _ _ _ (differ (bytes_eq s (spelling (get_or ws i d))) (λ same. differs ((bytes_eq-Decides s (spelling (get_or ws i d))).0 same ∙ sym spelled)))
