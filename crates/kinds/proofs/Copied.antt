-- A copy of a kind's spellings finds what the kind finds. Assumes nothing.
use Rattle.std.proofs.Common.{◌≡◌, ℕ, zero, suc, ◌+◌, ◌<◌, ◌≤◌, cond, List, [], length, map, get_or, Some, None, sym, refl, ap, ◌∙◌, ⊎_elim, arith, Bor}
use Rattle.std.proofs.lemmas.Bool.{cases_eq}
use Rattle.std.proofs.lemmas.List.{get_or-map, length-map}
use Rattle.kinds.specs.declared.kind.Kind.{Ghosts}
use Rattle.kinds.specs.Find.{SameSpelling, same_spelling, first_from, number_of, NoneBelow}
use Rattle.kinds.specs.declared.spellings.Spellings.{Spellings}
use Rattle.kinds.proofs.Finds.{found_from, none_from}
use Rattle.kinds.specs.Tables.{texts, spelled, number_in, Copies}

same_first : (f g : ℕ → List ℕ) (s : List ℕ) (n left : ℕ) → ((m : ℕ) → n ≤ m → m < n + left → f m ≡ g m) → first_from f s n left ≡ first_from g s n left
same_first f g s n zero same = refl
same_first f g s n (suc left) same =
    ap (λ t. cond (same_spelling t s) (Some n) (first_from f s (suc n) left)) (same n (omega arith) (omega arith)) ∙ ap (cond (same_spelling (g n) s) (Some n)) (same_first f g s (suc n) left (λ m from to. same m (omega arith) (omega arith)))

-- a search through the table's list, at its word n
module _ (table : Spellings) (words : List (Bor (List ℕ))) (same : words ≡ table.words.items) (s : List ℕ) (n : ℕ) where
  how_many : length (texts table) ≡ length words
  how_many = length-map table.words.items (λ s. s.now) ∙ ap length (sym same)

  spelled_at : (d : Bor (List ℕ)) → n < length words → spelled table n ≡ (get_or words n d).now
  spelled_at d below = ap (λ l. get_or (map (λ s. s.now) l) n []) (sym same) ∙ get_or-map (λ s. s.now) words n d [] below

  pub found_in : (d : Bor (List ℕ)) → n < length words → NoneBelow (spelled table) s n → SameSpelling (get_or words n d).now s → Some n ≡ number_in table s
  found_in d below none here =
      sym (found_from (spelled table) s 0 (length (texts table)) n (omega arith) (omega (arith, how_many, below)) (spelled_at d below ∙ here) (λ m from to. none m to))

  pub not_here : (d : Bor (List ℕ)) → n < length words → NoneBelow (spelled table) s n → (SameSpelling (get_or words n d).now s → ⊥) → NoneBelow (spelled table) s (n + 1)
  not_here d below none apart = λ m to spells.
      ⊎_elim
      (λ is. absurd (apart (sym (spelled_at d below) ∙ ap (spelled table) (sym is) ∙ spells)))
      (λ other. none m (omega (arith, to, other)) spells)
      (cases_eq m n)

  pub none_in : length words ≤ n → NoneBelow (spelled table) s n → None ≡ number_in table s
  none_in past none =
      sym (none_from (spelled table) s 0 (length (texts table)) (λ m from to. none m (omega (arith, how_many, past, to))))
