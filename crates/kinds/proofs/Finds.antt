-- The number that a spelling is found as is the lowest that has it. Assumes nothing.
use Rattle.std.proofs.Common.{◌≡◌, ℕ, zero, suc, ◌+◌, ◌<◌, ◌≤◌, false, List, Some, None, sym, refl, ap, ◌∙◌, ⊎_elim, arith}
use Rattle.std.specs.Str.{bytes_eq}
use Rattle.std.proofs.lemmas.Slice.Eq.{bytes_eq-Decides}
use Rattle.std.proofs.lemmas.Bool.{cases_Bool, cases_eq, cond-true, cond-false}
use Rattle.kinds.specs.Find.{first_from, number_of, NoneBelow, LowestNumber}
use Rattle.kinds.specs.declared.kind.Kind.{Ghosts}

module _ (spelling : ℕ → List ℕ) (s : List ℕ) where
  differs : (n : ℕ) → (spelling n ≡ s → ⊥) → bytes_eq (spelling n) s ≡ false
  differs n apart = ⊎_elim (λ t. absurd (apart ((bytes_eq-Decides (spelling n) s).0 t))) (λ f. f) (cases_Bool _)

  pub none_from : (n left : ℕ) → ((m : ℕ) → n ≤ m → m < n + left → spelling m ≡ s → ⊥) → first_from spelling s n left ≡ None
  none_from n zero apart = refl
  none_from n (suc left) apart =
      cond-false _ _ _ (differs n (apart n (omega arith) (omega arith))) ∙ none_from (suc n) left (λ m above below. apart m (omega arith) (omega arith))

  pub found_from : (n left k : ℕ) → n ≤ k → k < n + left → spelling k ≡ s → ((m : ℕ) → n ≤ m → m < k → spelling m ≡ s → ⊥) → first_from spelling s n left ≡ Some k
  found_from n zero k above below spells apart = absurd (omega arith)
  found_from n (suc left) k above below spells apart =
      ⊎_elim
      (λ here. cond-true _ _ _ ((bytes_eq-Decides (spelling n) s).1 (ap spelling here ∙ spells)) ∙ ap Some here)
      (λ later. cond-false _ _ _ (differs n (apart n (omega arith) (omega arith))) ∙ found_from (suc n) left k (omega arith) (omega arith) spells (λ m from to. apart m (omega arith) to))
      (cases_eq n k)

module _ {V : Type 0} (kind : Ghosts V) (s : List ℕ) where
  pub found : (n : ℕ) → LowestNumber kind s n → Some n ≡ number_of kind s
  found n low = sym (found_from kind.spelling s 0 kind.names n (omega arith) (omega (arith, low.is_name)) low.spells (λ m from to. low.lowest m to))

  pub not_found : NoneBelow kind.spelling s kind.names → None ≡ number_of kind s
  not_found none = sym (none_from kind.spelling s 0 kind.names (λ m from to. none m (omega arith)))
