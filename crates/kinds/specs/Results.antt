-- Operators that are read off a list of results. Assumes nothing.
use Rattle.std.specs.Prelude.{◌≡◌, ℕ, zero, suc, Bool, true, List, [], ◌∷◌, length, get_or, slice_index_or, refl}
use Rattle.std.proofs.Common.{arith}
use Rattle.std.specs.List.{AllZip}
use Rattle.std.proofs.lemmas.List.{get_or_past}
use Rattle.kinds.specs.Laws.{Operated, highest_operator}

-- two lists that are related place by place are related at every number
slice_index_or_each : {X : Type 0} (R : X → X → Type 0) (xs ys : List X) (d : X) → R d d → AllZip R xs ys → (n : ℕ) → R (slice_index_or xs n d) (slice_index_or ys n d)
slice_index_or_each R [] [] d same each n = same
slice_index_or_each R [] (y ∷ ys) d same each n = absurd each
slice_index_or_each R (x ∷ xs) [] d same each n = absurd each
slice_index_or_each R (x ∷ xs) (y ∷ ys) d same each zero = each.0
slice_index_or_each R (x ∷ xs) (y ∷ ys) d same each (suc n) = slice_index_or_each R xs ys d same each.1 n

-- the move, and behind it a list of monotone results, one for each other operator
pub tabled : {V : Type 0} (below : V → V → Bool) (bottom : V) (results : V → V → List V) → below bottom bottom ≡ true → ((a b : V) → length (results a b) ≡ highest_operator) → ((a a' b b' : V) → below a a' ≡ true → below b b' ≡ true → AllZip (λ x y. below x y ≡ true) (results a b) (results a' b')) → Operated below bottom (λ n a b. get_or (a ∷ results a b) n bottom)
tabled below bottom results same each rise = record {
  monotone = λ n a a' b b' left right. slice_index_or_each (λ x y. below x y ≡ true) (a ∷ results a b) (a' ∷ results a' b') bottom same (left, rise a a' b b' left right) n;
  move = λ a b. refl;
  none = λ n a b past. get_or_past (a ∷ results a b) n bottom (let many = each a b in omega arith);
}
