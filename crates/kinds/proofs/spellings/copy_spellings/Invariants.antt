use Rattle.std.proofs.Common.{◌≡◌, ℕ, ◌<◌, [], length, map, slice_index_or}
use Rattle.kinds.proofs.spellings.copy_spellings.Given as goal

abbrev pub invariant-loop-number : goal.invariant-loop-number
invariant-loop-number g l =
    (length l.words.items ≡ l.number) × ((n : ℕ) → n < l.number → slice_index_or (map (λ s. s.now) l.words.items) n [] ≡ g.K.Kind.spelling n)
