-- Queues of flow numbers, oldest first. Assumes nothing.
use Rattle.std.specs.Prelude.{◌≡◌, ℕ, zero, suc, ◌+◌, Bool, true, false, cond, not, ◌&&◌, ◌||◌, List, [], ◌∷◌, ◌++◌, ◌==◌, length, count_by, slice_index_or}

-- whether a flow waits in a queue
abbrev pub waits : ℕ → List ℕ → Bool
waits i [] = false
waits i (j ∷ queue) = i == j || waits i queue

-- whether no flow waits twice
abbrev pub distinct : List ℕ → Bool
distinct [] = true
distinct (i ∷ queue) = not (waits i queue) && distinct queue

-- a flag for each flow says whether it waits, and no flow waits twice
pub record Marks (queue : List ℕ) (waiting : List Bool) : Type 0 where
  pub flags : (i : ℕ) → slice_index_or waiting i false ≡ waits i queue
  pub once : distinct queue ≡ true
  pub counted : length queue ≡ count_by (λ b. b) waiting

-- a flow joins a queue unless it waits
abbrev pub joined : List ℕ → ℕ → List ℕ
joined queue i = cond (waits i queue) queue (queue ++ i ∷ [])

-- the numbers of n flows in order, the first of them `from`
abbrev pub numbered : ℕ → ℕ → List ℕ
numbered from zero = []
numbered from (suc n) = numbered from n ++ (from + n) ∷ []
