-- Tokens come to one thing only, if at most one tree stands for them. Assumes nothing.
use Rattle.std.proofs.Common.{◌≡◌, ℕ, zero, suc, ◌<◌, ◌≤◌, List, [], ◌∷◌, ◌++◌, length, take, sym, refl, ap, ◌∙◌, subst, append_assoc, append-nil, arith, length-append}
use Rattle.tokens.specs.Tokens.{Placed}
use Rattle.syntax.specs.Trees.{Declaration}
use Rattle.syntax.specs.Grammar.{Declares}
use Rattle.syntax.specs.Levels.{most_levels, levels_in, AtMost}
use Rattle.goals.specs.Outcomes.{place_at, Whole, Viable, Dead, Shallow, Misplaced, TooDeep, Outcome, tree, misplaced_at, too_deep_at, ComesTo}
use Rattle.goals.specs.Theorems.{Single}
use Rattle.goals.proofs.Unambiguous.{unambiguous}

-- two splits of one list: the same, or one front goes on where the other ends
data Splits (a b c d : List Placed) : Type 0 where
  same : a ≡ c → b ≡ d → Splits a b c d
  longer : (t : Placed) (x : List Placed) → c ≡ a ++ (t ∷ x) → b ≡ t ∷ (x ++ d) → Splits a b c d
  shorter : (t : Placed) (x : List Placed) → a ≡ c ++ (t ∷ x) → d ≡ t ∷ (x ++ b) → Splits a b c d

same_first : (t u : Placed) (a b : List Placed) → t ∷ a ≡ u ∷ b → t ≡ u
same_first t u a b e = cc

same_rest : (t u : Placed) (a b : List Placed) → t ∷ a ≡ u ∷ b → a ≡ b
same_rest t u a b e = cc

splits : (a b c d : List Placed) → a ++ b ≡ c ++ d → Splits a b c d
splits [] b [] d e = same refl e
splits [] b (t ∷ c) d e = longer t c refl e
splits (t ∷ a) b [] d e = shorter t a refl (sym e)
splits (t ∷ a) b (u ∷ c) d e = go (splits a b c d (same_rest t u (a ++ b) (c ++ d) e))
  where
    first : t ≡ u
    first = same_first t u (a ++ b) (c ++ d) e

    go : Splits a b c d → Splits (t ∷ a) b (u ∷ c) d
    go (same p q) = same (ap (λ l. t ∷ l) p ∙ ap (λ v. v ∷ c) first) q
    go (longer v x p q) = longer v x (ap (λ l. u ∷ l) p ∙ ap (λ w. w ∷ (a ++ (v ∷ x))) (sym first)) q
    go (shorter v x p q) = shorter v x (ap (λ l. t ∷ l) p ∙ ap (λ w. w ∷ (c ++ (v ∷ x))) first) q

-- nothing that stands within too many levels is among what stands within few enough
not_above : (most n : ℕ) (a later : List ℕ) → AtMost most (a ++ (n ∷ later)) → n ≤ most
not_above most n [] later h = h.0
not_above most n (x ∷ a) later h = not_above most n a later h.1

not_before : (most n m : ℕ) (a later : List ℕ) → length a < m → AtMost most (take m (a ++ (n ∷ later))) → n ≤ most
not_before most n zero a later less h = absurd (omega (arith, less))
not_before most n (suc m) [] later less h = h.0
not_before most n (suc m) (x ∷ a) later less h = not_before most n m a later (omega (arith, less)) h.1

no_longer : (n : ℕ) (l : List ℕ) → length (take n l) ≤ n
no_longer zero l = omega arith
no_longer (suc n) [] = omega arith
no_longer (suc n) (x ∷ l) = let h = no_longer n l in omega (arith, h)

whole_dead : (before rest : List Placed) → Dead before rest → Whole (before ++ rest) → ⊥
whole_dead before [] dead whole = dead (subst Whole (append-nil before) whole)
whole_dead before (t ∷ rest) dead whole = dead rest whole

-- no front goes on where another is dead
goes_on : (before rest long : List Placed) (t : Placed) (x y : List Placed) → rest ≡ t ∷ y → Dead before rest → long ≡ before ++ (t ∷ x) → Viable long → ⊥
goes_on before rest long t x y is dead front (u, whole) =
    let here = subst (Dead before) is dead in
    let all = subst (λ l. Whole (l ++ u)) front whole in
    here (x ++ u) (subst Whole (append_assoc before (t ∷ x) u) all)

viable_front : (a b : List Placed) → Viable (a ++ b) → Viable a
viable_front a b (u, whole) = (b ++ u, subst Whole (append_assoc a b u) whole)

-- in every declaration that goes on with this token, it stands within one level too many
abbrev Deep : List Placed → Placed → Type 0
Deep before t =
    (u : List Placed) (d : Declaration) → Declares d (before ++ (t ∷ u)) [] → (later : List ℕ) × (levels_in d ≡ take (length before) (levels_in d) ++ (33 ∷ later))

-- no such token stands in a shallow front
deep_shallow : (before long : List Placed) (t : Placed) (x : List Placed) → long ≡ before ++ (t ∷ x) → Deep before t → Viable long → Shallow long → ⊥
deep_shallow before long t x front deep (u, whole) shallow =
    let (d, declares) = whole in
    let long-way : long ++ u ≡ before ++ (t ∷ (x ++ u)) = ap (λ l. l ++ u) front ∙ append_assoc before (t ∷ x) u in
    let y = deep (x ++ u) d (subst (λ l. Declares d l []) long-way declares) in
    let ns : List ℕ = take (length before) (levels_in d) in
    let few = subst (λ l. AtMost most_levels (take (length long) l)) y.1 (shallow u d declares) in
    let less = no_longer (length before) (levels_in d) in
    let so-long = ap length front ∙ length-append before (t ∷ x) in
    let h = not_before most_levels 33 (length long) ns y.0 (omega (arith, less, so-long)) few in
    omega (arith, h)

module _ (end : ℕ) (ts : List Placed) where
  tree_misplaced : (d : Declaration) (p : ℕ) → Declares d ts [] → Misplaced end ts p → ⊥
  tree_misplaced d p declares m = whole_dead m.before m.after m.dead (d, subst (λ l. Declares d l []) m.split declares)

  tree_too_deep : (d : Declaration) (p : ℕ) → Declares d ts [] × AtMost most_levels (levels_in d) → TooDeep ts p → ⊥
  tree_too_deep d p x m =
      let y = m.deep m.after d (subst (λ l. Declares d l []) m.split x.0) in
      let front : List ℕ = take (length m.before) (levels_in d) in
      let h = not_above most_levels 33 front y.0 (subst (AtMost most_levels) y.1 x.1) in
      omega (arith, h)

  misplaced_once : (p q : ℕ) → Misplaced end ts p → Misplaced end ts q → p ≡ q
  misplaced_once p q m n = go (splits m.before m.after n.before n.after (sym m.split ∙ n.split))
    where
      go : Splits m.before m.after n.before n.after → p ≡ q
      go (same a b) = m.here ∙ ap (place_at end) b ∙ sym n.here
      go (longer t x a b) = absurd (goes_on m.before m.after n.before t x (x ++ n.after) b m.dead a n.viable)
      go (shorter t x a b) = absurd (goes_on n.before n.after m.before t x (x ++ m.after) b n.dead a m.viable)

  not_both : (p q : ℕ) → Misplaced end ts p → TooDeep ts q → ⊥
  not_both p q m n = go (splits m.before m.after n.before (n.opening ∷ n.after) (sym m.split ∙ n.split))
    where
      go : Splits m.before m.after n.before (n.opening ∷ n.after) → ⊥
      go (same a b) =
          goes_on m.before m.after (n.before ++ (n.opening ∷ [])) n.opening [] n.after b m.dead (ap (λ l. l ++ (n.opening ∷ [])) (sym a)) n.viable
      go (longer t x a b) =
          goes_on m.before m.after n.before t x (x ++ (n.opening ∷ n.after)) b m.dead a (viable_front n.before (n.opening ∷ []) n.viable)
      go (shorter t x a b) =
          let is = same_first n.opening t n.after (x ++ m.after) b in
          deep_shallow n.before m.before t x a (subst (Deep n.before) is n.deep) m.viable m.shallow

  too_deep_once : (p q : ℕ) → TooDeep ts p → TooDeep ts q → p ≡ q
  too_deep_once p q m n = go (splits m.before (m.opening ∷ m.after) n.before (n.opening ∷ n.after) (sym m.split ∙ n.split))
    where
      go : Splits m.before (m.opening ∷ m.after) n.before (n.opening ∷ n.after) → p ≡ q
      go (same a b) = m.here ∙ ap (λ t. t.place) (same_first m.opening n.opening m.after n.after b) ∙ sym n.here
      go (longer t x a b) =
          let is = same_first m.opening t m.after (x ++ (n.opening ∷ n.after)) b in
          absurd (deep_shallow m.before n.before t x a (subst (Deep m.before) is m.deep) (viable_front n.before (n.opening ∷ []) n.viable) n.shallow)
      go (shorter t x a b) =
          let is = same_first n.opening t n.after (x ++ (m.opening ∷ m.after)) b in
          absurd (deep_shallow n.before m.before t x a (subst (Deep n.before) is n.deep) (viable_front m.before (m.opening ∷ []) m.viable) m.shallow)

  pub single_but_trees : ((d e : Declaration) → Declares d ts [] → Declares e ts [] → d ≡ e) → (o q : Outcome) → ComesTo end ts o → ComesTo end ts q → o ≡ q
  single_but_trees one-tree (tree d) (tree e) x y = ap tree (one-tree d e x.0 y.0)
  single_but_trees one-tree (tree d) (misplaced_at q) x y = absurd (tree_misplaced d q x.0 y)
  single_but_trees one-tree (tree d) (too_deep_at q) x y = absurd (tree_too_deep d q x y)
  single_but_trees one-tree (misplaced_at p) (tree e) x y = absurd (tree_misplaced e p y.0 x)
  single_but_trees one-tree (misplaced_at p) (misplaced_at q) x y = ap misplaced_at (misplaced_once p q x y)
  single_but_trees one-tree (misplaced_at p) (too_deep_at q) x y = absurd (not_both p q x y)
  single_but_trees one-tree (too_deep_at p) (tree e) x y = absurd (tree_too_deep e p y x)
  single_but_trees one-tree (too_deep_at p) (misplaced_at q) x y = absurd (not_both q p y x)
  single_but_trees one-tree (too_deep_at p) (too_deep_at q) x y = ap too_deep_at (too_deep_once p q x y)

pub single : Single
single end ts o q = single_but_trees end ts (unambiguous ts) o q
