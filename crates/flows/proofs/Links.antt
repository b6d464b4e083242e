-- The neighbours of slots in their lists. Assumes nothing.
use Rattle.std.proofs.Common.{◌≡◌, ℕ, zero, suc, ◌+◌, ◌-◌, ◌/◌, ◌<◌, ◌≤◌, false, cond, eqb, ltb, List, [], ◌∷◌, ◌++◌, get_or, Some, None, Option, MatchOption, sym, refl, ap, ◌∙◌, subst, ⊎_elim, append-nil, add-one, arith}
use Rattle.std.specs.Option.{option_or}
use Rattle.std.proofs.lemmas.Bool.{cases_eq, cases_lt, cases_Bool, cond-true, cond-false, eqb-true, eqb-false, eq-eqb, ne_eqb, lt-ltb, le-ltb}
use Rattle.flows.specs.Links.{latest, next_from, listing}

-- a slot is the last one of a list among the first n, or none of them is in it
abbrev pub IsLast : List ℕ → ℕ → ℕ → Option ℕ → Type 0
IsLast ls v n None = (t : ℕ) → t < n → get_or ls t 0 ≡ v → ⊥
IsLast ls v n (Some u) = (u < n) × (get_or ls u 0 ≡ v) × ((t : ℕ) → u < t → t < n → get_or ls t 0 ≡ v → ⊥)

-- a slot is the first one of a list from slot k on, among the first n, or none of them is in it
abbrev pub IsNext : List ℕ → ℕ → ℕ → ℕ → Option ℕ → Type 0
IsNext ls v k n None = (t : ℕ) → k ≤ t → t < n → get_or ls t 0 ≡ v → ⊥
IsNext ls v k n (Some s) = (k ≤ s) × (s < n) × (get_or ls s 0 ≡ v) × ((t : ℕ) → k ≤ t → t < s → get_or ls t 0 ≡ v → ⊥)

module _ (ls : List ℕ) (v : ℕ) where
  -- none of the first n + 1, if slot n is not in the list
  none_more : (k n : ℕ) → (eqb (get_or ls n 0) v ≡ false) → ((t : ℕ) → k ≤ t → t < n → get_or ls t 0 ≡ v → ⊥) → (t : ℕ) → k ≤ t → t < suc n → get_or ls t 0 ≡ v → ⊥
  none_more k n other none t low high e =
      ⊎_elim (λ last. eqb-false _ _ other (ap (λ j. get_or ls j 0) (sym last) ∙ e)) (λ ne. none t low (omega arith) e) (cases_eq t n)

  pub is_last : (n : ℕ) → IsLast ls v n (latest ls v n)
  is_last zero = λ t h e. omega arith
  is_last (suc n) =
      ⊎_elim
      (λ here. subst (IsLast ls v (suc n)) (sym (cond-true (eqb (get_or ls n 0) v) (Some n) (latest ls v n) here)) (omega arith, eqb-true _ _ here, λ t low high e. omega arith))
      (λ other. subst (IsLast ls v (suc n)) (sym (cond-false (eqb (get_or ls n 0) v) (Some n) (latest ls v n) other)) (more other (latest ls v n) (is_last n)))
      (cases_Bool (eqb (get_or ls n 0) v))
    where
      more : eqb (get_or ls n 0) v ≡ false → (o : Option ℕ) → IsLast ls v n o → IsLast ls v (suc n) o
      more other None none = λ t high e. none_more 0 n other (λ t low high e. none t high e) t (omega arith) high e
      more other (Some u) is = (omega (arith, is.0), is.1, λ t low high e. none_more (suc u) n other (λ t low high e. is.2 t (omega arith) high e) t (omega arith) high e)

  pub is_next : (k n : ℕ) → IsNext ls v k n (next_from ls v k n)
  is_next k zero = λ t low high e. omega arith
  is_next k (suc n) = step (next_from ls v k n) (is_next k n)
    where
      step : (o : Option ℕ) → IsNext ls v k n o → IsNext ls v k (suc n) (option_or o (cond (ltb n k) None (cond (eqb (get_or ls n 0) v) (Some n) None)))
      step (Some s) is = (is.0, omega (arith, is.1), is.2, is.3)
      step None none =
          ⊎_elim
          (λ early. subst (IsNext ls v k (suc n)) (sym (cond-true (ltb n k) None (cond (eqb (get_or ls n 0) v) (Some n) None) (lt-ltb n k early))) (λ t low high e. omega arith))
          (λ late. subst (IsNext ls v k (suc n)) (sym (cond-false (ltb n k) None (cond (eqb (get_or ls n 0) v) (Some n) None) (le-ltb n k late)))
          (⊎_elim
          (λ here. subst (IsNext ls v k (suc n)) (sym (cond-true (eqb (get_or ls n 0) v) (Some n) None here)) (late, omega arith, eqb-true _ _ here, none))
          (λ other. subst (IsNext ls v k (suc n)) (sym (cond-false (eqb (get_or ls n 0) v) (Some n) None other)) (none_more k n other none))
          (cases_Bool (eqb (get_or ls n 0) v))))
          (cases_lt n k)

  -- there is one answer
  pub one_last : (n : ℕ) (o p : Option ℕ) → IsLast ls v n o → IsLast ls v n p → o ≡ p
  one_last n None None a b = refl
  one_last n None (Some t) a b = absurd (a t b.0 b.1)
  one_last n (Some s) None a b = absurd (b s a.0 a.1)
  one_last n (Some s) (Some t) a b =
      ⊎_elim
      (λ less. absurd (a.2 t less b.0 b.1))
      (λ more. ⊎_elim (λ less. absurd (b.2 s less a.0 a.1)) (λ more'. let e : s ≡ t = omega arith in ap Some e) (cases_lt t s))
      (cases_lt s t)

  pub one_next : (k n : ℕ) (o p : Option ℕ) → IsNext ls v k n o → IsNext ls v k n p → o ≡ p
  one_next k n None None a b = refl
  one_next k n None (Some t) a b = absurd (a t b.0 b.1 b.2)
  one_next k n (Some s) None a b = absurd (b s a.0 a.1 a.2)
  one_next k n (Some s) (Some t) a b =
      ⊎_elim
      (λ less. absurd (b.3 s a.0 less a.2))
      (λ more. ⊎_elim (λ less. absurd (a.3 t b.0 less b.2)) (λ more'. let e : s ≡ t = omega arith in ap Some e) (cases_lt t s))
      (cases_lt s t)

  -- where none of the slots from k up to m is in the list, nothing is listed
  still : (k m : ℕ) → k ≤ m → ((t : ℕ) → k ≤ t → t < m → get_or ls t 0 ≡ v → ⊥) → listing ls v m ≡ listing ls v k
  still k zero low none = let z : zero ≡ k = omega arith in ap (listing ls v) z
  still k (suc m) low none =
      ⊎_elim
      (λ same. ap (listing ls v) (sym same))
      (λ ne.
      let other = cond-false (eqb (get_or ls m 0) v) (m / 2 ∷ []) [] (ne_eqb _ _ (none m (omega arith) (omega arith))) in
      ap (λ ys. listing ls v m ++ ys) other ∙ append-nil (listing ls v m) ∙ still k m (omega arith) (λ t low high e. none t low (omega arith) e))
      (cases_eq k (suc m))

  -- a walk comes to the next slot, or to the end
  pub walk_on : (k n s : ℕ) → IsNext ls v k n (Some s) → listing ls v (s + 1) ≡ listing ls v k ++ s / 2 ∷ []
  walk_on k n s is =
      let here = cond-true (eqb (get_or ls s 0) v) (s / 2 ∷ []) [] (eq-eqb _ _ is.2) in
      ap (listing ls v) (add-one s) ∙ ap (λ ys. listing ls v s ++ ys) here ∙ ap (λ ys. ys ++ s / 2 ∷ []) (still k s is.0 is.3)

  pub walk_ends : (k n : ℕ) → k ≤ n → IsNext ls v k n None → listing ls v n ≡ listing ls v k
  walk_ends k n low none = still k n low none

-- one slot more, in list v
module _ (ls ms : List ℕ) (n v : ℕ) (same : (t : ℕ) → t < n → get_or ls t 0 ≡ get_or ms t 0) (new : get_or ms n 0 ≡ v) where
  -- what the slots before it say stays
  pub latest_kept : (w k : ℕ) → k ≤ n → latest ls w k ≡ latest ms w k
  latest_kept w zero few = refl
  latest_kept w (suc k) few =
      let here = same k (omega arith) in
      let before = latest_kept w k (omega arith) in
      (λ i. cond (eqb (here i) w) (Some k) (before i))

  pub last_new : IsLast ms v (n + 1) (Some n)
  last_new = (omega arith, new, λ t low high e. omega arith)

  pub last_kept : (w : ℕ) (o : Option ℕ) → (w ≡ v → ⊥) → IsLast ls w n o → IsLast ms w (n + 1) o
  last_kept w None ne none = λ t high e. ⊎_elim (λ last. ne (sym e ∙ ap (λ j. get_or ms j 0) last ∙ new)) (λ before. none t (omega arith) (same t (omega arith) ∙ e)) (cases_eq t n)
  last_kept w (Some u) ne is = (
    omega (arith, is.0),
    sym (same u is.0) ∙ is.1,
    λ t low high e. ⊎_elim (λ last. ne (sym e ∙ ap (λ j. get_or ms j 0) last ∙ new)) (λ before. is.2 t low (omega arith) (same t (omega arith) ∙ e)) (cases_eq t n),
  )

  pub last_back : (w : ℕ) (o : Option ℕ) → (w ≡ v → ⊥) → IsLast ms w (n + 1) o → IsLast ls w n o
  last_back w None ne none = λ t high e. none t (omega arith) (sym (same t high) ∙ e)
  last_back w (Some u) ne is =
      let h : u < n = ⊎_elim (λ less. less) (λ more. let last : u ≡ n = omega (arith, is.0) in absurd (ne (sym is.1 ∙ ap (λ j. get_or ms j 0) last ∙ new))) (cases_lt u n) in
      (h, same u h ∙ is.1, λ t low high e. is.2 t low (omega arith) (sym (same t high) ∙ e))

  -- it comes next behind the last one before it, and nowhere else
  pub next_new : (k : ℕ) (p : Option ℕ) → k ≤ n → IsLast ls v n p → MatchOption p (Unit {0}) (λ u. u < k) → IsNext ms v k (n + 1) (Some n)
  next_new k None low none before = (low, omega arith, new, λ t low high e. none t high (same t high ∙ e))
  next_new k (Some u) low is before = (low, omega arith, new, λ t low' high e. is.2 t (omega arith) high (same t high ∙ e))

  pub next_kept : (w k : ℕ) (o : Option ℕ) → MatchOption o (w ≡ v → ⊥) (λ _. Unit {0}) → IsNext ls w k n o → IsNext ms w k (n + 1) o
  next_kept w k None ne none = λ t low high e. ⊎_elim (λ last. ne (sym e ∙ ap (λ j. get_or ms j 0) last ∙ new)) (λ before. none t low (omega arith) (same t (omega arith) ∙ e)) (cases_eq t n)
  next_kept w k (Some s) _ is =
      let h = is.1 in
      (is.0, omega arith, sym (same s h) ∙ is.2, λ t low high e. is.3 t low high (same t (omega arith) ∙ e))

  pub next_none : (k : ℕ) (p : Option ℕ) → IsLast ls v n p → MatchOption p (Unit {0}) (λ u. u < k) → IsNext ls v k n None
  next_none k None none before = λ t low high e. none t high e
  next_none k (Some u) is before = λ t low high e. is.2 t (omega arith) high e

  pub next_back : (w k : ℕ) (o : Option ℕ) → MatchOption o (Unit {0}) (λ s. s ≡ n → ⊥) → IsNext ms w k (n + 1) o → IsNext ls w k n o
  next_back w k None _ none = λ t low high e. none t low (omega arith) (sym (same t high) ∙ e)
  next_back w k (Some s) ne is =
      let high' = is.1 in
      let h : s < n = ⊎_elim (λ less. less) (λ more. let last : s ≡ n = omega arith in absurd (ne last)) (cases_lt s n) in
      (is.0, h, same s h ∙ is.2, λ t low high e. is.3 t low high (sym (same t (omega arith)) ∙ e))

-- how far a walk still has to go at most
abbrev pub left : ℕ → Option ℕ → ℕ
left n None = 0
left n (Some s) = n - s

pub left_falls : (ls : List ℕ) (v s n : ℕ) (o : Option ℕ) → s < n → IsNext ls v (s + 1) n o → left n o < n - s
left_falls ls v s n None h none = omega arith
left_falls ls v s n (Some t) h is = omega (arith, is.0, is.1)
