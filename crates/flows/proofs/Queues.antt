-- What waits in a queue. Assumes nothing.
use Rattle.std.proofs.Common.{◌≡◌, ℕ, zero, suc, ◌+◌, ◌-◌, ◌<◌, ◌≤◌, Bool, true, false, cond, not, ◌&&◌, ◌||◌, eqb, List, [], ◌∷◌, ◌++◌, length, Some, None, Option, MatchOption, sym, refl, ap, ◌∙◌, subst, ⊎_elim, append_assoc, append-nil, add-one, arith, length-append}
use Rattle.std.proofs.lemmas.Bool.{eqb-true, eq-eqb, ne_eqb, cases_eq, cases_Bool, cond-false, or_cases, or_parts, or_from, or_left, or_right, false≢true, both_ways}
use Rattle.flows.specs.declared.flow.Flow.{Flow}
use Rattle.flows.specs.Flows.{reads, flow}
use Rattle.flows.specs.Queues.{waits, joined, numbered}
use Rattle.flows.specs.Runs.{woken}

pub waits_append : (i : ℕ) (q r : List ℕ) → waits i (q ++ r) ≡ (waits i q || waits i r)
waits_append i [] r = refl
waits_append i (j ∷ q) r = elim (eqb i j) as (λ b. (b || waits i (q ++ r)) ≡ ((b || waits i q) || waits i r)) [ true ↦ refl | false ↦ waits_append i q r ]

pub waits_here : (i : ℕ) (q : List ℕ) → waits i (i ∷ q) ≡ true
waits_here i q = or_left (eqb i i) (waits i q) (eq-eqb i i refl)

pub waits_other : (i j : ℕ) (q : List ℕ) → (i ≡ j → ⊥) → waits i q ≡ false → waits i (j ∷ q) ≡ false
waits_other i j q ne none = or_from (eqb i j) (waits i q) (ne_eqb i j ne) none

-- a flow that is still not in the queue does not read the variable
pub not_woken : (flows : List Flow) (v : ℕ) (q : List ℕ) (n i : ℕ) → i < n → waits i q ≡ false → waits i (woken flows v q n) ≡ false → reads (flow flows i).rule v ≡ false
not_woken flows v q zero i h none left = absurd (omega arith)
not_woken flows v q (suc n) i h none left =
    let parts = or_parts (waits i (woken flows v q n)) _ (sym (waits_append i (woken flows v q n) _) ∙ left) in
    ⊎_elim
    (λ same. subst (λ k. reads (flow flows k).rule v ≡ false) (sym same) (last (reads (flow flows n).rule v) (waits n q) (subst (λ k. waits k q ≡ false) same none) (subst (λ k. waits k (cond (reads (flow flows n).rule v && not (waits n q)) (n ∷ []) []) ≡ false) same parts.1)))
    (λ other. not_woken flows v q n i (omega arith) none parts.0)
    (cases_eq i n)
  where
    last : (r w : Bool) → w ≡ false → waits n (cond (r && not w) (n ∷ []) []) ≡ false → r ≡ false
    last false w e none = refl
    last true false e none = absurd (both_ways _ none (waits_here n []))
    last true true e none = absurd (false≢true (sym e))

pub woken_known : (flows : List Flow) (v : ℕ) (q : List ℕ) (n i : ℕ) → waits i (woken flows v q n) ≡ true → i < n
woken_known flows v q zero i h = absurd (false≢true h)
woken_known flows v q (suc n) i h =
    ⊎_elim
    (λ before. omega (arith, woken_known flows v q n i before))
    (λ here. last (reads (flow flows n).rule v && not (waits n q)) here)
    (or_cases (waits i (woken flows v q n)) _ (sym (waits_append i (woken flows v q n) _) ∙ h))
  where
    last : (b : Bool) → waits i (cond b (n ∷ []) []) ≡ true → i < suc n
    last false e = absurd (false≢true e)
    last true e = ⊎_elim (λ same. omega (arith, eqb-true i n same)) (λ e. absurd (false≢true e)) (or_cases (eqb i n) false e)

-- so only flows wait after it, if only flows waited before
pub wakened_known : (flows : List Flow) (v : ℕ) (q : List ℕ) → ((i : ℕ) → waits i q ≡ true → i < length flows) → (i : ℕ) → waits i (q ++ woken flows v q (length flows)) ≡ true → i < length flows
wakened_known flows v q known i w =
    ⊎_elim (known i) (woken_known flows v q (length flows) i) (or_cases (waits i q) _ (sym (waits_append i q (woken flows v q (length flows))) ∙ w))

-- and so it is when the first one leaves
pub rest_known : (n : ℕ) (old new : List ℕ) (first : Option ℕ) → MatchOption first ((old ≡ []) × (new ≡ [])) (λ i. old ≡ i ∷ new)
    → ((i : ℕ) → waits i old ≡ true → i < n) → (i : ℕ) → waits i new ≡ true → i < n
rest_known n old new None left known i w = absurd (false≢true (sym (ap (waits i) left.1) ∙ w))
rest_known n old new (Some j) left known i w = known i (ap (waits i) left ∙ or_right (eqb i j) (waits i new) w)

-- a flow joins the queue behind those with lower numbers
pub woken_more : (flows : List Flow) (v : ℕ) (q : List ℕ) (n : ℕ)
    → q ++ woken flows v q (n + 1) ≡ cond (reads (flow flows n).rule v) (joined (q ++ woken flows v q n) n) (q ++ woken flows v q n)
woken_more flows v q n =
    let before = woken flows v q n in
    let late : waits n before ≡ false = ⊎_elim (λ e. absurd (omega (arith, woken_known flows v q n n e))) (λ e. e) (cases_Bool (waits n before)) in
    let same : waits n (q ++ before) ≡ waits n q = waits_append n q before ∙ ap (λ b. waits n q || b) late ∙ or_false (waits n q) in
    ap (λ k. q ++ woken flows v q k) (add-one n) ∙ go before (reads (flow flows n).rule v) (waits n q) (waits n (q ++ before)) same
  where
    or_false : (b : Bool) → (b || false) ≡ b
    or_false true = refl
    or_false false = refl

    go : (before : List ℕ) (r w w' : Bool) → w' ≡ w → q ++ (before ++ cond (r && not w) (n ∷ []) []) ≡ cond r (cond w' (q ++ before) ((q ++ before) ++ n ∷ [])) (q ++ before)
    go before false w w' e = ap (λ xs. q ++ xs) (append-nil before)
    go before true true true e = ap (λ xs. q ++ xs) (append-nil before)
    go before true false false e = sym (append_assoc q before (n ∷ []))
    go before true true false e = absurd (false≢true e)
    go before true false true e = absurd (false≢true (sym e))

-- the numbers of flows in order
pub numbered_length : (from n : ℕ) → length (numbered from n) ≡ n
numbered_length from zero = refl
numbered_length from (suc n) = rw length-append (omega (arith, numbered_length from n))

pub numbered_has : (from n i : ℕ) → from ≤ i → i < from + n → waits i (numbered from n) ≡ true
numbered_has from zero i low high = absurd (omega arith)
numbered_has from (suc n) i low high =
    waits_append i (numbered from n) ((from + n) ∷ []) ∙ ⊎_elim
    (λ last. or_right (waits i (numbered from n)) _ (or_left (eqb i (from + n)) false (eq-eqb i (from + n) last)))
    (λ ne. or_left (waits i (numbered from n)) _ (numbered_has from n i low (omega arith)))
    (cases_eq i (from + n))

pub numbered_only : (from n i : ℕ) → waits i (numbered from n) ≡ true → (from ≤ i) × (i < from + n)
numbered_only from zero i w = absurd (false≢true w)
numbered_only from (suc n) i w =
    ⊎_elim
    (λ before. let h = numbered_only from n i before in (h.0, omega (arith, h.1)))
    (λ last. let e : i ≡ from + n = ⊎_elim (eqb-true i (from + n)) (λ none. absurd (false≢true none)) (or_cases (eqb i (from + n)) false last) in (omega arith, omega arith))
    (or_cases (waits i (numbered from n)) _ (sym (waits_append i (numbered from n) ((from + n) ∷ [])) ∙ w))

-- one more number is appended
pub numbered_turn : (from i : ℕ) (q q' : List ℕ) → from ≤ i → q ≡ numbered from (i - from) → q' ≡ joined q i → q' ≡ numbered from (i + 1 - from)
numbered_turn from i q q' low so_far pushed =
    let new : waits i q ≡ false = ⊎_elim (λ w. absurd (omega (arith, (numbered_only from (i - from) i (sym (ap (waits i) so_far) ∙ w)).1))) (λ e. e) (cases_Bool (waits i q)) in
    let count : i + 1 - from ≡ suc (i - from) = omega arith in
    let here : from + (i - from) ≡ i = omega arith in
    pushed ∙ cond-false (waits i q) q (q ++ i ∷ []) new ∙ (λ k. so_far k ++ sym here k ∷ []) ∙ sym (ap (numbered from) count)
