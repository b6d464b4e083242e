-- The flags of a queue: one for each flow, which says whether it waits. Assumes nothing.
use Rattle.std.proofs.Common.{◌≡◌, ℕ, zero, suc, ◌+◌, ◌<◌, ◌≤◌, Bool, true, false, cond, not, ◌||◌, eqb, List, [], ◌∷◌, ◌++◌, length, get_or, set, replicate, count_by, vec_items, sym, refl, ap, ◌∙◌, subst, ⊎_elim, arith, length-set, get_or-set_other, get_or-set_same}
use Rattle.std.proofs.lemmas.Bool.{and_parts, and_from, not-true, not_from_false, cases_eq, cases_lt, or_parts, eqb-false, or_from, or_right, both_ways, ne_eqb}
use Rattle.std.proofs.lemmas.List.{get_or_past, length_push}
use Rattle.std.proofs.lemmas.List.Sums.{sum_by-set, count_by-le-length}
use Rattle.flows.specs.declared.queue.Queue.{Queue}
use Rattle.flows.specs.Limits.{most_flows}
use Rattle.flows.specs.Pending.{pending}
use Rattle.flows.specs.Queues.{waits, distinct, Marks}
use Rattle.flows.proofs.Queues.{waits_append, waits_here, waits_other}

abbrev one : Bool → ℕ
one b = cond b 1 0

distinct_push : (q : List ℕ) (n : ℕ) → distinct q ≡ true → waits n q ≡ false → distinct (q ++ n ∷ []) ≡ true
distinct_push [] n d none = refl
distinct_push (j ∷ q) n d none =
    let parts = and_parts (not (waits j q)) (distinct q) d in
    let apart = or_parts (eqb n j) (waits n q) none in
    let ne : j ≡ n → ⊥ = λ e. eqb-false n j apart.0 (sym e) in
    and_from (not (waits j (q ++ n ∷ []))) (distinct (q ++ n ∷ []))
    (not_from_false _ (waits_append j q (n ∷ []) ∙ or_from (waits j q) (waits j (n ∷ [])) (not-true _ parts.0) (waits_other j n [] ne refl)))
    (distinct_push q n parts.1 apart.1)

or_none : (x y : Bool) → y ≡ false → (x || y) ≡ x
or_none true y e = refl
or_none false y e = e

-- a flow that does not wait joins the queue
module _ {queue : List ℕ} {waiting : List Bool} (old : Marks queue waiting) (n : ℕ) (known : n < length waiting) (none : waits n queue ≡ false) where
  more : length queue + 1 ≡ count_by (λ b. b) (set waiting n true)
  more =
      let before : ◌≡◌ {A = ℕ} (one (get_or waiting n false)) 0 = ap one (old.flags n ∙ none) in
      omega (arith, old.counted, sum_by-set one waiting n true false known)

  pub push_room : length queue < length waiting
  push_room = omega (arith, more, count_by-le-length (λ b. b) (set waiting n true), length-set waiting n true)

  pub push_flags : Marks (queue ++ n ∷ []) (set waiting n true)
  push_flags = record {
    flags = λ i. ⊎_elim
        (λ e. subst (λ k. get_or (set waiting n true) k false ≡ waits k (queue ++ n ∷ [])) (sym e)
        (get_or-set_same waiting n true false known ∙ sym (waits_append n queue (n ∷ []) ∙ or_right _ _ (waits_here n []))))
        (λ ne. get_or-set_other waiting n i true false ne ∙ old.flags i
        ∙ sym (waits_append i queue (n ∷ []) ∙ or_none _ _ (waits_other i n [] ne refl)))
        (cases_eq i n);
    once = distinct_push queue n old.once none;
    counted = length_push queue n ∙ more;
  }

-- the first flow leaves the queue
module _ {n : ℕ} {queue : List ℕ} {waiting : List Bool} (old : Marks (n ∷ queue) waiting) where
  waited : get_or waiting n false ≡ true
  waited = old.flags n ∙ waits_here n queue

  pub pop_known : n < length waiting
  pop_known = ⊎_elim (λ h. h) (λ past. absurd (both_ways _ (get_or_past waiting n false past) waited)) (cases_lt n (length waiting))

  pub pop_flags : Marks queue (set waiting n false)
  pop_flags =
      let parts = and_parts (not (waits n queue)) (distinct queue) old.once in
      let before : ◌≡◌ {A = ℕ} (one (get_or waiting n false)) 1 = ap one waited in
      record {
        flags = λ i. ⊎_elim
            (λ e. subst (λ k. get_or (set waiting n false) k false ≡ waits k queue) (sym e) (get_or-set_same waiting n false false pop_known ∙ sym (not-true _ parts.0)))
            (λ ne. get_or-set_other waiting n i false false ne ∙ old.flags i ∙ ap (λ b. b || waits i queue) (ne_eqb i n ne))
            (cases_eq i n);
        once = parts.1;
        counted = omega (arith, old.counted, sum_by-set one waiting n false false pop_known);
      }

-- no flag is set at first
replicate_none : (n i : ℕ) → get_or (replicate n false) i false ≡ false
replicate_none zero i = refl
replicate_none (suc n) zero = refl
replicate_none (suc n) (suc i) = replicate_none n i

replicate_count : (n : ℕ) → count_by (λ b. b) (replicate n false) ≡ 0
replicate_count zero = refl
replicate_count (suc n) = replicate_count n

pub no_flags : (n : ℕ) → Marks [] (replicate n false)
no_flags n = record { flags = replicate_none n; once = refl; counted = sym (replicate_count n) }

-- no more wait than there are flows
pub few_wait : (q : Queue) → length (pending q) ≤ most_flows
few_wait q =
    let long = q.waiting.ok.0 in
    omega (arith, q.marks.counted, q.flagged, count_by-le-length (λ b. b) (vec_items q.waiting))
