-- A table of readers and the flows that it lists. Assumes nothing.
use Rattle.std.proofs.Common.{◌≡◌, ℕ, zero, suc, ◌+◌, ◌*◌, ◌/◌, ◌<◌, ◌≤◌, Bool, true, false, cond, ◌||◌, eqb, ltb, List, [], ◌∷◌, ◌++◌, length, get_or, take, Some, None, fold, Option, sym, refl, ap, ◌∙◌, ⊎_elim, append-nil, add-one, arith}
use Rattle.std.proofs.lemmas.List.Sums.{fold_push}
use Rattle.std.proofs.lemmas.Bool.{cases_lt, cases_Bool, cond-true, cond-false, eqb-true, eqb-false, ne_eqb, lt-ltb, le-ltb}
use Rattle.flows.specs.declared.flow.Flow.{Flow}
use Rattle.flows.specs.declared.flow.Rule.{Rule}
use Rattle.flows.specs.declared.flow.Rule.TheVariants.{Operator, Name}
use Rattle.flows.specs.Flows.{is, reads, flow}
use Rattle.flows.specs.Limits.{most_variables}
use Rattle.flows.specs.Queues.{joined}
use Rattle.flows.specs.Runs.{woken}
use Rattle.flows.specs.Links.{listing}
use Rattle.flows.specs.Reading.{reading, list_of, first_list, second_list, both_lists}
use Rattle.flows.proofs.Queues.{woken_more}

-- they tell which variables the rule reads, each once
module _ (v : ℕ) (known : v < most_variables) where
  none : eqb most_variables v ≡ false
  none = ne_eqb most_variables v (λ e. omega arith)

  list_tells : (o : Option ℕ) → eqb (list_of o) v ≡ is o v
  list_tells None = none
  list_tells (Some u) =
      ⊎_elim
      (λ less. ap (λ k. eqb k v) (cond-true (ltb u most_variables) u most_variables (lt-ltb u most_variables less)))
      (λ more. ap (λ k. eqb k v) (cond-false (ltb u most_variables) u most_variables (le-ltb u most_variables more)) ∙ none ∙ sym (ne_eqb u v (λ e. omega arith)))
      (cases_lt u most_variables)

  module _ (n : ℕ) (xs : List ℕ) where
    both : (a b : ℕ) → (xs ++ cond (eqb a v) (n ∷ []) []) ++ cond (eqb (cond (eqb b a) most_variables b) v) (n ∷ []) [] ≡ xs ++ cond (eqb a v || eqb b v) (n ∷ []) []
    both a b =
        ⊎_elim
        (λ same.
        ap (λ k. (xs ++ cond (eqb a v) (n ∷ []) []) ++ cond (eqb k v) (n ∷ []) []) (cond-true (eqb b a) most_variables b same)
        ∙ ap (λ c. (xs ++ cond (eqb a v) (n ∷ []) []) ++ cond c (n ∷ []) []) none
        ∙ append-nil (xs ++ cond (eqb a v) (n ∷ []) [])
        ∙ ap (λ c. xs ++ cond c (n ∷ []) []) (sym (ap (λ k. eqb a v || eqb k v) (eqb-true b a same) ∙ twice (eqb a v))))
        (λ differ.
        ap (λ k. (xs ++ cond (eqb a v) (n ∷ []) []) ++ cond (eqb k v) (n ∷ []) []) (cond-false (eqb b a) most_variables b differ)
        ∙ go (eqb a v) (eqb b v) (λ p q. eqb-false b a differ (eqb-true b v q ∙ sym (eqb-true a v p))))
        (cases_Bool (eqb b a))
      where
        twice : (c : Bool) → (c || c) ≡ c
        twice true = refl
        twice false = refl

        go : (c d : Bool) → (c ≡ true → d ≡ true → ⊥) → (xs ++ cond c (n ∷ []) []) ++ cond d (n ∷ []) [] ≡ xs ++ cond (c || d) (n ∷ []) []
        go true true clash = absurd (clash refl refl)
        go true false clash = append-nil (xs ++ n ∷ [])
        go false d clash = ap (λ ys. ys ++ cond d (n ∷ []) []) (append-nil xs)

    slots_tell : (rule : Rule) → (xs ++ cond (eqb (first_list rule) v) (n ∷ []) []) ++ cond (eqb (second_list rule) v) (n ∷ []) [] ≡ xs ++ cond (reads rule v) (n ∷ []) []
    slots_tell (Operator o x y) =
        both (list_of x) (list_of y) ∙ (λ i. xs ++ cond (list_tells x i || list_tells y i) (n ∷ []) [])
    slots_tell (Name m) =
        ap (λ c. (xs ++ cond c (n ∷ []) []) ++ cond c (n ∷ []) []) none ∙ append-nil (xs ++ [])

-- the two slots of a flow
twice : (n : ℕ) → 2 * suc n ≡ suc (suc (2 * n))
twice n = omega arith

both_first : (flows : List Flow) (n : ℕ) → n < length flows → get_or (both_lists flows) (2 * n) 0 ≡ first_list (flow flows n).rule
both_first [] n h = absurd (omega arith)
both_first (f ∷ flows) zero h = refl
both_first (f ∷ flows) (suc n) h = ap (λ k. get_or (both_lists (f ∷ flows)) k 0) (twice n) ∙ both_first flows n (omega arith)

both_second : (flows : List Flow) (n : ℕ) → n < length flows → get_or (both_lists flows) (2 * n + 1) 0 ≡ second_list (flow flows n).rule
both_second [] n h = absurd (omega arith)
both_second (f ∷ flows) zero h = refl
both_second (f ∷ flows) (suc n) h =
    let e : 2 * suc n + 1 ≡ suc (suc (2 * n + 1)) = omega arith in
    ap (λ k. get_or (both_lists (f ∷ flows)) k 0) e ∙ both_second flows n (omega arith)

pub both_long : (flows : List Flow) → length (both_lists flows) ≡ 2 * length flows
both_long [] = refl
both_long (f ∷ flows) = omega (arith, both_long flows)

-- one flow more, and fewer flows
pub both_more : (flows : List Flow) (f : Flow) → both_lists (flows ++ f ∷ []) ≡ both_lists flows ++ first_list f.rule ∷ second_list f.rule ∷ []
both_more [] f = refl
both_more (g ∷ flows) f = ap (λ xs. first_list g.rule ∷ second_list g.rule ∷ xs) (both_more flows f)

pub both_cut : (flows : List Flow) (n : ℕ) → take (2 * n) (both_lists flows) ≡ both_lists (take n flows)
both_cut flows zero = refl
both_cut [] (suc n) = ap (λ k. take k []) (twice n)
both_cut (f ∷ flows) (suc n) = ap (λ k. take k (both_lists (f ∷ flows))) (twice n) ∙ ap (λ xs. first_list f.rule ∷ second_list f.rule ∷ xs) (both_cut flows n)

-- what the slots of flows list under a variable are the flows that read it
listed : (v : ℕ) → v < most_variables → (flows : List Flow) (n : ℕ) → n ≤ length flows → listing (both_lists flows) v (2 * n) ≡ reading flows v n
listed v known flows zero few = refl
listed v known flows (suc n) few =
    let s = 2 * n in
    let ls = both_lists flows in
    let first = both_first flows n (omega arith) in
    let second = both_second flows n (omega arith) in
    let more : suc s ≡ s + 1 = omega arith in
    let half : s / 2 ≡ n = omega arith in
    let half' : (s + 1) / 2 ≡ n = omega arith in
    let before = listed v known flows n (omega arith) in
    ap (listing ls v) (twice n)
    ∙ ap (λ k. (listing ls v s ++ cond (eqb (get_or ls s 0) v) (s / 2 ∷ []) []) ++ cond (eqb (get_or ls k 0) v) (k / 2 ∷ []) []) more
    ∙ (λ i. (before i ++ cond (eqb (first i) v) (half i ∷ []) []) ++ cond (eqb (second i) v) (half' i ∷ []) [])
    ∙ slots_tell v known n (reading flows v n) (flow flows n).rule

-- all flows that read a variable join a queue
all_join : (flows : List Flow) (v : ℕ) (q : List ℕ) (n : ℕ) → fold joined q (reading flows v n) ≡ q ++ woken flows v q n
all_join flows v q zero = sym (append-nil q)
all_join flows v q (suc n) =
    let before = all_join flows v q n in
    go (reads (flow flows n).rule v) ∙ ap (λ x. cond (reads (flow flows n).rule v) (joined x n) x) before ∙ sym (woken_more flows v q n) ∙ ap (λ k. q ++ woken flows v q k) (add-one n)
  where
    go : (b : Bool) → fold joined q (reading flows v n ++ cond b (n ∷ []) []) ≡ cond b (joined (fold joined q (reading flows v n)) n) (fold joined q (reading flows v n))
    go true = fold_push joined q (reading flows v n) n
    go false = ap (fold joined q) (append-nil (reading flows v n))

-- and those that are listed under it are these
pub woken_all : (flows : List Flow) (v : ℕ) (q : List ℕ) → v < most_variables → fold joined q (listing (both_lists flows) v (length (both_lists flows))) ≡ q ++ woken flows v q (length flows)
woken_all flows v q known =
    ap (fold joined q) (ap (listing (both_lists flows) v) (both_long flows) ∙ listed v known flows (length flows) (omega arith)) ∙ all_join flows v q (length flows)
