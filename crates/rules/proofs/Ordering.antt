-- Steps that number in order: from variables below the next to variables below the next then. Assumes nothing.
use Rattle.std.proofs.Common.{◌≡◌, ℕ, ◌+◌, ◌<◌, ◌≤◌, Bool, true, false, List, sym, refl, ap, subst, arith}
use Rattle.flows.specs.declared.flow.Bound.{Bound}
use Rattle.flows.specs.declared.flow.Flow.{Flow}
use Rattle.refusals.specs.declared.refusal.Refusal.{Refusal}
use Rattle.std.proofs.ByRecursion.{All-append, All-push, All-weaker, All-get_or, All-from_get_or}
use Rattle.std.specs.List.{AllByRecursion}
use Rattle.rules.specs.Making.{Binder, Made, Step, ◌▸◌, give, refuse, demand, fresh, makes, limits, notes}
use Rattle.rules.specs.Numbering.{Below, Ordered}
use Rattle.rules.specs.Staying.{Gives}
use Rattle.rules.proofs.Lower.{Inside, inside_more}
use Rattle.rules.proofs.Steps.{same_made, same_answer, never, invert}

-- all that is made, element by element
pub record Neat (m : Made) : Type 0 where
  pub flows : AllByRecursion (Inside m.next) m.flows
  pub bounds : AllByRecursion (λ b. b.variable < m.next) m.bounds
  pub binders : AllByRecursion (λ b. Below m.next b.levels) m.binders

pub neat_ordered : (m : Made) → Neat m → Ordered m
neat_ordered m h = record {
  flows = λ i l. All-get_or (Inside m.next) m.flows i _ l h.flows;
  bounds = λ i l. All-get_or (λ b. b.variable < m.next) m.bounds i _ l h.bounds;
  binders = h.binders;
}

pub ordered_neat : (m : Made) → Ordered m → Neat m
ordered_neat m h = record {
  flows = All-from_get_or (Inside m.next) m.flows _ h.flows;
  bounds = All-from_get_or (λ b. b.variable < m.next) m.bounds _ h.bounds;
  binders = h.binders;
}

-- what a step promises of its answer, P, where n is no more than the next variable before it
pub record Numbers {X : Type 0} (P : ℕ → X → Type 0) (n : ℕ) (f : Step X) : Type 0 where
  pub after : (m m' : Made) (x : X) → Gives f m x m' → n ≤ m.next → Neat m → (m.next ≤ m'.next) × Neat m' × P m'.next x

abbrev pub Any : {X : Type 0} → ℕ → X → Type 0
Any k x = Unit {0}

pub then_numbers : {X Y : Type 0} {P : ℕ → X → Type 0} {Q : ℕ → Y → Type 0} {n : ℕ} {f : Step X} (g : X → Step Y)
    → Numbers P n f → ((k : ℕ) (x : X) → n ≤ k → P k x → Numbers Q k (g x)) → Numbers Q n (f ▸ g)
then_numbers {f = f} g p q = record {
  after = λ m m' y h l neat.
      let d = invert f g m h in
      let one = p.after m d.1 d.0 d.2 l neat in
      let more = one.0 in
      let two = (q d.1.next d.0 (omega arith) one.2).after d.1 m' y d.3 (omega arith) one.1 in
      let rest = two.0 in
      (omega arith, two.1, two.2);
}

pub give_numbers : {X : Type 0} (P : ℕ → X → Type 0) (n : ℕ) (x : X) → ((k : ℕ) → n ≤ k → P k x) → Numbers P n (give x)
give_numbers P n x p = record {
  after = λ m m' y h l neat.
      let is = same_made h in
      (omega (arith, ap (λ z. z.next) is), subst Neat is neat, subst (P m'.next) (same_answer h) (p m'.next (omega (arith, ap (λ z. z.next) is))));
}

pub refuse_numbers : {X : Type 0} (P : ℕ → X → Type 0) (n : ℕ) (e : Refusal) → Numbers P n (refuse e)
refuse_numbers P n e = record { after = λ m m' y h l neat. absurd (never h) }

pub demand_numbers : (n : ℕ) (b : Bool) (e : Refusal) → Numbers (λ _ _. b ≡ true) n (demand b e)
demand_numbers n true e = give_numbers (λ _ _. true ≡ true) n tt (λ _ _. refl)
demand_numbers n false e = refuse_numbers (λ _ _. false ≡ true) n e

-- what is made by a step that gives nothing
module _ (n : ℕ) where
  raised : (m : Made) (k : ℕ) → m.next ≤ k → Neat m → Neat (record { next = k; flows = m.flows; bounds = m.bounds; binders = m.binders })
  raised m k l neat = record {
    flows = All-weaker (Inside m.next) (Inside k) (inside_more m.next k l) m.flows neat.flows;
    bounds = All-weaker (λ b. b.variable < m.next) (λ b. b.variable < k) (λ b p. omega arith) m.bounds neat.bounds;
    binders = All-weaker (λ b. Below m.next b.levels) (λ b. Below k b.levels) (λ b p. omega arith) m.binders neat.binders;
  }

  pub fresh_numbers : (d : ℕ) → Numbers (λ k t. Below k t × (t.depth ≡ d)) n (fresh d)
  fresh_numbers d = record {
    after = λ m m' t h l neat.
        let is = same_made h in
        let answer = same_answer h in (
          omega (arith, ap (λ z. z.next) is),
          subst Neat is (raised m (m.next + (d + 1)) (omega arith) neat),
          (omega (arith, ap (λ z. z.next) is, ap (λ z. z.first) answer, ap (λ z. z.depth) answer), sym (ap (λ z. z.depth) answer)),
        );
  }

  pub makes_numbers : (fs : List Flow) → AllByRecursion (Inside n) fs → Numbers Any n (makes fs)
  makes_numbers fs p = record {
    after = λ m m' u h l neat.
        let is = same_made h in (
          omega (arith, ap (λ z. z.next) is),
          subst Neat is (record { flows = All-append (Inside m.next) m.flows fs neat.flows (All-weaker (Inside n) (Inside m.next) (inside_more n m.next l) fs p); bounds = neat.bounds; binders = neat.binders }),
          tt,
        );
  }

  pub limits_numbers : (b : Bound) → b.variable < n → Numbers Any n (limits b)
  limits_numbers b p = record {
    after = λ m m' u h l neat.
        let is = same_made h in (
          omega (arith, ap (λ z. z.next) is),
          subst Neat is (record { flows = neat.flows; bounds = All-push (λ b. b.variable < m.next) m.bounds b neat.bounds (omega arith); binders = neat.binders }),
          tt,
        );
  }

  pub notes_numbers : (b : Binder) → Below n b.levels → Numbers Any n (notes b)
  notes_numbers b p = record {
    after = λ m m' u h l neat.
        let is = same_made h in (
          omega (arith, ap (λ z. z.next) is),
          subst Neat is (record { flows = neat.flows; bounds = neat.bounds; binders = All-push (λ b. Below m.next b.levels) m.binders b neat.binders (omega arith) }),
          tt,
        );
  }
