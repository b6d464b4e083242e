-- What a step gives, taken apart. Assumes nothing.
use Rattle.std.proofs.Common.{◌≡◌, Bool, true, false, is_ok, Ok, Err, Result, refl, ap}
use Rattle.refusals.specs.declared.refusal.Refusal.{Refusal}
use Rattle.std.proofs.lemmas.Bool.{false≢true}
use Rattle.rules.specs.Making.{Made, Step, go_on, ◌▸◌, demand}
use Rattle.rules.specs.Staying.{Gives}

made_in : {X : Type 0} → Made → Result (X × Made) Refusal → Made
made_in d (Ok p) = p.1
made_in d (Err e) = d

answer_in : {X : Type 0} → X → Result (X × Made) Refusal → X
answer_in d (Ok p) = p.0
answer_in d (Err e) = d

pub same_made : {X : Type 0} {x y : X} {m m' : Made} → ◌≡◌ {A = Result (X × Made) Refusal} (Ok (x, m)) (Ok (y, m')) → m ≡ m'
unfolding made_in
same_made {m = m} e = ap (made_in m) e

pub same_answer : {X : Type 0} {x y : X} {m m' : Made} → ◌≡◌ {A = Result (X × Made) Refusal} (Ok (x, m)) (Ok (y, m')) → x ≡ y
unfolding answer_in
same_answer {x = x} e = ap (answer_in x) e

pub never : {X : Type 0} {x : X} {m : Made} {e : Refusal} → ◌≡◌ {A = Result (X × Made) Refusal} (Err e) (Ok (x, m)) → ⊥
never h = false≢true (ap is_ok h)

module _ {X Y : Type 0} (f : Step X) (g : X → Step Y) (m : Made) {y : Y} {m' : Made} where
  inverted : (r : Result (X × Made) Refusal) → f m ≡ r → go_on r g ≡ Ok (y, m') → (x : X) × (n : Made) × Gives f m x n × Gives (g x) n y m'
  inverted (Ok p) e h = (p.0, p.1, e, h)
  inverted (Err z) e h = absurd (never h)

  -- the answer in between, and what is made then
  pub invert : Gives (f ▸ g) m y m' → (x : X) × (n : Made) × Gives f m x n × Gives (g x) n y m'
  unfolding ◌▸◌
  invert h = inverted (f m) refl h

pub demanded : (b : Bool) (e : Refusal) (m m' : Made) (u : Unit {0}) → Gives (demand b e) m u m' → b ≡ true
demanded true e m m' u h = refl
demanded false e m m' u h = absurd (never h)
