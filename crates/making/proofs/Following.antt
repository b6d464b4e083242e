-- Steps one after another. Assumes nothing.
use Rattle.std.proofs.Common.{◌≡◌, ℕ, ◌+◌, Bool, true, false, List, [], ◌∷◌, ◌++◌, IsErrAnd, Ok, Err, Result, sym, refl, ap, subst, append_assoc, add-one}
use Rattle.flows.specs.declared.flow.Flow.{Flow}
use Rattle.refusals.specs.declared.refusal.Refusal.{Refusal}
use Rattle.refusals.specs.declared.refusal.Refusal.TheVariants.{Unfit}
use Rattle.rules.specs.Making.{Made, Step, go_on, ◌▸◌, give, demand, makes, move, both_ways}
use Rattle.std.proofs.lemmas.Result.{err_from_is_err_and}
use Rattle.making.specs.Holding.{Itself, Grown, Holds, Agrees, Follows}
use Rattle.making.specs.declared.output.Output.{Output}

module _ {S X T Y U : Type 0} {H : S → Made → Type 0} {G : S → Type 0} {P : X → T → Type 0} {Q : Y → U → Type 0} {a b : S} {f : Step T} (g : T → Step U) where
  -- the first step is done, and the rest goes on from there
  pub then : {c : S} {x : X} {r : Result Y Refusal} → Follows H G P a b (Ok x) f → ((t : T) → P x t → Follows H G Q b c r (g t)) → Follows H G Q a c r (f ▸ g)
  unfolding ◌▸◌
  then {c} {x} {r} p q = record { agrees = λ m h. let d = p.agrees m h in subst (λ z. Agrees H G Q r c (go_on z g)) (sym d.2) ((q d.0 d.3).agrees d.1 d.4) }

  -- the first step refuses
  pub stop : {e : Refusal} → Follows H G P a b (Err e) f → Follows H G Q a b (Err e) (f ▸ g)
  unfolding ◌▸◌
  stop k = record { agrees = λ m h. let d = k.agrees m h in (ap (λ z. go_on z g) d.0, d.1) }

  -- the exit of a `?`
  pub broke : {e : Refusal} {r : Result Y Refusal} → IsErrAnd r (λ y. y ≡ e) → Follows H G P a b (Err e) f → Follows H G Q a b r (f ▸ g)
  broke {e} {r} k p = let d = err_from_is_err_and r k in rw (d.1, d.2) (stop p)

module _ {S : Type 0} {H : S → Made → Type 0} {G : S → Type 0} {a : S} where
  -- nothing to do
  pub done : {X T : Type 0} {P : X → T → Type 0} {x : X} {t : T} → P x t → Follows H G P a a (Ok x) (give t)
  done {t = t} p = record { agrees = λ m h. (t, m, refl, p, h) }

  -- a demand that is met
  pub met : (e : Refusal) (b : Bool) → b ≡ true → Follows H G Itself a a (Ok tt) (demand b e)
  met e b t = record { agrees = λ m h. (tt, m, ap (λ z. demand z e m) t, refl, h) }

-- one that is not met
pub unmet : {base o : Output} {e : Refusal} (b : Bool) → b ≡ false → Follows {X = Unit {0}} (Holds base) (Grown base) Itself o o (Err e) (demand b e)
unmet {e = e} b f = record { agrees = λ m h. (ap (λ z. demand z e m) f, h.grown) }

-- one that is not met ends all, at the place that the code names
pub refused : {Y U : Type 0} {Q : Y → U → Type 0} {base o : Output} (g : Unit {0} → Step U) {at p : ℕ} → at ≡ p → (b : Bool) → b ≡ false → Follows (Holds base) (Grown base) Q o o (Err (Unfit at)) (demand b (Unfit p) ▸ g)
refused {Q = Q} {base} {o} g {at} {p} e b f = subst (λ z. Follows (Holds base) (Grown base) Q o o (Err (Unfit z)) (demand b (Unfit p) ▸ g)) (sym e) (stop g (unmet b f))

pub same_step : {S X T : Type 0} {H : S → Made → Type 0} {G : S → Type 0} {P : X → T → Type 0} {a b : S} {r : Result X Refusal} {f : Step T} (g : Step T) → ((m : Made) → f m ≡ g m) → Follows H G P a b r f → Follows H G P a b r g
same_step {H = H} {G} {P} {b = b} {r} g e p = record { agrees = λ m h. subst (λ z. Agrees H G P r b z) (e m) (p.agrees m h) }

-- the same step under another name
pub by_step : {S X T : Type 0} {H : S → Made → Type 0} {G : S → Type 0} {P : X → T → Type 0} {a b : S} {r : Result X Refusal} {f g : Step T} → f ≡ g → Follows H G P a b r g → Follows H G P a b r f
by_step {H = H} {G} {P} {a} {b} {r} e p = subst (λ z. Follows H G P a b r z) (sym e) p

-- two lists of flows one after the other
makes_more : (xs ys : List Flow) (m : Made) → (makes xs ▸ λ _. makes ys) m ≡ makes (xs ++ ys) m
unfolding ◌▸◌
makes_more xs ys m = ap (λ fs. Ok (tt, record { next = m.next; flows = fs; bounds = m.bounds; binders = m.binders })) (append_assoc m.flows xs ys)

pub then_makes : {S : Type 0} {H : S → Made → Type 0} {G : S → Type 0} {a b c : S} {r : Result (Unit {0}) Refusal} (xs ys : List Flow) → Follows H G Itself a b (Ok tt) (makes xs) → Follows H G Itself b c r (makes ys) → Follows H G Itself a c r (makes (xs ++ ys))
then_makes xs ys p q = same_step (makes (xs ++ ys)) (makes_more xs ys) (then (λ _. makes ys) p (λ _ _. q))

-- one level more of "s flows into t"
pub two_more : {S : Type 0} {H : S → Made → Type 0} {G : S → Type 0} {a b c d : S} (s t i : ℕ) → Follows H G Itself a b (Ok tt) (makes (both_ways s t i)) → Follows H G Itself b c (Ok tt) (makes (move (s + (i + 1)) (t + (i + 1)) ∷ [])) → Follows H G Itself c d (Ok tt) (makes (move (t + (i + 1)) (s + (i + 1)) ∷ [])) → Follows H G Itself a d (Ok tt) (makes (both_ways s t (i + 1)))
two_more s t i inv there back =
    let u = s + (i + 1) in
    let v = t + (i + 1) in
    by_step (ap (λ d. makes (both_ways s t d)) (add-one i))
    (then_makes (both_ways s t i) (move u v ∷ move v u ∷ []) inv (then_makes (move u v ∷ []) (move v u ∷ []) there back))
