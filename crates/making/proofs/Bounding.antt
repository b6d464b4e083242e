-- What the state holds with one more bound or binder. Assumes nothing.
use Rattle.std.proofs.Common.{◌≡◌, ◌+◌, ◌-◌, ◌^◌, ◌<◌, min, true, ltb, List, [], ◌∷◌, ◌++◌, map, length, Some, None, vec_items, Option, sym, refl, ap, ◌∙◌, subst, arith}
use Rattle.flows.specs.Limits.{most_variables, most_bounds}
use Rattle.flows.specs.Networks.{Contents, contents, room_for_bound, with_bound}
use Rattle.flows.specs.declared.flow.Bound.{Bound}
use Rattle.making.proofs.Keeping.{longer_push, longer_same, longer_both}
use Rattle.making.specs.Handing.{handed_bound}
use Rattle.making.specs.Holding.{clip_binder, SameBinder, most_binders, Fits, Holds}
use Rattle.making.specs.declared.output.Binder.{Binder}
use Rattle.making.specs.declared.output.Output.{Output}
use Rattle.rules.specs.Making.{Made, Binder as Noted}
use Rattle.rules.specs.Staying.{Longer}
use Rattle.std.proofs.lemmas.List.{length_push, length-map, map_push, get_or_push, get_or_append_left}
use Rattle.std.proofs.lemmas.Bool.{lt-ltb, and_from, cond-true, cond_both}

module _ (c : Contents) where
  pub handed_variables : (g : Option Bound) → (handed_bound c g).variables ≡ c.variables
  handed_variables None = refl
  handed_variables (Some g) = cond_both (room_for_bound c g) (with_bound c g) c (λ z. z.variables ≡ c.variables) (λ _. refl) (λ _. refl)

  pub handed_flows : (g : Option Bound) → (handed_bound c g).flows ≡ c.flows
  handed_flows None = refl
  handed_flows (Some g) = cond_both (room_for_bound c g) (with_bound c g) c (λ z. z.flows ≡ c.flows) (λ _. refl) (λ _. refl)

  pub handed_bounds : (xs : List Bound) → Longer xs c.bounds → (g : Option Bound) → Longer xs (handed_bound c g).bounds
  handed_bounds xs l None = l
  handed_bounds xs l (Some g) = cond_both (room_for_bound c g) (with_bound c g) c (λ z. Longer xs z.bounds) (λ _. longer_push xs c.bounds g l) (λ _. l)

abbrev more_bounds : Made → Bound → Made
more_bounds m b = record { next = m.next; flows = m.flows; bounds = m.bounds ++ b ∷ []; binders = m.binders }

module _ (m : Made) (b : Bound) (fits : Fits (more_bounds m b)) where
  long : length (m.bounds ++ b ∷ []) ≡ length m.bounds + 1
  long = length_push m.bounds b

  room_left : length m.bounds < most_bounds
  room_left = let k = fits.bounds in omega (arith, long)

  new_inside : b.variable < most_variables
  new_inside =
      subst (λ (g : Bound). g.variable < most_variables) (get_or_push m.bounds b _ (length m.bounds) refl) (fits.bounded (length m.bounds) (omega (arith, long)))

  fits_before : Fits m
  fits_before = record {
    flows = fits.flows;
    bounds = let k = fits.bounds in omega (arith, long);
    closed = fits.closed;
    bounded = λ i h. subst (λ (g : Bound). g.variable < most_variables) (get_or_append_left m.bounds (b ∷ []) _ i h) (fits.bounded i (omega (arith, long)));
  }

-- with one more bound
pub bound_held : (base o o' : Output) (m : Made) (b : Bound) (g : Option Bound)
    → o'.binders ≡ o.binders
    → o'.made.variables ≡ o.made.variables
    → o'.made.flows ≡ o.made.flows
    → o'.made.binders ≡ o.made.binders
    → o'.made.bounds ≡ min (o.made.bounds + 1) (2 ^ 64 - 1)
    → contents o'.network ≡ handed_bound (contents o.network) g
    → (b.variable < most_variables → g ≡ Some b)
    → Holds base o m
    → Holds base o' (more_bounds m b)
bound_held base o o' m b g binders vars flows noted counted after form h =
    let c = contents o.network in
    record {
      variables = vars ∙ h.variables;
      flows = flows ∙ h.flows;
      bounds = let k = h.bounds in omega (arith, length_push m.bounds b);
      noted = noted ∙ h.noted;
      wide = ap (λ z. z.variables) after ∙ (handed_variables c g ∙ h.wide);
      kept = λ fits.
          let old = h.kept (fits_before m b fits) in
          let new = new_inside m b fits in
          let room : room_for_bound c b ≡ true =
          and_from (ltb (length c.bounds) most_bounds) (ltb b.variable c.variables)
          (lt-ltb _ _ (let k = room_left m b fits in omega (arith, ap length old.bounds))) (lt-ltb _ _ (omega (arith, h.wide))) in
          let taken : contents o'.network ≡ with_bound c b = after ∙ (ap (handed_bound c) (form new) ∙ cond-true (room_for_bound c b) (with_bound c b) c room) in
          record { flows = ap (λ z. z.flows) taken ∙ old.flows; bounds = ap (λ z. z.bounds) taken ∙ ap (λ fs. fs ++ b ∷ []) old.bounds };
      binders = λ few. ap vec_items binders ∙ h.binders few;
      grown = record {
        variables = let k = h.grown.variables in omega (arith, ap (λ z. z.variables) after, handed_variables c g);
        flows = subst (λ z. Longer (contents base.network).flows z) (sym (ap (λ z. z.flows) after ∙ handed_flows c g)) h.grown.flows;
        bounds = subst (λ z. Longer (contents base.network).bounds z.bounds) (sym after) (handed_bounds c _ h.grown.bounds g);
        binders = longer_both _ _ _ h.grown.binders (longer_same _ _ (ap vec_items binders));
      };
    }

-- with one more binder, of which the table takes what it has room for
pub binder_held : (base o o' : Output) (m : Made) (b : Noted) (x : Binder)
    → o'.network ≡ o.network
    → o'.made.variables ≡ o.made.variables
    → o'.made.flows ≡ o.made.flows
    → o'.made.bounds ≡ o.made.bounds
    → o'.made.binders ≡ min (o.made.binders + 1) (2 ^ 64 - 1)
    → (length (vec_items o.binders) < most_binders → vec_items o'.binders ≡ vec_items o.binders ++ x ∷ [])
    → Longer (vec_items o.binders) (vec_items o'.binders)
    → SameBinder x b
    → Holds base o m
    → Holds base o' (record { next = m.next; flows = m.flows; bounds = m.bounds; binders = m.binders ++ b ∷ [] })
binder_held base o o' m b x net vars flows bounds counted pushed longer same h =
    let c = contents o.network in
    let as_before : contents o'.network ≡ c = ap contents net in
    record {
      variables = vars ∙ h.variables;
      flows = flows ∙ h.flows;
      bounds = bounds ∙ h.bounds;
      noted = let k = h.noted in omega (arith, length_push m.binders b);
      wide = ap (λ z. z.variables) as_before ∙ h.wide;
      kept = λ fits.
          let old = h.kept (record { flows = fits.flows; bounds = fits.bounds; closed = fits.closed; bounded = fits.bounded }) in
          record { flows = ap (λ z. z.flows) as_before ∙ old.flows; bounds = ap (λ z. z.bounds) as_before ∙ old.bounds };
      binders = λ few.
          let old = h.binders (omega (arith, length_push m.binders b)) in
          let room : length (vec_items o.binders) < most_binders = omega (arith, ap length old, length-map m.binders clip_binder, length_push m.binders b) in
          pushed room ∙ (ap (λ xs. xs ++ x ∷ []) old ∙ (ap (λ z. map clip_binder m.binders ++ z ∷ []) same ∙ sym (map_push clip_binder m.binders b)));
      grown = record {
        variables = let k = h.grown.variables in omega (arith, ap (λ z. z.variables) as_before);
        flows = subst (λ z. Longer (contents base.network).flows z.flows) (sym as_before) h.grown.flows;
        bounds = subst (λ z. Longer (contents base.network).bounds z.bounds) (sym as_before) h.grown.bounds;
        binders = longer_both _ _ _ h.grown.binders longer;
      };
    }
