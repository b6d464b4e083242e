-- What the state holds when the network is handed one flow or bound more. Assumes nothing.
use Rattle.std.proofs.Common.{◌≡◌, ◌+◌, ◌-◌, ◌^◌, ◌<◌, min, true, ltb, List, [], ◌∷◌, ◌++◌, length, Some, None, vec_items, Option, sym, refl, ap, ◌∙◌, subst, append_assoc, arith}
use Rattle.flows.specs.Flows.{inside}
use Rattle.flows.specs.Limits.{most_variables, most_flows}
use Rattle.flows.specs.Networks.{Contents, contents, room_for_flow, with_flow}
use Rattle.flows.specs.declared.flow.Flow.{Flow}
use Rattle.making.specs.Handing.{handed}
use Rattle.making.specs.Holding.{Fits, Holds}
use Rattle.making.specs.declared.output.Output.{Output}
use Rattle.rules.specs.Making.{Made}
use Rattle.rules.specs.Staying.{Longer}
use Rattle.std.proofs.lemmas.List.{append-nil, length_push, get_or_push, get_or_append_left}
use Rattle.std.proofs.lemmas.Bool.{lt-ltb, and_from, cond-true, cond_both}

-- one more
pub longer_push : {X : Type 0} (xs ys : List X) (y : X) → Longer xs ys → Longer xs (ys ++ y ∷ [])
longer_push xs ys y l = (l.0 ++ y ∷ [], ap (λ zs. zs ++ y ∷ []) l.1 ∙ append_assoc xs l.0 (y ∷ []))

pub longer_same : {X : Type 0} (xs ys : List X) → ys ≡ xs → Longer xs ys
longer_same xs ys e = ([], e ∙ sym (append-nil xs))

pub longer_both : {X : Type 0} (xs ys zs : List X) → Longer xs ys → Longer ys zs → Longer xs zs
longer_both xs ys zs p q = (p.0 ++ q.0, q.1 ∙ (ap (λ l. l ++ q.0) p.1 ∙ append_assoc xs p.0 q.0))

module _ (c : Contents) where
  pub handed_variables : (g : Option Flow) → (handed c g).variables ≡ c.variables
  handed_variables None = refl
  handed_variables (Some g) = cond_both (room_for_flow c g) (with_flow c g) c (λ z. z.variables ≡ c.variables) (λ _. refl) (λ _. refl)

  pub handed_bounds : (g : Option Flow) → (handed c g).bounds ≡ c.bounds
  handed_bounds None = refl
  handed_bounds (Some g) = cond_both (room_for_flow c g) (with_flow c g) c (λ z. z.bounds ≡ c.bounds) (λ _. refl) (λ _. refl)

  pub handed_flows : (xs : List Flow) → Longer xs c.flows → (g : Option Flow) → Longer xs (handed c g).flows
  handed_flows xs l None = l
  handed_flows xs l (Some g) = cond_both (room_for_flow c g) (with_flow c g) c (λ z. Longer xs z.flows) (λ _. longer_push xs c.flows g l) (λ _. l)

abbrev more_flows : Made → Flow → Made
more_flows m f = record { next = m.next; flows = m.flows ++ f ∷ []; bounds = m.bounds; binders = m.binders }

module _ (m : Made) (f : Flow) (fits : Fits (more_flows m f)) where
  long : length (m.flows ++ f ∷ []) ≡ length m.flows + 1
  long = length_push m.flows f

  room_left : length m.flows < most_flows
  room_left = let k = fits.flows in omega (arith, long)

  new_inside : inside most_variables f ≡ true
  new_inside =
      subst (λ g. inside most_variables g ≡ true) (get_or_push m.flows f _ (length m.flows) refl) (fits.closed (length m.flows) (omega (arith, long)))

  fits_before : Fits m
  fits_before = record {
    flows = let k = fits.flows in omega (arith, long);
    bounds = fits.bounds;
    closed = λ i h. subst (λ g. inside most_variables g ≡ true) (get_or_append_left m.flows (f ∷ []) _ i h) (fits.closed i (omega (arith, long)));
    bounded = fits.bounded;
  }

-- with one more flow
pub flow_held : (base o o' : Output) (m : Made) (f : Flow) (g : Option Flow)
    → o'.binders ≡ o.binders
    → o'.made.variables ≡ o.made.variables
    → o'.made.bounds ≡ o.made.bounds
    → o'.made.binders ≡ o.made.binders
    → o'.made.flows ≡ min (o.made.flows + 1) (2 ^ 64 - 1)
    → contents o'.network ≡ handed (contents o.network) g
    → (inside most_variables f ≡ true → g ≡ Some f)
    → Holds base o m
    → Holds base o' (more_flows m f)
flow_held base o o' m f g binders vars bounds noted counted after form h =
    let c = contents o.network in
    record {
      variables = vars ∙ h.variables;
      flows = let k = h.flows in omega (arith, length_push m.flows f);
      bounds = bounds ∙ h.bounds;
      noted = noted ∙ h.noted;
      wide = ap (λ z. z.variables) after ∙ (handed_variables c g ∙ h.wide);
      kept = λ fits.
          let old = h.kept (fits_before m f fits) in
          let inside-now : inside c.variables f ≡ true = subst (λ v. inside v f ≡ true) (sym h.wide) (new_inside m f fits) in
          let room : room_for_flow c f ≡ true =
          and_from (ltb (length c.flows) most_flows) (inside c.variables f) (lt-ltb _ _ (let k = room_left m f fits in omega (arith, ap length old.flows))) inside-now in
          let taken : contents o'.network ≡ with_flow c f = after ∙ (ap (handed c) (form (new_inside m f fits)) ∙ cond-true (room_for_flow c f) (with_flow c f) c room) in
          record { flows = ap (λ z. z.flows) taken ∙ ap (λ fs. fs ++ f ∷ []) old.flows; bounds = ap (λ z. z.bounds) taken ∙ old.bounds };
      binders = λ few. ap vec_items binders ∙ h.binders few;
      grown = record {
        variables = let k = h.grown.variables in omega (arith, ap (λ z. z.variables) after, handed_variables c g);
        flows = subst (λ z. Longer (contents base.network).flows z.flows) (sym after) (handed_flows c _ h.grown.flows g);
        bounds = subst (λ z. Longer (contents base.network).bounds z) (sym (ap (λ z. z.bounds) after ∙ handed_bounds c g)) h.grown.bounds;
        binders = longer_both _ _ _ h.grown.binders (longer_same _ _ (ap vec_items binders));
      };
    }
