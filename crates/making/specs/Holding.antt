-- How the code's state holds what is made, and what it is for code to follow a step. Assumes nothing.
use Rattle.std.specs.Prelude.{◌≡◌, ℕ, ◌-◌, ◌^◌, ◌≤◌, min, List, map, length, Some, None, Ok, Err, vec_items, Option, Result}
use Rattle.flows.specs.Limits.{most_variables, most_flows, most_bounds}
use Rattle.flows.specs.Networks.{Contents, contents, Closed, Bounded}
use Rattle.refusals.specs.declared.refusal.Refusal.{Refusal}
use Rattle.rules.specs.Calls.{Operand as Argument}
use Rattle.rules.specs.Making.{Levels as TypeLevels, Spot as MarkSpot, stands, would_go, Binder as Noted, Made, Step}
use Rattle.rules.specs.Staying.{Longer}
use Rattle.making.specs.declared.output.Binder.{Binder}
use Rattle.making.specs.declared.output.Levels.{Levels}
use Rattle.making.specs.declared.output.Operand.{Operand}
use Rattle.making.specs.declared.output.Output.{Output}
use Rattle.making.specs.declared.output.Spot.{Spot}
use Rattle.making.specs.declared.output.Spot.TheVariants.{Stands, WouldGo}

-- counts and numbers stop at the greatest
abbrev pub clip : ℕ → ℕ
clip n = min n (2 ^ 64 - 1)

abbrev pub clip_source : Option ℕ → Option ℕ
clip_source None = None
clip_source (Some v) = Some (clip v)

abbrev pub clip_levels : TypeLevels → Levels
clip_levels t = record { first = clip t.first; depth = t.depth }

abbrev pub clip_spot : MarkSpot → Spot
clip_spot (stands at size) = Stands (clip at) (clip size)
clip_spot (would_go at) = WouldGo (clip at)

abbrev pub clip_binder : Noted → Binder
clip_binder b = record { levels = clip_levels b.levels; spot = clip_spot b.spot }

abbrev pub clip_operand : Argument → Operand
clip_operand a = record { place = a.place; levels = clip_levels a.levels }

-- a type or a binder of the code stands for one of the rules
abbrev pub SameLevels : Levels → TypeLevels → Type 0
SameLevels x t = x ≡ clip_levels t

abbrev pub SameBinder : Binder → Noted → Type 0
SameBinder x b = x ≡ clip_binder b

abbrev pub SameTypes : List Levels → List TypeLevels → Type 0
SameTypes xs ts = xs ≡ map clip_levels ts

abbrev pub SameOperands : List Operand → List Argument → Type 0
SameOperands xs args = xs ≡ map clip_operand args

-- an answer that stands for itself
abbrev pub Itself : {X : Type 0} → X → X → Type 0
Itself x y = x ≡ y

abbrev pub most_binders : ℕ
most_binders = 256

-- the flows and bounds fit into a network
pub record Fits (m : Made) : Type 0 where
  pub flows : length m.flows ≤ most_flows
  pub bounds : length m.bounds ≤ most_bounds
  pub closed : Closed most_variables m.flows
  pub bounded : Bounded most_variables m.bounds

-- all that was there is still there, and can be cut back to
pub record Grown (old new : Output) : Type 0 where
  pub variables : (contents old.network).variables ≤ (contents new.network).variables
  pub flows : Longer (contents old.network).flows (contents new.network).flows
  pub bounds : Longer (contents old.network).bounds (contents new.network).bounds
  pub binders : Longer (vec_items old.binders) (vec_items new.binders)

-- the flows and bounds that are made, where they fit
pub record Kept (c : Contents) (m : Made) : Type 0 where
  pub flows : c.flows ≡ m.flows
  pub bounds : c.bounds ≡ m.bounds

-- the state holds what is made, and all that was there at `base`
pub record Holds (base : Output) (o : Output) (m : Made) : Type 0 where
  pub variables : o.made.variables ≡ clip m.next
  pub flows : o.made.flows ≡ clip (length m.flows)
  pub bounds : o.made.bounds ≡ clip (length m.bounds)
  pub noted : o.made.binders ≡ clip (length m.binders)
  pub wide : (contents o.network).variables ≡ most_variables
  pub kept : Fits m → Kept (contents o.network) m
  pub binders : length m.binders ≤ most_binders → vec_items o.binders ≡ map clip_binder m.binders
  pub grown : Grown base o

-- the code's answer stands for that of the rules, or both refuse alike. H says how the code's state holds what is made, G what a
-- refusal leaves as it was
abbrev pub Agrees : {S X T : Type 0} → (S → Made → Type 0) → (S → Type 0) → (X → T → Type 0) → Result X Refusal → S → Result (T × Made) Refusal → Type 0
Agrees {T = T} H G Same (Ok x) s a = (t : T) × (m : Made) × (a ≡ Ok (t, m)) × Same x t × H s m
Agrees H G Same (Err e) s a = (a ≡ Err e) × G s

-- from a state that holds what was made, to one that holds what the step makes
pub record Follows {S X T : Type 0} (H : S → Made → Type 0) (G : S → Type 0) (Same : X → T → Type 0) (before after : S) (r : Result X Refusal) (step : Step T) : Type 0 where
  pub agrees : (m : Made) → H before m → Agrees H G Same r after (step m)
