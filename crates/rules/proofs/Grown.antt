-- A step only adds to what was made. Assumes nothing.
use Rattle.std.proofs.Common.{ℕ, Bool, true, false, List, [], ◌∷◌, ◌++◌, Some, None, Option, sym, refl, ap, ◌∙◌, subst, append_assoc, arith}
use Rattle.flows.specs.declared.flow.Bound.{Bound}
use Rattle.flows.specs.declared.flow.Flow.{Flow}
use Rattle.refusals.specs.declared.refusal.Refusal.{Refusal}
use Rattle.std.proofs.lemmas.List.{append-nil}
use Rattle.syntax.specs.Trees.{Text}
use Rattle.rules.specs.Making.{Levels, Binder, Made, Step, ◌▸◌, give, refuse, demand, fresh, makes, limits, notes}
use Rattle.rules.specs.Marks.{marked}
use Rattle.rules.specs.Scopes.{Sense, a_value, predeclared, function}
use Rattle.rules.specs.Parts.{literal, identifier, cell, reached, arithmetic, branches, assigned, limited, returned}
use Rattle.rules.specs.Calls.{Operand, ints, fit, passes, called}
use Rattle.rules.specs.Staying.{Gives, Longer, Extends}
use Rattle.rules.proofs.Steps.{same_made, never, invert}

as_long : {X : Type 0} (xs : List X) → Longer xs xs
as_long xs = ([], sym (append-nil xs))

longer_trans : {X : Type 0} (xs ys zs : List X) → Longer xs ys → Longer ys zs → Longer xs zs
longer_trans xs ys zs p q = (p.0 ++ q.0, q.1 ∙ (ap (λ z. z ++ q.0) p.1 ∙ append_assoc xs p.0 q.0))

pub extends_refl : (m : Made) → Extends m m
extends_refl m = record { next = omega arith; flows = as_long m.flows; bounds = as_long m.bounds; binders = as_long m.binders }

pub extends_trans : (m n o : Made) → Extends m n → Extends n o → Extends m o
extends_trans m n o p q = record {
  next = omega arith;
  flows = longer_trans m.flows n.flows o.flows p.flows q.flows;
  bounds = longer_trans m.bounds n.bounds o.bounds p.bounds q.bounds;
  binders = longer_trans m.binders n.binders o.binders p.binders q.binders;
}

pub record Grows {X : Type 0} (f : Step X) : Type 0 where
  pub more : (m m' : Made) (x : X) → Gives f m x m' → Extends m m'

pub then_grows : {X Y : Type 0} {f : Step X} (g : X → Step Y) → Grows f → ((x : X) → Grows (g x)) → Grows (f ▸ g)
then_grows {f = f} g p q = record {
  more = λ m m' y h. let d = invert f g m h in extends_trans m d.1 m' (p.more m d.1 d.0 d.2) ((q d.0).more d.1 m' y d.3);
}

pub give_grows : {X : Type 0} (x : X) → Grows (give x)
give_grows x = record { more = λ m m' y h. subst (Extends m) (same_made h) (extends_refl m) }

pub refuse_grows : {X : Type 0} (e : Refusal) → Grows (refuse {X = X} e)
refuse_grows e = record { more = λ m m' y h. absurd (never h) }

pub demand_grows : (b : Bool) (e : Refusal) → Grows (demand b e)
demand_grows true e = give_grows tt
demand_grows false e = refuse_grows e

pub fresh_grows : (d : ℕ) → Grows (fresh d)
fresh_grows d = record {
  more = λ m m' y h. subst (Extends m) (same_made h) (record { next = omega arith; flows = as_long m.flows; bounds = as_long m.bounds; binders = as_long m.binders });
}

pub makes_grows : (fs : List Flow) → Grows (makes fs)
makes_grows fs = record {
  more = λ m m' y h. subst (Extends m) (same_made h) (record { next = omega arith; flows = (fs, refl); bounds = as_long m.bounds; binders = as_long m.binders });
}

pub limits_grows : (b : Bound) → Grows (limits b)
limits_grows b = record {
  more = λ m m' y h. subst (Extends m) (same_made h) (record { next = omega arith; flows = as_long m.flows; bounds = (b ∷ [], refl); binders = as_long m.binders });
}

pub notes_grows : (b : Binder) → Grows (notes b)
notes_grows b = record {
  more = λ m m' y h. subst (Extends m) (same_made h) (record { next = omega arith; flows = as_long m.flows; bounds = as_long m.bounds; binders = (b ∷ [], refl) });
}

pub marked_grows : (find : List ℕ → Option ℕ) (mark : Option Text) (t : Levels) → Grows (marked find mark t)
marked_grows find None t = give_grows tt
marked_grows find (Some k) t = then_grows _ (demand_grows _ _) (λ _. then_grows _ (demand_grows _ _) (λ _. makes_grows _))

-- a new type, some flows into it, and it is given
made_grows : (d : ℕ) (fs : Levels → List Flow) → Grows (fresh d ▸ λ t. makes (fs t) ▸ λ _. give t)
made_grows d fs = then_grows _ (fresh_grows d) (λ t. then_grows _ (makes_grows (fs t)) (λ _. give_grows t))

pub literal_grows : Grows literal
literal_grows = made_grows 0 _

pub identifier_grows : (x : Text) (s : Option Sense) → Grows (identifier x s)
identifier_grows x None = refuse_grows _
identifier_grows x (Some (a_value t)) = give_grows t
identifier_grows x (Some (predeclared op n)) = refuse_grows _
identifier_grows x (Some (function ps t)) = refuse_grows _

pub cell_grows : (at : ℕ) (a : Levels) → Grows (cell at a)
cell_grows at a =
    then_grows _ (demand_grows _ _) (λ _. then_grows _ (fresh_grows _) (λ t. then_grows _ (makes_grows _) (λ _. then_grows _ (makes_grows _) (λ _. give_grows t))))

pub reached_grows : (at : ℕ) (a : Levels) → Grows (reached at a)
reached_grows at a = then_grows _ (demand_grows _ _) (λ _. give_grows _)

pub arithmetic_grows : (at : ℕ) (a : Levels) (bt : ℕ) (b : Levels) → Grows (arithmetic at a bt b)
arithmetic_grows at a bt b = then_grows _ (demand_grows _ _) (λ _. then_grows _ (demand_grows _ _) (λ _. made_grows 0 _))

pub branches_grows : (at : ℕ) (a : Levels) (bt : ℕ) (b c : Levels) (dt : ℕ) (d : Levels) → Grows (branches at a bt b c dt d)
branches_grows at a bt b c dt d =
    then_grows _ (demand_grows _ _) (λ _. then_grows _ (demand_grows _ _) (λ _. then_grows _ (demand_grows _ _)
    (λ _. then_grows _ (fresh_grows _) (λ t. then_grows _ (makes_grows _) (λ _. then_grows _ (makes_grows _) (λ _. give_grows t))))))

pub assigned_grows : (pt : ℕ) (p : Levels) (et : ℕ) (e f : Levels) → Grows (assigned pt p et e f)
assigned_grows pt p et e f = then_grows _ (demand_grows _ _) (λ _. then_grows _ (demand_grows _ _) (λ _. then_grows _ (makes_grows _) (λ _. give_grows f)))

pub limited_grows : (k : Text) (a : Levels) (n : Option ℕ) → Grows (limited k a n)
limited_grows k a None = refuse_grows _
limited_grows k a (Some n) = then_grows _ (limits_grows _) (λ _. give_grows a)

fit_grows : (args : List Operand) (ps : List Levels) → Grows (fit args ps)
fit_grows [] ps = give_grows tt
fit_grows (a ∷ args) [] = give_grows tt
fit_grows (a ∷ args) (p ∷ ps) = then_grows _ (demand_grows _ _) (λ _. fit_grows args ps)

ints_grows : (args : List Operand) → Grows (ints args)
ints_grows [] = give_grows tt
ints_grows (a ∷ args) = then_grows _ (demand_grows _ _) (λ _. ints_grows args)

pub passes_grows : (args : List Operand) (ps : List Levels) → Grows (passes args ps)
passes_grows [] ps = give_grows tt
passes_grows (a ∷ args) [] = give_grows tt
passes_grows (a ∷ args) (p ∷ ps) = then_grows _ (makes_grows _) (λ _. passes_grows args ps)

pub called_grows : (f : Text) (args : List Operand) (s : Option Sense) → Grows (called f args s)
called_grows f args None = refuse_grows _
called_grows f args (Some (a_value t)) = refuse_grows _
called_grows f args (Some (predeclared op n)) = then_grows _ (demand_grows _ _) (λ _. then_grows _ (ints_grows args) (λ _. made_grows 0 _))
called_grows f args (Some (function ps t)) =
    then_grows _ (demand_grows _ _) (λ _. then_grows _ (fit_grows args ps) (λ _. then_grows _ (passes_grows args ps) (λ _. give_grows t)))

pub returned_grows : (at : ℕ) (u t : Levels) → Grows (returned at u t)
returned_grows at u t = then_grows _ (demand_grows _ _) (λ _. makes_grows _)
