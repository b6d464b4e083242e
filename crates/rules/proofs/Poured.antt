-- Which flows a rule's own part makes. Assumes nothing.
use Rattle.std.proofs.Common.{◌≡◌, ℕ, zero, suc, ◌+◌, ◌-◌, ◌<◌, ◌≤◌, Bool, true, false, eqb, ltb, List, [], ◌∷◌, ◌++◌, length, get_or, Some, Option, sym, ap, ◌∙◌, subst, append_assoc, arith}
use Rattle.flows.specs.declared.flow.Flow.{Flow}
use Rattle.refusals.specs.declared.refusal.Refusal.TheVariants.{Unfit}
use Rattle.std.proofs.lemmas.List.{append-nil}
use Rattle.std.proofs.lemmas.Bool.{eqb-true, ltb-true}
use Rattle.syntax.specs.Trees.{Text}
use Rattle.rules.specs.Making.{Levels, from_1, Made, Step, ◌▸◌, give, demand, fresh, makes, notes, literal_flow, into}
use Rattle.rules.specs.Marks.{marked}
use Rattle.rules.specs.Scopes.{a_value, function, Binding, bind}
use Rattle.rules.specs.Parts.{deepest, cell, assigned, branches, returned}
use Rattle.rules.specs.Calls.{Operand, fit, passes, called}
use Rattle.rules.specs.Binders.{valued}
use Rattle.rules.specs.Staying.{Gives, Longer}
use Rattle.rules.specs.References.{Among}
use Rattle.rules.proofs.Steps.{same_made, same_answer, never, invert, demanded}
use Rattle.rules.proofs.Grown.{Grows, then_grows, give_grows, makes_grows, notes_grows, marked_grows, passes_grows}

-- s flows into t, of the same depth
abbrev pub Pours : List Flow → Levels → Levels → Type 0
Pours flows s t = (s.depth ≡ t.depth) × Among (into s t) flows

pub among_longer : (part xs ys : List Flow) → Among part xs → Longer xs ys → Among part ys
among_longer part xs ys p q =
    (p.0, p.1 ++ q.0, q.1 ∙ (ap (λ z. z ++ q.0) p.2 ∙ (append_assoc p.0 (part ++ p.1) q.0 ∙ ap (λ z. p.0 ++ z) (append_assoc part p.1 q.0))))

-- flows are made first, and then more
makes_first : {X : Type 0} (fs : List Flow) (g : Unit {0} → Step X) → ((u : Unit {0}) → Grows (g u)) → (m m' : Made) (x : X) → Gives (makes fs ▸ g) m x m' → Among fs m'.flows
makes_first fs g grows m m' x h =
    let d = invert (makes fs) g m h in
    let more = ((grows d.0).more d.1 m' x d.3).flows in
    (m.flows, more.0, more.1 ∙ (ap (λ z. z.flows ++ more.0) (sym (same_made d.2)) ∙ append_assoc m.flows fs more.0))

same_depth : (x y place : ℕ) (m m' : Made) (u : Unit {0}) → Gives (demand (eqb x y) (Unfit place)) m u m' → x ≡ y
same_depth x y place m m' u h = eqb-true x y (demanded (eqb x y) (Unfit place) m m' u h)

-- a demand makes nothing
kept : (b : Bool) (place : ℕ) (m m' : Made) (u : Unit {0}) → Gives (demand b (Unfit place)) m u m' → m ≡ m'
kept true place m m' u h = same_made h
kept false place m m' u h = absurd (never h)

pub val_pours : (find : List ℕ → Option ℕ) (x : Text) (mark : Option Text) (e : Levels) (m m' : Made) (new : Binding)
    → Gives (valued find x mark e) m new m'
    → (t : Levels) × (new ≡ bind x.bytes (a_value t)) × Pours m'.flows e t
val_pours find x mark e m m' new h =
    let d = invert (fresh e.depth) _ m h in
    let p = invert (makes (into e d.0)) _ d.1 d.3 in
    let q = invert (notes _) _ p.1 p.3 in
    let r = invert (marked find mark d.0) _ q.1 q.3 in (
      d.0,
      sym (same_answer r.3),
      (
        ap (λ z. z.depth) (same_answer d.2),
        makes_first (into e d.0) _ (λ _. then_grows _ (notes_grows _) (λ _. then_grows _ (marked_grows find mark d.0) (λ _. give_grows _))) d.1 m' new d.3,
      ),
    )

-- a new cell's type is new
pub cell_is : (at : ℕ) (e : Levels) (m m' : Made) (t : Levels) → Gives (cell at e) m t m' → (t.first ≡ m.next) × (t.depth ≡ e.depth + 1) × Among (into e (from_1 t)) m'.flows
cell_is at e m m' t h =
    let d = invert (demand (ltb e.depth deepest) (Unfit at)) _ m h in
    let p = invert (fresh (e.depth + 1)) _ d.1 d.3 in
    let q = invert (makes (literal_flow p.0.first ∷ [])) _ p.1 p.3 in
    let r = invert (makes (into e (from_1 p.0))) _ q.1 q.3 in
    let is = sym (same_answer r.3) in
    let new = sym (same_answer p.2) in (
      ap (λ z. z.first) is ∙ (ap (λ z. z.first) new ∙ sym (ap (λ z. z.next) (kept (ltb e.depth deepest) at m d.1 d.0 d.2))),
      ap (λ z. z.depth) is ∙ ap (λ z. z.depth) new,
      subst (λ z. Among (into e (from_1 z)) m'.flows) (sym is) (makes_first (into e (from_1 p.0)) _ (λ _. give_grows p.0) q.1 m' t q.3),
    )

pub assigned_pours : (pt et : ℕ) (p e f : Levels) (m m' : Made) (t : Levels) → Gives (assigned pt p et e f) m t m' → (1 ≤ p.depth) × Pours m'.flows e (from_1 p)
assigned_pours pt et p e f m m' t h =
    let d = invert (demand (ltb 0 p.depth) (Unfit pt)) _ m h in
    let q = invert (demand (eqb e.depth (p.depth - 1)) (Unfit et)) _ d.1 d.3 in (
      ltb-true 0 p.depth (demanded (ltb 0 p.depth) (Unfit pt) m d.1 d.0 d.2),
      (same_depth e.depth (p.depth - 1) et d.1 q.1 q.0 q.2, makes_first (into e (from_1 p)) _ (λ _. give_grows f) q.1 m' t q.3),
    )

-- two types flow into a new one
both_pour : (c d : Levels) (m m' : Made) (t : Levels) → d.depth ≡ c.depth
    → Gives (fresh c.depth ▸ λ t. makes (into c t) ▸ λ _. makes (into d t) ▸ λ _. give t) m t m' → Pours m'.flows c t × Pours m'.flows d t
both_pour c d m m' t deep h =
    let p = invert (fresh c.depth) _ m h in
    let q = invert (makes (into c p.0)) _ p.1 p.3 in
    let r = invert (makes (into d p.0)) _ q.1 q.3 in
    let is = same_answer r.3 in
    let new = ap (λ z. z.depth) (same_answer p.2) ∙ ap (λ z. z.depth) is in (
      (new, subst (λ z. Among (into c z) m'.flows) is (makes_first (into c p.0) _ (λ _. then_grows _ (makes_grows _) (λ _. give_grows p.0)) p.1 m' t p.3)),
      (deep ∙ new, subst (λ z. Among (into d z) m'.flows) is (makes_first (into d p.0) _ (λ _. give_grows p.0) q.1 m' t q.3)),
    )

pub branch_pours : (at bt dt : ℕ) (a b c d : Levels) (m m' : Made) (t : Levels) → Gives (branches at a bt b c dt d) m t m' → Pours m'.flows c t × Pours m'.flows d t
branch_pours at bt dt a b c d m m' t h =
    let p = invert (demand (eqb a.depth 0) (Unfit at)) _ m h in
    let q = invert (demand (eqb b.depth 0) (Unfit bt)) _ p.1 p.3 in
    let r = invert (demand (eqb d.depth c.depth) (Unfit dt)) _ q.1 q.3 in
    both_pour c d r.1 m' t (same_depth d.depth c.depth dt q.1 r.1 r.0 r.2) r.3

pub body_pours : (at : ℕ) (u t : Levels) (m m' : Made) → Gives (returned at u t) m tt m' → Pours m'.flows u t
body_pours at u t m m' h =
    let d = invert (demand (eqb u.depth t.depth) (Unfit at)) _ m h in
    (same_depth u.depth t.depth at m d.1 d.0 d.2, (d.1.flows, [], sym (ap (λ z. z.flows) (same_made d.3)) ∙ ap (λ z. d.1.flows ++ z) (sym (append-nil (into u t)))))

-- the depths of arguments and parameters agree
fits : (args : List Operand) (ps : List Levels) (m m' : Made) (u : Unit {0}) → Gives (fit args ps) m u m'
    → (i : ℕ) (a : Operand) (p : Levels) → i < length args → i < length ps → (get_or args i a).levels.depth ≡ (get_or ps i p).depth
fits [] ps m m' u h i a p l k = absurd (omega arith)
fits (o ∷ args) [] m m' u h i a p l k = absurd (omega arith)
fits (o ∷ args) (q ∷ ps) m m' u h zero a p l k =
    let d = invert (demand (eqb o.levels.depth q.depth) (Unfit o.place)) (λ _. fit args ps) m h in
    same_depth o.levels.depth q.depth o.place m d.1 d.0 d.2
fits (o ∷ args) (q ∷ ps) m m' u h (suc i) a p l k =
    let d = invert (demand (eqb o.levels.depth q.depth) (Unfit o.place)) (λ _. fit args ps) m h in
    fits args ps d.1 m' u d.3 i a p (omega arith) (omega arith)

passes_pour : (args : List Operand) (ps : List Levels) (m m' : Made) (u : Unit {0}) → Gives (passes args ps) m u m'
    → (i : ℕ) (a : Operand) (p : Levels) → i < length args → i < length ps → Among (into (get_or args i a).levels (get_or ps i p)) m'.flows
passes_pour [] ps m m' u h i a p l k = absurd (omega arith)
passes_pour (o ∷ args) [] m m' u h i a p l k = absurd (omega arith)
passes_pour (o ∷ args) (q ∷ ps) m m' u h zero a p l k = makes_first (into o.levels q) (λ _. passes args ps) (λ _. passes_grows args ps) m m' u h
passes_pour (o ∷ args) (q ∷ ps) m m' u h (suc i) a p l k =
    let d = invert (makes (into o.levels q)) (λ _. passes args ps) m h in
    passes_pour args ps d.1 m' u d.3 i a p (omega arith) (omega arith)

pub call_pours : (f : Text) (args : List Operand) (ps : List Levels) (result : Levels) (m m' : Made) (t : Levels)
    → Gives (called f args (Some (function ps result))) m t m'
    → (length args ≡ length ps) × ((i : ℕ) (a : Operand) (p : Levels) → i < length args → Pours m'.flows (get_or args i a).levels (get_or ps i p))
call_pours f args ps result m m' t h =
    let d = invert (demand (eqb (length args) (length ps)) (Unfit f.place)) _ m h in
    let q = invert (fit args ps) _ d.1 d.3 in
    let r = invert (passes args ps) _ q.1 q.3 in
    let count : length args ≡ length ps = same_depth (length args) (length ps) f.place m d.1 d.0 d.2 in (
      count,
      λ i a p l. (
        fits args ps d.1 q.1 q.0 q.2 i a p l (omega arith),
        among_longer (into (get_or args i a).levels (get_or ps i p)) r.1.flows m'.flows (passes_pour args ps q.1 r.1 r.0 r.2 i a p l (omega arith)) ((give_grows result).more r.1 m' t r.3).flows,
      ),
    )
