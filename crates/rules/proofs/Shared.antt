-- References share what they hold, for a kind that keeps its laws. Assumes nothing.
use Rattle.std.proofs.Common.{◌≡◌, ℕ, zero, suc, ◌+◌, ◌≤◌, true, List, [], ◌∷◌, ◌++◌, Option, sym, refl, ◌∙◌, subst, ⊎_elim, arith}
use Rattle.flows.specs.declared.flow.Flow.{Flow}
use Rattle.flows.specs.Flows.{met, Meets}
use Rattle.kinds.specs.declared.kind.Kind.{Ghosts as Kind}
use Rattle.kinds.specs.Lawful.{Lawful}
use Rattle.std.proofs.ByRecursion.{All-from_get_or}
use Rattle.std.proofs.lemmas.Bool.{cases_eq}
use Rattle.std.specs.List.{AllByRecursion}
use Rattle.syntax.specs.Trees.{Expr, Assign}
use Rattle.rules.specs.Making.{Levels, from_1, Made, move, both_ways, into}
use Rattle.rules.specs.References.{Among, Equal, Shares, Linked, same, onward, back, Seen, Stored, Shared}
use Rattle.rules.proofs.Poured.{Pours, among_longer, val_pours, cell_is, assigned_pours, branch_pours, body_pours, call_pours}
use Rattle.syntax.specs.Starts.{start}
use Rattle.rules.specs.Positions.{Walked}
use Rattle.rules.specs.Rules.{infers}
use Rattle.rules.proofs.Steps.{invert}
use Rattle.rules.proofs.Grown.{extends_trans, assigned_grows}
use Rattle.rules.proofs.Walked.{infers_grows, all_stay}
use Rattle.rules.proofs.Reached.{script_reaches}

all_left : {X : Type 0} (P : X → Type 0) (xs ys : List X) → AllByRecursion P (xs ++ ys) → AllByRecursion P xs
all_left P [] ys h = tt
all_left P (x ∷ xs) ys h = (h.0, all_left P xs ys h.1)

all_right : {X : Type 0} (P : X → Type 0) (xs ys : List X) → AllByRecursion P (xs ++ ys) → AllByRecursion P ys
all_right P [] ys h = h
all_right P (x ∷ xs) ys h = all_right P xs ys h.1

module _ {K : Type 0} (kind : Kind K) (lawful : Lawful kind) where
  abbrev Met : (ℕ → K) → Flow → Type 0
  Met a f = met kind a f ≡ true

  part_met : (a : ℕ → K) (part flows : List Flow) → Among part flows → Meets kind flows a → AllByRecursion (Met a) part
  part_met a part flows p h = all_left (Met a) part p.1 (all_right (Met a) p.0 (part ++ p.1) (subst (AllByRecursion (Met a)) p.2 (All-from_get_or (Met a) flows _ h)))

  -- a move that is met
  under : (a : ℕ → K) (s t : ℕ) → Met a (move s t) → kind.below (a s) (a t) ≡ true
  under a s t h = subst (λ z. kind.below z (a t) ≡ true) (lawful.operators.move (a s) kind.bottom) h

  levels_equal : (a : ℕ → K) (s t d : ℕ) → AllByRecursion (Met a) (both_ways s t d) → (i : ℕ) → 1 ≤ i → i ≤ d → a (s + i) ≡ a (t + i)
  levels_equal a s t zero h i l u = absurd (omega arith)
  levels_equal a s t (suc d) h i l u =
      let last = all_right (Met a) (both_ways s t d) (move (s + (d + 1)) (t + (d + 1)) ∷ move (t + (d + 1)) (s + (d + 1)) ∷ []) h in
      ⊎_elim
      (λ e. subst (λ n. a (s + n) ≡ a (t + n)) (sym e) (lawful.order.antisymmetric (a (s + (d + 1))) (a (t + (d + 1))) (under a _ _ last.0) (under a _ _ last.1.0)))
      (λ n. levels_equal a s t d (all_left (Met a) (both_ways s t d) _ h) i l (omega arith))
      (cases_eq i (d + 1))

  flowing : (s t : Levels) (flows : List Flow) → Among (into s t) flows → (a : ℕ → K) → Meets kind flows a → Equal a s t
  flowing s t flows p a h = levels_equal a s.first t.first s.depth (part_met a (into s t) flows p h).1

  shares : (flows : List Flow) (s t : Levels) → Pours flows s t → Shares kind flows s t
  shares flows s t p = record { depth = p.0; among = p.1; equal = flowing s t flows p.1 }

  -- level 1 is the same all along a chain
  along : (a : ℕ → K) {flows : List Flow} {p q : Levels} → Linked flows p q → Meets kind flows a → a (p.first + 1) ≡ a (q.first + 1)
  along a same h = refl
  along a (onward {p} {q} l k p-q more) h = flowing p q _ p-q a h 1 (omega arith) l ∙ along a more h
  along a (back {p} {q} l k q-p more) h = sym (flowing q p _ q-p a h 1 (omega arith) k) ∙ along a more h

  stored : (e p : Levels) (flows : List Flow) → Among (into e (from_1 p)) flows → Seen kind flows e p
  stored e p flows among q chain a h =
      let one = along a chain h in
      (subst (λ z. kind.below (a e.first) z ≡ true) one (under a e.first (p.first + 1) (part_met a (into e (from_1 p)) flows among h).0), one)

  -- an assignment that has been walked
  stored_in : (find : List ℕ → Option ℕ) (at : ℕ) (p e f : Expr) (t : Levels) (m : Made) → Walked find (Assign at p e f) t m → Stored kind find p e m
  stored_in find at p e f t m w =
      let one = invert (infers find w.scope p) _ w.before w.gives in
      let two = invert (infers find w.scope e) _ one.1 one.3 in
      let three = invert (infers find w.scope f) _ two.1 two.3 in
      let poured = assigned_pours (start p) (start e) one.0 two.0 three.0 three.1 w.after t three.3 in
      let late = among_longer (into two.0 (from_1 one.0)) w.after.flows m.flows poured.1.1 w.stays.flows in
      let to-three = (infers_grows find w.scope f).more two.1 three.1 three.0 three.2 in
      let from-three = extends_trans three.1 w.after m ((assigned_grows (start p) one.0 (start e) two.0 three.0).more three.1 w.after t three.3) w.stays in
      let from-two = extends_trans two.1 three.1 m to-three from-three in
      let from_one = extends_trans one.1 two.1 m ((infers_grows find w.scope e).more one.1 two.1 two.0 two.2) from-two in
      record {
        target = one.0;
        source = two.0;
        p_walked = record { scope = w.scope; before = w.before; after = one.1; gives = one.2; stays = from_one };
        e_walked = record { scope = w.scope; before = one.1; after = two.1; gives = two.2; stays = from-two };
        shares = shares m.flows two.0 (from_1 one.0) (poured.1.0, late);
        seen = stored two.0 one.0 m.flows late;
      }

  pub all_shared : Shared kind
  all_shared = record {
    flowing = flowing;
    staying = all_stay;
    lasting = λ s t m m' p x. shares m'.flows s t (p.depth, among_longer (into s t) m.flows m'.flows p.among x.flows);
    val = λ find x mark e m m' new h. let p = val_pours find x mark e m m' new h in (p.0, p.1, shares m'.flows e p.0 p.2);
    new_cell = λ at e m m' t h. let p = cell_is at e m m' t h in (p.1, shares m'.flows e (from_1 t) (omega (arith, p.1), p.2));
    fresh_cell = λ at e m m' t h i. omega (arith, (cell_is at e m m' t h).0);
    apart = λ at e m m' t h l i j k same. omega (arith, (cell_is at e m m' t h).0);
    assignment = λ pt et p e f m m' t h. let q = assigned_pours pt et p e f m m' t h in (q.0, shares m'.flows e (from_1 p) q.1);
    call = λ f args ps result m m' t h. let q = call_pours f args ps result m m' t h in (q.0, λ i a p l. shares m'.flows _ _ (q.1 i a p l));
    branch = λ at bt dt a b c d m m' t h. let q = branch_pours at bt dt a b c d m m' t h in (shares m'.flows c t q.0, shares m'.flows d t q.1);
    body = λ at u t m m' h. shares m'.flows u t (body_pours at u t m m' h);
    stored = stored;
    anywhere = λ find at p e f Σ Σ' ds m m' place h. let w = (script_reaches find (Assign at p e f) Σ place).always m m' Σ' h in stored_in find at p e f w.0 m' w.1;
  }
