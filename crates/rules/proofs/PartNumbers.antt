-- The rules' own parts number in order. Assumes nothing.
use Rattle.std.proofs.Common.{◌≡◌, ℕ, ◌+◌, ◌-◌, ◌≤◌, eqb, ltb, List, [], ◌∷◌, length, Some, None, Option, refl, arith}
use Rattle.flows.specs.declared.flow.Flow.{Flow}
use Rattle.std.proofs.lemmas.Bool.{eqb-true, ltb-true, lt-ltb}
use Rattle.std.specs.List.{AllByRecursion}
use Rattle.syntax.specs.Trees.{Text}
use Rattle.tokens.specs.Marks.{groups_of}
use Rattle.rules.specs.Making.{Levels, from_1, ◌▸◌, give, fresh, makes}
use Rattle.rules.specs.Marks.{marked}
use Rattle.rules.specs.Numbering.{Below}
use Rattle.rules.specs.Parts.{literal, identifier, cell, reached, arithmetic, branches, assigned, limited, returned}
use Rattle.rules.specs.Calls.{Operand, ints, fit, passes, value_of, called}
use Rattle.rules.specs.Scopes.{Sense, a_value, predeclared, function}
use Rattle.rules.proofs.Lower.{Inside, types_more, operands_more, operator_inside, into_inside, mark_inside, value_known, FoundBelow}
use Rattle.rules.proofs.Ordering.{Numbers, Any, then_numbers, give_numbers, refuse_numbers, demand_numbers, fresh_numbers, makes_numbers, limits_numbers}

-- a type that is there
given : (n : ℕ) (t : Levels) → Below n t → Numbers Below n (give t)
given n t b = give_numbers Below n t (λ k l. omega arith)

-- a new type, flows into it, and it is given
made : (n d : ℕ) (fs : Levels → List Flow) → ((k : ℕ) (t : Levels) → n ≤ k → Below k t → t.depth ≡ d → AllByRecursion (Inside k) (fs t)) → Numbers Below n (fresh d ▸ λ t. makes (fs t) ▸ λ _. give t)
made n d fs h = then_numbers _ (fresh_numbers n d) (λ k t l p. then_numbers _ (makes_numbers k (fs t) (h k t l p.0 p.1)) (λ j _ u _. given j t (omega (arith, p.0))))

pub literal_numbers : (n : ℕ) → Numbers Below n literal
literal_numbers n = made n 0 _ (λ k t l b d. (operator_inside k 1 None None t.first refl refl (omega arith), tt))

pub identifier_numbers : (n : ℕ) (x : Text) (s : Option Sense) → FoundBelow n s → Numbers Below n (identifier x s)
identifier_numbers n x None h = refuse_numbers Below n _
identifier_numbers n x (Some (a_value t)) h = given n t h
identifier_numbers n x (Some (predeclared op c)) h = refuse_numbers Below n _
identifier_numbers n x (Some (function ps t)) h = refuse_numbers Below n _

pub cell_numbers : (n at : ℕ) (a : Levels) → Below n a → Numbers Below n (cell at a)
cell_numbers n at a b =
    then_numbers _ (demand_numbers n _ _) (λ k _ l _.
    then_numbers _ (fresh_numbers k (a.depth + 1)) (λ j t u p.
    then_numbers _ (makes_numbers j _ (operator_inside j 1 None None t.first refl refl (omega (arith, p.0)), tt)) (λ i _ v _.
    then_numbers _ (makes_numbers i _ (into_inside i a (from_1 t) (omega arith) (omega (arith, p.0, p.1)))) (λ h _ w _. given h t (omega (arith, p.0))))))

pub reached_numbers : (n at : ℕ) (a : Levels) → Below n a → Numbers Below n (reached at a)
reached_numbers n at a b = then_numbers _ (demand_numbers n (ltb 0 a.depth) _) (λ k _ l p. given k (from_1 a) (omega (arith, ltb-true 0 a.depth p)))

pub arithmetic_numbers : (n at : ℕ) (a : Levels) (bt : ℕ) (b : Levels) → Below n a → Below n b → Numbers Below n (arithmetic at a bt b)
arithmetic_numbers n at a bt b p q =
    then_numbers _ (demand_numbers n _ _) (λ k _ l _. then_numbers _ (demand_numbers k _ _) (λ j _ u _.
    made j 0 _ (λ i t v r d. (operator_inside i 2 (Some a.first) (Some b.first) t.first (lt-ltb a.first i (omega arith)) (lt-ltb b.first i (omega arith)) (omega arith), tt))))

pub branches_numbers : (n at : ℕ) (a : Levels) (bt : ℕ) (b c : Levels) (dt : ℕ) (d : Levels) → Below n c → Below n d → Numbers Below n (branches at a bt b c dt d)
branches_numbers n at a bt b c dt d p q =
    then_numbers _ (demand_numbers n _ _) (λ k₁ _ l₁ _. then_numbers _ (demand_numbers k₁ _ _) (λ k₂ _ l₂ _.
    then_numbers _ (demand_numbers k₂ (eqb d.depth c.depth) _) (λ k₃ _ l₃ same.
    then_numbers _ (fresh_numbers k₃ c.depth) (λ k₄ t l₄ new.
    then_numbers _ (makes_numbers k₄ _ (into_inside k₄ c t (omega arith) (omega (arith, new.0, new.1)))) (λ k₅ _ l₅ _.
    then_numbers _ (makes_numbers k₅ _ (into_inside k₅ d t (omega arith) (omega (arith, new.0, new.1, eqb-true d.depth c.depth same)))) (λ k₆ _ l₆ _.
    given k₆ t (omega (arith, new.0))))))))

pub assigned_numbers : (n pt : ℕ) (p : Levels) (et : ℕ) (e f : Levels) → Below n p → Below n e → Below n f → Numbers Below n (assigned pt p et e f)
assigned_numbers n pt p et e f bp be bf =
    then_numbers _ (demand_numbers n (ltb 0 p.depth) _) (λ k _ l deep. then_numbers _ (demand_numbers k (eqb e.depth (p.depth - 1)) _) (λ j _ u same.
    then_numbers _ (makes_numbers j _ (into_inside j e (from_1 p) (omega arith) (omega (arith, ltb-true 0 p.depth deep, eqb-true e.depth (p.depth - 1) same)))) (λ i _ v _.
    given i f (omega arith))))

pub limited_numbers : (n : ℕ) (k : Text) (a : Levels) (found : Option ℕ) → Below n a → Numbers Below n (limited k a found)
limited_numbers n k a None b = refuse_numbers Below n _
limited_numbers n k a (Some name) b = then_numbers _ (limits_numbers n _ (omega arith)) (λ j _ l _. given j a (omega arith))

-- each argument has its parameter's depth
abbrev Fitted : List Operand → List Levels → Type 0
Fitted [] ps = Unit {0}
Fitted (a ∷ args) [] = Unit {0}
Fitted (a ∷ args) (p ∷ ps) = (a.levels.depth ≡ p.depth) × Fitted args ps

fit_numbers : (n : ℕ) (args : List Operand) (ps : List Levels) → Numbers (λ _ _. Fitted args ps) n (fit args ps)
fit_numbers n [] ps = give_numbers _ n tt (λ _ _. tt)
fit_numbers n (a ∷ args) [] = give_numbers _ n tt (λ _ _. tt)
fit_numbers n (a ∷ args) (p ∷ ps) =
    then_numbers _ (demand_numbers n (eqb a.levels.depth p.depth) _) (λ k _ l same. with_first k a.levels.depth p.depth args ps (eqb-true a.levels.depth p.depth same) (fit_numbers k args ps))
  where
    with_first : (k x y : ℕ) (args : List Operand) (ps : List Levels) → x ≡ y → Numbers (λ _ _. Fitted args ps) k (fit args ps) → Numbers (λ _ _. (x ≡ y) × Fitted args ps) k (fit args ps)
    with_first k x y args ps e h = record { after = λ m m' u g l neat. let d = h.after m m' u g l neat in (d.0, d.1, (e, d.2)) }

ints_numbers : (n : ℕ) (args : List Operand) → Numbers Any n (ints args)
ints_numbers n [] = give_numbers Any n tt (λ _ _. tt)
ints_numbers n (a ∷ args) = then_numbers _ (demand_numbers n _ _) (λ k _ l _. ints_numbers k args)

passes_numbers : (n : ℕ) (args : List Operand) (ps : List Levels) → AllByRecursion (λ a. Below n a.levels) args → AllByRecursion (Below n) ps → Fitted args ps → Numbers Any n (passes args ps)
passes_numbers n [] ps h k f = give_numbers Any n tt (λ _ _. tt)
passes_numbers n (a ∷ args) [] h k f = give_numbers Any n tt (λ _ _. tt)
passes_numbers n (a ∷ args) (p ∷ ps) h k f =
    then_numbers _ (makes_numbers n _ (into_inside n a.levels p h.0 (omega (arith, k.0, f.0)))) (λ j _ l _.
    passes_numbers j args ps (operands_more n j l args h.1) (types_more n j l ps k.1) f.1)

pub called_numbers : (n : ℕ) (f : Text) (args : List Operand) (s : Option Sense) → AllByRecursion (λ a. Below n a.levels) args → FoundBelow n s → Numbers Below n (called f args s)
called_numbers n f args None h b = refuse_numbers Below n _
called_numbers n f args (Some (a_value t)) h b = refuse_numbers Below n _
called_numbers n f args (Some (predeclared op c)) h b =
    then_numbers _ (demand_numbers n _ _) (λ k _ l _. then_numbers _ (ints_numbers k args) (λ j _ u _.
    made j 0 _ (λ i t v r d.
    let there = operands_more n i (omega arith) args h in
    (operator_inside i op (value_of args 0) (value_of args 1) t.first (value_known i args 0 there) (value_known i args 1 there) (omega arith), tt))))
called_numbers n f args (Some (function ps t)) h b =
    then_numbers _ (demand_numbers n _ _) (λ k _ l _. then_numbers _ (fit_numbers k args ps) (λ j _ u fitted.
    then_numbers _ (passes_numbers j args ps (operands_more n j (omega arith) args h) (types_more n j (omega arith) ps b.0) fitted) (λ i _ v _. given i t (omega (arith, b.1)))))

pub returned_numbers : (n at : ℕ) (u t : Levels) → Below n u → Below n t → Numbers Any n (returned at u t)
returned_numbers n at u t p q =
    then_numbers _ (demand_numbers n (eqb u.depth t.depth) _) (λ k _ l same. makes_numbers k _ (into_inside k u t (omega arith) (omega (arith, eqb-true u.depth t.depth same))))

pub marked_numbers : (n : ℕ) (find : List ℕ → Option ℕ) (mark : Option Text) (t : Levels) → Below n t → Numbers Any n (marked find mark t)
marked_numbers n find None t b = give_numbers Any n tt (λ _ _. tt)
marked_numbers n find (Some k) t b =
    then_numbers _ (demand_numbers n _ _) (λ j _ l _. then_numbers _ (demand_numbers j (eqb (length (groups_of k.bytes)) (t.depth + 1)) _) (λ i _ u same.
    makes_numbers i _ (mark_inside i find (groups_of k.bytes) t.first (omega (arith, eqb-true (length (groups_of k.bytes)) (t.depth + 1) same)))))
