-- A session by the rules, where the names in marks are checked, 0, and entered, 1. Assumes nothing.
use Rattle.std.specs.Prelude.{◌≡◌, ℕ, cond, List, [], ◌∷◌, ◌++◌, Some, None, Ok, codes, Option}
use Prim.Native.String.{String}
use Rattle.flows.specs.declared.flow.Flow.{Flow}
use Rattle.flows.specs.declared.flow.Rule.TheVariants.{Operator}
use Rattle.std.specs.Str.{bytes_eq}
use Rattle.syntax.specs.Trees.{Text, Expr, Literal, Variable, Group, Assign, Bounded, Ref, Read, Call, Last, More, Declaration, Val}
use Rattle.rules.specs.Making.{levels, would_go, Binder, Made, nothing, flow, move, literal_flow}
use Rattle.rules.specs.Scopes.{a_value, Binding, bind, Scope, predeclared_names}
use Rattle.rules.specs.Rules.{script}

abbrev pub find : List ℕ → Option ℕ
find name = cond (bytes_eq (codes "checked") name) (Some 0) (cond (bytes_eq (codes "entered") name) (Some 1) None)

abbrev word : String → ℕ → Text
word s place = record { place = place; bytes = codes s }

abbrev val : String → Expr → Declaration
val x e = Val (word x 4) None e

-- val cap = field(1)
-- val slot = check(cap, 40)
-- val q = ref slot
-- val n = (q := cap; 0)
-- val bad = (!q) (*!entered*)
abbrev pub declarations : List Declaration
declarations =
    val "cap" (Call (word "field" 10) (Last (Literal (word "1" 16))))
    ∷ val "slot" (Call (word "check" 11) (More (Variable (word "cap" 17)) (Last (Literal (word "40" 22)))))
    ∷ val "q" (Ref 8 (Variable (word "slot" 12)))
    ∷ val "n" (Assign 8 (Variable (word "q" 9)) (Variable (word "cap" 14)) (Literal (word "0" 19)))
    ∷ val "bad" (Bounded (Group 10 (Read 11 (Variable (word "q" 12)))) (word "entered" 15))
    ∷ []

-- v0, v1 .. are the variables
abbrev pub flows : List Flow
flows =
    literal_flow 0  -- cap: 1 has v0
    ∷ flow (Operator 3 (Some 0) None) 1  -- field(1) has v1
    ∷ move 1 2  -- cap has v2
    ∷ literal_flow 3  -- slot: 40 has v3
    ∷ flow (Operator 6 (Some 2) (Some 3)) 4  -- check(cap, 40) has v4
    ∷ move 4 5  -- slot has v5
    ∷ literal_flow 6  -- q: the new cell has v6 and v7
    ∷ move 5 7  -- slot flows into what the cell holds
    ∷ move 6 8  -- q has v8 and v9
    ∷ move 7 9
    ∷ move 9 7
    ∷ literal_flow 10  -- n: 0 has v10
    ∷ move 2 9  -- cap flows into what q refers to
    ∷ move 10 11  -- n has v11
    ∷ move 9 12  -- bad: !q has v9, bad has v12
    ∷ []

abbrev binder : ℕ → ℕ → ℕ → Binder
binder first depth end = record { levels = levels first depth; spot = would_go end }

abbrev pub made : Made
made = record {
  next = 13;
  flows = flows;
  bounds = record { name = 1; variable = 9 } ∷ [];
  binders = binder 2 0 7 ∷ binder 5 0 8 ∷ binder 8 1 5 ∷ binder 11 0 5 ∷ binder 12 0 7 ∷ [];
}

abbrev value : String → ℕ → ℕ → Binding
value x first depth = bind (codes x) (a_value (levels first depth))

abbrev pub in_force : Scope
in_force = predeclared_names ++ value "cap" 2 0 ∷ value "slot" 5 0 ∷ value "q" 8 1 ∷ value "n" 11 0 ∷ value "bad" 12 0 ∷ []

abbrev pub Session : Type 0
Session = script find predeclared_names declarations nothing ≡ Ok (in_force, made)
