-- Within how many levels of nesting each token of a tree stands. Assumes nothing.
use Rattle.std.specs.Prelude.{ℕ, zero, suc, ◌+◌, ◌≤◌, List, [], ◌∷◌, ◌++◌, Some, None, Option}
use Rattle.syntax.specs.Trees.{Text, Expr, Literal, Variable, Group, Assign, Let, Bounded, Ref, Read, Call, Arith, If, Arguments, Last, More, Bindings, Final, Then, Parameter, Parameters, Sole, And, Declaration, Val, Fun}

-- at most so many may be open
abbrev pub most_levels : ℕ
most_levels = 32

-- a mark, or none, where d are open, and what follows it
abbrev pub marked : Option Text → ℕ → List ℕ → List ℕ
marked None d later = later
marked (Some x) d later = d ∷ later

abbrev pub refs : ℕ → ℕ → List ℕ
refs zero d = []
refs (suc n) d = d ∷ refs n d

-- A bracket, a call's brackets, a `let` and an `if` open a level, in which all of their tokens stand, the first and the last among them.
-- nested e d: within how many levels each token of e stands, where e itself stands within d
abbrev mutual
  pub nested : Expr → ℕ → List ℕ
  nested (Literal x) d = d ∷ []
  nested (Variable x) d = d ∷ []
  nested (Group n e) d = (d + 1) ∷ (nested e (d + 1) ++ ((d + 1) ∷ []))
  nested (Assign n a b c) d =
      (d + 1) ∷ (nested a (d + 1) ++ ((d + 1) ∷ (nested b (d + 1) ++ ((d + 1) ∷ (nested c (d + 1) ++ ((d + 1) ∷ []))))))
  nested (Let n vals e) d =
      (d + 1) ∷ ((d + 1) ∷ (nested_vals vals (d + 1) ++ ((d + 1) ∷ (nested e (d + 1) ++ ((d + 1) ∷ [])))))
  nested (Bounded e x) d = nested e d ++ (d ∷ [])
  nested (Ref n e) d = d ∷ nested e d
  nested (Read n e) d = d ∷ nested e d
  nested (Call f args) d = d ∷ ((d + 1) ∷ (nested_args args (d + 1) ++ ((d + 1) ∷ [])))
  nested (Arith a n o b) d = nested a d ++ (d ∷ nested b d)
  nested (If n a b c e) d =
      (d + 1) ∷ (nested a (d + 1) ++ ((d + 1) ∷ (nested b (d + 1) ++ ((d + 1) ∷ (nested c (d + 1) ++ ((d + 1) ∷ nested e (d + 1)))))))

  pub nested_args : Arguments → ℕ → List ℕ
  nested_args (Last e) d = nested e d
  nested_args (More e more) d = nested e d ++ (d ∷ nested_args more d)

  pub nested_vals : Bindings → ℕ → List ℕ
  nested_vals (Final x mark e) d = d ∷ marked mark d (d ∷ nested e d)
  nested_vals (Then x mark e more) d = d ∷ marked mark d (d ∷ (nested e d ++ (d ∷ nested_vals more d)))

-- a parameter's tokens, and those after it
abbrev pub nested_par : Parameter → List ℕ → List ℕ
nested_par x later = 0 ∷ marked x.mark 0 (0 ∷ (0 ∷ (refs x.ty.depth 0 ++ later)))

abbrev pub nested_pars : Parameters → List ℕ → List ℕ
nested_pars (Sole x) later = nested_par x later
nested_pars (And x more) later = nested_par x (0 ∷ nested_pars more later)

-- within how many levels each token of a declaration stands
abbrev pub levels_in : Declaration → List ℕ
levels_in (Val x mark e) = 0 ∷ (0 ∷ marked mark 0 (0 ∷ nested e 0))
levels_in (Fun f params t mark e) =
    0 ∷ (0 ∷ (0 ∷ nested_pars params (0 ∷ (0 ∷ (0 ∷ (refs t.depth 0 ++ marked mark 0 (0 ∷ nested e 0)))))))

abbrev pub AtMost : ℕ → List ℕ → Type 0
AtMost n [] = Unit {0}
AtMost n (x ∷ xs) = (x ≤ n) × AtMost n xs
