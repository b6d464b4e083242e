-- Declarations as trees, wherever their parts lie in memory. Assumes nothing.
use Rattle.std.specs.Prelude.{ℕ, ◌+◌, List, Option}
use Rattle.syntax.specs.declared.tree.Operator.{Operator}
use Rattle.syntax.specs.declared.tree.Ty.{Ty}

-- a name, digits, or what stands in a mark, with its place
pub record Text : Type 0 where
  pub place : ℕ
  pub bytes : List ℕ

-- a number is the place of the first token, in Arith that of the operator
mutual
  pub data Expr : Type 0 where
    Literal : Text → Expr
    Variable : Text → Expr
    Group : ℕ → Expr → Expr
    Assign : ℕ → Expr → Expr → Expr → Expr  -- (p := e; f)
    Let : ℕ → Bindings → Expr → Expr
    Bounded : Expr → Text → Expr  -- an atom with one more bound mark
    Ref : ℕ → Expr → Expr
    Read : ℕ → Expr → Expr
    Call : Text → Arguments → Expr
    Arith : Expr → ℕ → Operator → Expr → Expr
    If : ℕ → Expr → Expr → Expr → Expr → Expr

  -- one or more
  pub data Arguments : Type 0 where
    Last : Expr → Arguments
    More : Expr → Arguments → Arguments

  -- one or more: name, mark, expression
  pub data Bindings : Type 0 where
    Final : Text → Option Text → Expr → Bindings
    Then : Text → Option Text → Expr → Bindings → Bindings

pub record Parameter : Type 0 where
  pub name : Text
  pub mark : Option Text
  pub ty : Ty

pub data Parameters : Type 0 where
  Sole : Parameter → Parameters
  And : Parameter → Parameters → Parameters

pub data Declaration : Type 0 where
  Val : Text → Option Text → Expr → Declaration
  Fun : Text → Parameters → Ty → Option Text → Expr → Declaration  -- name, parameters, type and mark of the result, body

-- how many parameters
abbrev pub count : Parameters → ℕ
count (Sole x) = 1
count (And x more) = count more + 1
