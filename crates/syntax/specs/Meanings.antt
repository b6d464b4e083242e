-- What the code's trees say. Assumes nothing.
use Rattle.std.specs.Option.{option_map}
use Rattle.std.specs.Prelude.{Option}
use Rattle.syntax.specs.declared.tree.Lexeme.{Lexeme}
use Rattle.syntax.specs.declared.tree.Exp.{Exp}
use Rattle.syntax.specs.declared.tree.Args.{Args}
use Rattle.syntax.specs.declared.tree.Args.TheVariants as code
use Rattle.syntax.specs.declared.tree.Vals.{Vals}
use Rattle.syntax.specs.declared.tree.Param.{Param}
use Rattle.syntax.specs.declared.tree.Params.{Params}
use Rattle.syntax.specs.declared.tree.Params.TheVariants as params
use Rattle.syntax.specs.declared.tree.Dec.{Dec}
use Rattle.syntax.specs.declared.tree.Dec.TheVariants as dec
use Rattle.syntax.specs.Trees.{Text, Expr, Literal, Variable, Group, Assign, Let, Bounded, Ref, Read, Call, Arith, If, Arguments, Last, More, Bindings, Final, Then, Parameter, Parameters, Sole, And, Declaration, Val, Fun}

abbrev pub text_of : Lexeme → Text
text_of x = record { place = x.place; bytes = x.bytes.now }

abbrev pub mark_of : Option Lexeme → Option Text
mark_of mark = option_map text_of mark

abbrev mutual
  pub tree_of : Exp → Expr
  tree_of (code.Literal x) = Literal (text_of x)
  tree_of (code.Variable x) = Variable (text_of x)
  tree_of (code.Group' n p e) = Group n (tree_of e)
  tree_of (code.Assign' n p a q b r c) = Assign n (tree_of a) (tree_of b) (tree_of c)
  tree_of (code.Let' n p vals q e) = Let n (bindings_of vals) (tree_of e)
  tree_of (code.Bounded' p e x) = Bounded (tree_of e) (text_of x)
  tree_of (code.Ref' n p e) = Ref n (tree_of e)
  tree_of (code.Read' n p e) = Read n (tree_of e)
  tree_of (code.Call' f p args) = Call (text_of f) (arguments_of args)
  tree_of (code.Arith' p a n o q b) = Arith (tree_of a) n o (tree_of b)
  tree_of (code.If' n p a q b r c s d) = If n (tree_of a) (tree_of b) (tree_of c) (tree_of d)

  pub arguments_of : Args → Arguments
  arguments_of (code.Last' p e) = Last (tree_of e)
  arguments_of (code.More' p e q more) = More (tree_of e) (arguments_of more)

  pub bindings_of : Vals → Bindings
  bindings_of (code.Final' x mark p e) = Final (text_of x) (mark_of mark) (tree_of e)
  bindings_of (code.Then' x mark p e q more) = Then (text_of x) (mark_of mark) (tree_of e) (bindings_of more)

abbrev pub parameter_of : Param → Parameter
parameter_of x = record { name = text_of x.name; mark = mark_of x.mark; ty = x.ty }

abbrev pub parameters_of : Params → Parameters
parameters_of (params.Sole x) = Sole (parameter_of x)
parameters_of (params.And' x p more) = And (parameter_of x) (parameters_of more)

abbrev pub declaration_of : Dec → Declaration
declaration_of (dec.Val x mark e) = Val (text_of x) (mark_of mark) (tree_of e)
declaration_of (dec.Fun f ps ty mark e) = Fun (text_of f) (parameters_of ps) ty (mark_of mark) (tree_of e)
