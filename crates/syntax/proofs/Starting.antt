-- An expression begins where its first token stands. Assumes nothing.
use Rattle.std.proofs.Common.{◌≡◌, ℕ, List, ◌∷◌, refl}
use Rattle.tokens.specs.Tokens.{Tok, Placed}
use Rattle.syntax.specs.Trees.{Literal, Variable, Group, Assign, Let, Bounded, Ref, Read, Call, Arith, If}
use Rattle.syntax.specs.Sorts.{at}
use Rattle.syntax.specs.Starts.{Fronted, Begins}

fronted : (p : ℕ) (t : Tok) (ts m : List Placed) → ts ≡ at p t ∷ m → Fronted ts p
fronted p t ts m e = record { first = at p t; later = m; split = e; place = refl }

pub starting : Begins
starting (Literal x) ts m s = fronted x.place _ ts m s
starting (Variable x) ts m s = fronted x.place _ ts m s
starting (Group n e) ts m (i, j, s) = fronted n _ ts i s.0
starting (Assign n a b c) ts m (i, j, k, l, o, x, s) = fronted n _ ts i s.0
starting (Let n vals e) ts m (h, i, j, k, l, s) = fronted n _ ts h s.0
starting (Bounded e x) ts m (i, s) = starting e ts i s.1
starting (Ref n e) ts m (i, s) = fronted n _ ts i s.0
starting (Read n e) ts m (i, s) = fronted n _ ts i s.0
starting (Call f args) ts m (i, j, k, s) = fronted f.place _ ts i s.0
starting (Arith a n o b) ts m (i, j, s) = starting a ts i s.1
starting (If n a b c d) ts m (h, i, j, k, l, o, x, s) = fronted n _ ts h s.0
