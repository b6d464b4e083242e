use Rattle.std.proofs.Common.{◌-◌, map, length, vec_items}
use Rattle.tokens.specs.Meanings.{placed}
use Rattle.tokens.proofs.Turns.{Sofar}
use Rattle.tokens.proofs.lex.lex.Given as goal

abbrev pub invariant-loop-place : goal.invariant-loop-place
invariant-loop-place l = Sofar l.text (map placed (vec_items l.tokens)) l.place

abbrev pub decreases-loop-place : goal.decreases-loop-place
decreases-loop-place l = length l.text - l.place
