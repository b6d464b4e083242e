use Rattle.std.proofs.Common.{◌≡◌, drop}
use Rattle.tokens.specs.Finding.{reserved, first_word, word_of}
use Rattle.tokens.proofs.first.word_of.Given as goal

abbrev pub invariant-loop-word : goal.invariant-loop-word
invariant-loop-word l = first_word (drop l.word-index reserved) l.run ≡ word_of l.run
