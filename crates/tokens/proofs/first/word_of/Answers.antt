use Rattle.std.proofs.Common.{sym, ◌∙◌}
use Rattle.std.proofs.lemmas.Bool.{false≢true}
use Rattle.tokens.specs.Finding.{reserved}
use Rattle.tokens.proofs.Words.{word_passed}
use Rattle.tokens.proofs.first.word_of.Goals as goal

pub loop-word-preserved : goal.loop-word-preserved
loop-word-preserved c =
    sym (word_passed reserved c.loop-word.word-index _ c.args.run.now _ c.loop-word-test.true (c.as_bytes.ensures.value ∙ c.text.ensures) (λ same. false≢true (c.if-same_bytes.ensures.1 same)))
    ∙ c.loop-word.invariant
