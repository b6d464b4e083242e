use Rattle.tokens.proofs.Refusing.{run_refused}
use Rattle.tokens.proofs.laws.lexer_refuses.Goals as goal

pub returns : goal.returns
returns c = run_refused
