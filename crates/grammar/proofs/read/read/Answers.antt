use Rattle.std.proofs.Common.{map, length, sym, ap, ◌∙◌}
use Rattle.std.proofs.lemmas.Result.{err_from_is_err_and}
use Rattle.tokens.specs.Lexer.{read, lexed}
use Rattle.tokens.specs.Meanings.{placed}
use Rattle.pieces.specs.Seen.{seen}
use Rattle.grammar.proofs.Whole.{some_reading, only_reading, lex_refused, text_read}
use Rattle.grammar.proofs.read.read.Goals as goal

pub returns-in_err-tokens : goal.returns-in_err-tokens
returns-in_err-tokens c =
    let text = c.args.text.now in
    let p = err_from_is_err_and c.from_residual.result c.from_residual.ensures.1 in
    record {
      answer = rw (p.1, p.2) (lex_refused (length text) (lexed text) c.in_err-tokens.field-0.0 c.in_err-tokens.ensures.answer);
      some = some_reading (length text) (lexed text);
      only = only_reading (length text) (lexed text);
    }

pub returns : goal.returns
returns c =
    let text = c.args.text.now in
    record {
      answer = text_read (length text) (seen c.as_slice.result) (lexed text) c.parse.result (c.in_ok-tokens.ensures.answer ∙ ap (λ l. read (map placed l)) (sym c.as_slice.ensures.value)) c.parse.ensures.answer;
      some = some_reading (length text) (lexed text);
      only = only_reading (length text) (lexed text);
    }
