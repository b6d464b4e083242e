use Rattle.std.proofs.lemmas.Result.{err_from_is_err_and}
use Rattle.tokens.specs.Meanings.{placed}
use Rattle.pieces.specs.Seen.{seen}
use Rattle.grammar.proofs.Whole.{all_seen, front_seen, parsed_all, parsed_front, parse_refused, some_parse, only_parse}
use Rattle.grammar.proofs.read.parse.Goals as goal

pub returns-in_err-d : goal.returns-in_err-d
returns-in_err-d c =
    let p = err_from_is_err_and c.from_residual.result c.from_residual.ensures.1 in
    record {
      answer = rw (p.1, p.2) (parse_refused c.args.end (seen c.args.ts) c.in_err-d.field-0.0 c.in_err-d.ensures);
      some = some_parse c.args.end (seen c.args.ts);
      only = only_parse c.args.end (seen c.args.ts);
    }

pub returns-in-None : goal.returns-in-None
returns-in-None c = record {
  answer = parsed_all c.args.end (seen c.args.ts) (c.in_ok-d.d, c.dec.new.reader.rest) c.in_ok-d.ensures (all_seen c.dec.new.reader.rest.now c.in-None.ensures.value);
  some = some_parse c.args.end (seen c.args.ts);
  only = only_parse c.args.end (seen c.args.ts);
}

pub returns : goal.returns
returns c = record {
  answer = let (more, front) = front_seen c.dec.new.reader.rest.now c.in-Some.token.now c.in-Some.ensures.value in
      parsed_front c.args.end (seen c.args.ts) (c.in_ok-d.d, c.dec.new.reader.rest) (placed c.in-Some.token.now) more c.in_ok-d.ensures front;
  some = some_parse c.args.end (seen c.args.ts);
  only = only_parse c.args.end (seen c.args.ts);
}
