use Rattle.std.proofs.Common.{◌≡◌, ℕ, ◌+◌, ◌≤◌, List, map, length, drop, Some, vec_items, sym, refl, ap, ◌∙◌, subst, inl, inr, arith, rules}
use Rattle.std.proofs.lemmas.List.{take_rest, map_push}
use Rattle.std.proofs.lemmas.Result.{err_from_is_err_and}
use Rattle.std.specs.Option.{ok_or}
use Rattle.refusals.specs.Refusals.{longest_text}
use Rattle.refusals.specs.declared.refusal.Refusal.TheVariants.{NoToken}
use Rattle.tokens.specs.Meanings.{placed, meaning}
use Rattle.tokens.specs.Finding.{token_at}
use Rattle.tokens.specs.Found.{found_as}
use Rattle.tokens.specs.Lexer.{Lexed, scan, lexed}
use Rattle.tokens.specs.Answers.{refusal_of}
use Rattle.tokens.proofs.Scanning.{lexed_lawful, lexed_only}
use Rattle.tokens.proofs.Turns.{Sofar, turn_blank, turn_stop, turn_within, turn_token, turn_end, lexed_scan}
use Rattle.tokens.proofs.lex.lex.Goals as goal

-- the computed answer, from that of the scan
computed : (text : List ℕ) (l : Lexed) → length text ≤ longest_text → scan 0 0 text ≡ l → lexed text ≡ l
computed text l short e = lexed_scan text short ∙ e

pub loop-place-preserved-then-is_blank : goal.loop-place-preserved-then-is_blank
loop-place-preserved-then-is_blank c =
    turn_blank c.args.text.now _ c.loop-place.place c.loop-place.invariant c.loop-place-test.true (sym c.if-is_blank.ensures)

pub returns-in_err-found : goal.returns-in_err-found
returns-in_err-found c =
    let none = ap found_as (sym c.in_err-found.ensures.ok_part) ∙ c.token_at.ensures in
    let told = computed c.args.text.now _ (omega arith) (turn_stop c.args.text.now _ c.loop-place.place c.loop-place.invariant c.loop-place-test.true (sym c.if-is_blank.ensures) (ap token_at (sym (take_rest c.args.text.now c.loop-place.place)) ∙ sym none)) in
    let passed = c.in_err-found.ensures.value ∙ ap (λ o. ok_or o (NoToken c.loop-place.place)) c.in_err-found.ensures.ok_part in
    let same : c.in_err-found.field-0.0 ≡ NoToken c.loop-place.place = cc passed in
    let p = err_from_is_err_and c.from_residual.result c.from_residual.ensures.1 in
    rw (p.1, p.2) (record { answer = inr (ap refusal_of told ∙ ap Some (sym same)); law = lexed_lawful c.args.text.now; only = lexed_only c.args.text.now })

pub returns-in_err-push : goal.returns-in_err-push
returns-in_err-push c =
    let p = err_from_is_err_and c.from_residual-in_err-push.result c.from_residual-in_err-push.ensures.1 in rw (p.1, p.2) (record { answer = inl refl; law = lexed_lawful c.args.text.now; only = lexed_only c.args.text.now })

-- what was found
found : (c : goal.In_ok-push) → token_at (drop c.loop-place.place c.args.text.now) ≡ Some (record { size = c.in_ok-found.found.len; tok = meaning c.in_ok-found.found.kind })
found c = ap token_at (sym (take_rest c.args.text.now c.loop-place.place)) ∙ sym (ap found_as (sym c.in_ok-found.ensures.ok_part) ∙ c.token_at.ensures)

within : (c : goal.In_ok-push) → (1 ≤ c.in_ok-found.found.len) × (c.loop-place.place + c.in_ok-found.found.len ≤ length c.args.text.now)
within c = turn_within c.args.text.now _ c.loop-place.place c.loop-place.invariant _ (found c)

pub overflow_add-place-else-is_blank : goal.overflow_add-place-else-is_blank
overflow_add-place-else-is_blank c = let h = within c in search rules

pub loop-place-smaller : goal.loop-place-smaller
loop-place-smaller c = omega (arith, (within c).0, (within c).1)

pub loop-place-preserved : goal.loop-place-preserved
loop-place-preserved c =
    subst (λ ts. Sofar c.args.text.now ts (c.loop-place.place + c.in_ok-found.found.len)) (sym (ap (map placed) c.in_ok-push.ensures.items ∙ map_push placed (vec_items c.loop-place.tokens) _))
    (turn_token c.args.text.now _ c.loop-place.place c.loop-place.invariant _ (found c))

pub returns : goal.returns
returns c =
    let told = computed c.args.text.now _ (omega arith) (turn_end c.args.text.now _ c.loop-place.place c.loop-place.invariant c.loop-place-test.false) in
    record { answer = told; law = lexed_lawful c.args.text.now; only = lexed_only c.args.text.now }
