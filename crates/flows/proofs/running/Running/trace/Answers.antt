use Rattle.std.proofs.Common.{◌≡◌, ℕ, ◌+◌, List, [], ◌∷◌, ◌++◌, length, set, vec_items, sym, refl, ap, ◌∙◌, subst, arith}
use Rattle.std.proofs.lemmas.List.{length_push}
use Rattle.flows.specs.Bounds.{Unbroken, Lowest}
use Rattle.flows.specs.Explaining.{Breaks, at_rise, written}
use Rattle.flows.specs.Flows.{held}
use Rattle.flows.specs.Pending.{pending}
use Rattle.flows.specs.Runs.{begins}
use Rattle.flows.proofs.Built.{few}
use Rattle.flows.proofs.Explained.{written_push}
use Rattle.flows.proofs.Flags.{few_wait}
use Rattle.flows.proofs.Loop.{holds, oldest, goes_on, across, turn_rises_few, turn, turn_falls, renamed}
use Rattle.flows.proofs.Queues.{rest_known}
use Rattle.flows.proofs.running.Running.trace.Goals as goal

-- a number more is noted
noted : (risen : List ℕ) (rises number : ℕ) (list list' list'' : List ℕ) → rises ≡ length risen → list' ≡ written risen list → list'' ≡ set list' rises number → list'' ≡ written (risen ++ number ∷ []) list
noted risen rises number list list' list'' counted listed is =
    is ∙ (λ i. set (listed i) (counted i) number) ∙ sym (written_push risen number list)

pub loop-number-init : goal.loop-number-init
loop-number-init g c = record { continues = record { network = refl; values = refl; queue = refl }; evaluations = 0; risen = []; run = begins; unbroken = c.requires; counted = refl; listed = refl }

pub invariant_of-self : goal.invariant_of-self
invariant_of-self g c =
    let r = c.loop-number.self in
    record { room = r.room; known = rest_known _ _ _ c.pop.result c.pop.ensures r.known }

pub evaluate-requires : goal.evaluate-requires
evaluate-requires g c = oldest c.loop-number.self c.in-Some.number _ c.in-Some.ensures

pub overflow_add-rises : goal.overflow_add-rises
overflow_add-rises g c =
    let now = c.loop-number.invariant in
    omega (arith, now.counted, turn_rises_few g.K.Kind g.met.K.Kind.lawful _ _ _ (holds c.args.self.now) g.met.K.Kind.limits.low (few c.args.self.now.network.now) (few_wait c.args.self.now.queue.now) _ _ _ _ now.run)

pub loop-number-smaller-in_default-first_broken : goal.loop-number-smaller-in_default-first_broken
loop-number-smaller-in_default-first_broken g c =
    let now = c.loop-number.invariant in
    turn_falls g.K.Kind g.met.K.Kind.lawful _ _ _ (holds c.args.self.now) _ _ _ _ _ _ _ _ _ now.run c.in-Some.ensures
    (across g.K.Kind c.evaluate.ensures.evaluates (ap (λ n. vec_items n.now.flows) now.continues.network))

pub loop-number-preserved-in_default-first_broken : goal.loop-number-preserved-in_default-first_broken
loop-number-preserved-in_default-first_broken g c =
    let now = c.loop-number.invariant in
    let rose = c.if-evaluate.ensures in
    record {
      continues = goes_on now.continues refl refl refl rose.continues;
      evaluations = now.evaluations + 1;
      risen = now.risen ++ c.in-Some.number ∷ [];
      run = turn g.K.Kind g.met.K.Kind.lawful _ _ _ (holds c.args.self.now) _ _ _ _ _ _ _ _ _ now.run c.in-Some.ensures
          (across g.K.Kind rose.evaluates (ap (λ n. vec_items n.now.flows) now.continues.network));
      unbroken = subst (λ n. Unbroken g.K.Kind (vec_items n.now.bounds) (held g.K.Kind c.evaluate.new.self.values.now)) (rose.continues.network ∙ now.continues.network) c.in_default-first_broken.ensures;
      counted = omega (arith, now.counted, length_push now.risen c.in-Some.number);
      listed = noted _ _ _ _ _ _ now.counted now.listed c.note.ensures;
    }

pub loop-number-preserved : goal.loop-number-preserved
loop-number-preserved g c =
    let now = c.loop-number.invariant in
    let met = c.if-evaluate.ensures in
    record {
      continues = goes_on now.continues refl refl refl met.continues;
      evaluations = now.evaluations + 1;
      risen = now.risen;
      run = turn g.K.Kind g.met.K.Kind.lawful _ _ _ (holds c.args.self.now) _ _ _ _ _ _ _ _ _ now.run c.in-Some.ensures
          (across g.K.Kind met.evaluates (ap (λ n. vec_items n.now.flows) now.continues.network));
      unbroken = subst (λ vs. Unbroken g.K.Kind (vec_items c.args.self.now.network.now.bounds) (held g.K.Kind vs)) (sym met.evaluates.after) now.unbroken;
      counted = now.counted;
      listed = now.listed;
    }

pub returns-in-Some-first_broken : goal.returns-in-Some-first_broken
returns-in-Some-first_broken g c =
    let kind = g.K.Kind in
    let start = c.args.self.now in
    let flows = vec_items start.network.now.flows in
    let bounds = vec_items start.network.now.bounds in
    let b = c.in-Some-first_broken.bound in
    let now = c.loop-number.invariant in
    let rose = c.if-evaluate.ensures in
    let evaluated = across kind rose.evaluates (ap (λ n. vec_items n.now.flows) now.continues.network) in
    let found = subst (λ n. Lowest kind (vec_items n.now.bounds) (held kind c.evaluate.new.self.values.now) b) (rose.continues.network ∙ now.continues.network) c.in-Some-first_broken.ensures in
    let lowest = subst (λ vs. Lowest kind bounds (held kind vs) b) evaluated.after found in
    record {
      continues = goes_on now.continues refl refl refl rose.continues;
      traced = record {
        risen = now.risen ++ c.in-Some.number ∷ [];
        run = subst (Breaks kind flows bounds start.values.now (pending start.queue.now) b (now.risen ++ c.in-Some.number ∷ [])) (sym evaluated.after)
            (at_rise (renamed kind flows _ _ _ _ _ _ _ now.run c.in-Some.ensures) now.unbroken evaluated.unmet lowest);
        counted = omega (arith, now.counted, length_push now.risen c.in-Some.number);
        listed = noted _ _ _ _ _ _ now.counted now.listed c.note.ensures;
      };
    }
