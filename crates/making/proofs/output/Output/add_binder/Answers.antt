use Rattle.std.proofs.Common.{[], ◌∷◌, refl, arith}
use Rattle.making.proofs.Bounding.{binder_held}
use Rattle.making.proofs.Keeping.{longer_same}
use Rattle.making.proofs.output.Output.add_binder.Goals as goal

pub returns-then-len-lt-MOST_BINDERS : goal.returns-then-len-lt-MOST_BINDERS
returns-then-len-lt-MOST_BINDERS c base b e =
    record {
      agrees = λ m h. (
        tt,
        _,
        refl,
        refl,
        binder_held base c.args.self.now _ m b c.args.binder refl refl refl refl c.saturating_add-self.ensures
            (λ _. c.push_reserved.ensures.items) (c.args.binder ∷ [], c.push_reserved.ensures.items) e h,
      );
    }

pub returns-else-len-lt-MOST_BINDERS : goal.returns-else-len-lt-MOST_BINDERS
returns-else-len-lt-MOST_BINDERS c base b e =
    record {
      agrees = λ m h. (
        tt,
        _,
        refl,
        refl,
        binder_held base c.args.self.now _ m b c.args.binder refl refl refl refl c.saturating_add-self.ensures
            (λ l. let long = c.args.self.now.binders.ok.0 in let n = c.len.ensures in absurd (omega arith)) (longer_same _ _ refl) e h,
      );
    }
