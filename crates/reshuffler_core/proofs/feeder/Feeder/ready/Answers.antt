use Rattle.std.proofs.Common.{◌<◌, ◌∷◌, sym, ap, ◌∙◌, drop, length}
use Rattle.std.proofs.Math.Seq.{drop-cons}
use Rattle.reshuffler_core.specs.Standing.{FeederState}
use Rattle.reshuffler_core.proofs.feeder.Feeder.ready.Goals as goal

pub returns-then-can_take : goal.returns-then-can_take
returns-then-can_take c =
    let m = c.in_ok-first.field-0.now in
    let held = c.self.inside.held.items in
    let some : 0 < length held = c.in_ok-first.ensures.item.3.0 in
    record {
      rest = drop 1 held;
      first = sym (ap (λ (s : FeederState). s.held) c.self.view_is) ∙ drop-cons held 0 m some
          ∙ ap (λ x. x ∷ drop 1 held) (sym c.in_ok-first.ensures.lookup);
      takes = c.can_take.ensures.0 c.if-can_take.true;
    }
