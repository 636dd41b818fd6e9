use Rattle.std.proofs.Common.{◌+◌, Some, refl, sym, subst}
use Rattle.elastic_grow.specs.Stores.{AreKept}
use Rattle.elastic_grow.proofs.Kept.{one_kept}
use Rattle.elastic_grow.proofs.copies.of_one.Goals as goal

pub loop-id-preserved : goal.loop-id-preserved
loop-id-preserved c =
    subst (AreKept c.args.shape (λ j. Some c.args.whole.now) (c.loop-id.id + 1)) (sym c.in_ok-push.ensures.ok)
    (one_kept c.args.shape (λ j. Some c.args.whole.now) c.loop-id.id c.loop-id.kept c.args.whole.now
    c.in_ok-kept_copy.field-0 c.loop-id.invariant refl c.in_ok-kept_copy.ensures)
