use Rattle.std.proofs.Common.{◌∙◌}
use Rattle.elastic_grow.proofs.OneStore.{with_next}
use Rattle.elastic_grow.proofs.whole.add_all.Goals as goal

pub loop-tuple-preserved : goal.loop-tuple-preserved
loop-tuple-preserved c =
    c.in_ok-add.ensures.ok
    ∙ with_next c.args.store.now c.loop-tuple.store c.loop-tuple.yielded c.in-Some.tuple c.loop-tuple.invariant
