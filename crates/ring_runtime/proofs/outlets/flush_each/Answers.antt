use Rattle.std.proofs.Common.{◌<◌, sym, subst}
use Rattle.ring_runtime.proofs.FlushedRows.{flushed_went, flushed_stayed}
use Rattle.ring_runtime.proofs.outlets.flush_each.Goals.{then-flush_at, else-flush_at}
use Rattle.ring_runtime.proofs.outlets.flush_each.Goals as goal

pub loop-place-preserved : goal.loop-place-preserved
loop-place-preserved c = elim c.if-flush_at.branch [
  | then-flush_at w ↦
      rw w.moved-is
      (flushed_went c.loop-place.place c.args.slots.now c.loop-place.slots c.index-slots-place.result
      c.flush_at.new.slot (subst (λ n. c.loop-place.place < n) (sym c.loop-place.invariant.long)
      c.loop-place-test.true)
      c.flush_at.ensures.same c.flush_at.ensures.ring c.loop-place.moved c.loop-place.invariant
      (c.flush_at.ensures.moved w.if-flush_at.true))
  | else-flush_at w ↦
      rw w.moved-is
      (flushed_stayed c.loop-place.place c.args.slots.now c.loop-place.slots c.index-slots-place.result
      c.flush_at.new.slot (subst (λ n. c.loop-place.place < n) (sym c.loop-place.invariant.long)
      c.loop-place-test.true)
      c.flush_at.ensures.same c.flush_at.ensures.ring c.loop-place.moved c.loop-place.invariant
      (c.flush_at.ensures.still w.if-flush_at.false) (c.flush_at.ensures.stuck w.if-flush_at.false))
]
