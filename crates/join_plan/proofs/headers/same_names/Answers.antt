use Rattle.std.proofs.Common.{arith, sym, ◌∙◌}
use Rattle.join_plan.proofs.HeaderLemmas.{not_true, names_differ, names_part, names_same}
use Rattle.join_plan.proofs.headers.same_names.Goals as goal

pub returns-then-one-other : goal.returns-then-one-other
returns-then-one-other c = names_differ c.args.one.now c.args.other.now (λ e. omega (arith, c.if-one-other.true, e))

pub returns-then-ne : goal.returns-then-ne
returns-then-ne c =
    names_part c.args.one.now c.args.other.now c.loop-place.place c.index-one-place.result c.index-other-place.result
    c.loop-place-test.true c.loop-place.invariant.long
    (rw (
      ← c.index-one-place.is,
      ← c.index-other-place.is,
      ← c.as_slice.ensures,
      ← c.as_slice-in-loop-place.ensures,
    ) (not_true _ (sym c.if-ne.true ∙ c.ne.ensures)))

pub returns : goal.returns
returns c = names_same c.args.one.now c.args.other.now c.loop-place.invariant.long
    (λ i below. c.loop-place.invariant.same i (omega (arith, below, c.loop-place-test.false)))
