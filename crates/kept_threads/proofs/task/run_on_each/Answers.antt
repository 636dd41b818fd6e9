use borrow.Author.Count.{below_more}
use Rattle.std.proofs.Common.{◌∙◌, ◌<◌, ℕ, sym, subst, length, set, slice_index_or, arith}
use Rattle.std.proofs.lemmas.List.{get_or-set_same, get_or-set_other, get_or_default}
use Rattle.kept_threads.proofs.task.run_on_each.Goals as goal

pub loop-place-preserved : goal.loop-place-preserved
loop-place-preserved g c =
    let k = c.loop-place.place in
    let xs = c.args.items.now in
    let ys = c.loop-place.items in
    let y = c.run_on.new.item in
    let R : g.row.T.Denot → g.row.T.Denot → Type 0 = g.W.Task.changes in
    let l : k < length ys = omega arith in (
      λ j d h. get_or-set_other ys k j y d (λ e. omega arith) ∙ c.loop-place.invariant.0 j d (omega arith),
      λ j d h. below_more (λ i. R (slice_index_or xs i d) (slice_index_or (set ys k y) i d)) k
          (λ i u. subst (R (slice_index_or xs i d)) (sym (get_or-set_other ys k i y d (λ e. omega arith)))
          (c.loop-place.invariant.1 i d u))
          (subst (R (slice_index_or xs k d)) (sym (get_or-set_same ys k y d l))
          (subst (λ x. R x y) (get_or_default ys k _ d l ∙ c.loop-place.invariant.0 k d (omega arith))
          c.run_on.ensures))
          j h,
    )
