use Rattle.std.proofs.Common.{◌≡◌, subst, slice_index_or, Some}
use Rattle.std.specs.Prelude.{slice_get}
use Rattle.std.proofs.lemmas.Option.{slice_get-get_or}
use Rattle.link_trace.specs.declared.slots.Slot.TheVariants.{Begin}
use Rattle.link_trace.specs.States.{state_of}
use Rattle.link_trace.specs.Order.{Happens}
use Rattle.link_trace.proofs.starving.make_least.Goals as goal

pub returns-then-branch-clause-made : goal.returns-then-branch-clause-made
returns-then-branch-clause-made c same =
    let slots = c.args.slots.now in
    let at = c.loop-at.at in
    let slot = slice_index_or slots at (Begin 0) in
    let there : slice_get slots at ≡ Some slot = slice_get-get_or slots at (Begin 0) c.loop-at-test.true in
    record {
      place = at;
      slot = slot;
      there = there;
      may = c.in_ok-make_allowed.ensures.may (search) slot there;
      idle = c.loop-at.invariant.idle;
      happens = subst (λ w. Happens slot w (state_of c.make_allowed.new.world)) c.loop-at.invariant.same
          (c.in_ok-make_allowed.ensures.made (search) slot there);
    }
