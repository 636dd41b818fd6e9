use Rattle.std.proofs.Common.{◌≡◌, ◌+◌, ◌%◌, subst, length, slice_index_or, Some, arith}
use Rattle.std.specs.Prelude.{slice_get}
use Rattle.std.proofs.lemmas.Nat.{mod_below}
use Rattle.std.proofs.lemmas.Option.{slice_get-get_or}
use Rattle.link_trace.specs.declared.slots.Slot.TheVariants.{Begin}
use Rattle.link_trace.specs.States.{state_of}
use Rattle.link_trace.specs.Order.{Happens}
use Rattle.link_trace.proofs.AllSlots.{idle_round}
use Rattle.link_trace.proofs.first_ready.make_first.Goals as goal

pub returns-then-branch-clause-made : goal.returns-then-branch-clause-made
returns-then-branch-clause-made c =
    let slots = c.args.slots.now in
    let low = c.loop-i-test.true in
    let at = (c.args.word + c.loop-i.i) % length slots in
    let slot = slice_index_or slots at (Begin 0) in
    let there : slice_get slots at ≡ Some slot = slice_get-get_or slots at (Begin 0)
    (mod_below (c.args.word + c.loop-i.i) (length slots) (omega arith)) in
    record {
      skipped = c.loop-i.i;
      slot = slot;
      once = c.loop-i-test.true;
      idle = c.loop-i.invariant.idle;
      there = there;
      happens = subst (λ w. Happens slot w (state_of c.make_at.new.world)) c.loop-i.invariant.same
          (c.in_ok-make_at.ensures.made (search) slot there);
    }

pub unreachable-requires : goal.unreachable-requires
unreachable-requires c =
    let all = c.loop-i-test.false in
    c.requires.ready (idle_round c.args.slots.now c.args.word (state_of c.args.world.now)
    (λ i slot low there. c.loop-i.invariant.idle i slot (omega arith) there))
