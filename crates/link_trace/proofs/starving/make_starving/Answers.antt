use Rattle.std.proofs.Common.{subst}
use Rattle.actor_core.specs.Elements.{IsAllAt}
use Rattle.link_trace.specs.States.{state_of}
use Rattle.link_trace.specs.Order.{IsIdle}
use Rattle.link_trace.proofs.AllSlots.{idle_below}
use Rattle.link_trace.proofs.starving.make_starving.Goals as goal

pub unreachable-requires : goal.unreachable-requires
unreachable-requires c =
    let same = c.in_ok-make_least.ensures.stays (search) in
    c.requires.ready
    (subst (λ w. IsAllAt (IsIdle w) c.args.slots.now) same (idle_below c.args.slots.now c.args.starved
    (state_of c.make_least.new.world) (c.in_ok-make_least-2.ensures.idle (search))))
