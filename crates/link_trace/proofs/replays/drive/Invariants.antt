use Rattle.link_trace.specs.Order.{slots_of}
use Rattle.link_trace.specs.States.{state_of}
use Rattle.link_trace.proofs.ReplayLoop.{IsUnderWay}
use Rattle.link_trace.proofs.replays.drive.Given as goal

abbrev pub invariant-loop : goal.invariant-loop
invariant-loop g l = IsUnderWay (slots_of l.setting) l.fn.seed (state_of l.initial.world) l.marks.items l.draws
    l.events (state_of l.world)
