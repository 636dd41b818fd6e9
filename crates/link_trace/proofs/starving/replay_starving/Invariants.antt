use Rattle.link_trace.specs.Marks.{AreMarked}
use Rattle.link_trace.specs.Order.{Drives, slots_of}
use Rattle.link_trace.specs.Starving.{MakesStarving}
use Rattle.link_trace.specs.States.{state_of}
use Rattle.link_trace.proofs.starving.replay_starving.Given as goal

abbrev pub invariant-loop-events : goal.invariant-loop-events
invariant-loop-events l =
    let slots = slots_of l.setting in
    record {
      drives : Drives (λ n old new. MakesStarving l.starved slots old new) (state_of l.initial.world) l.events
          (state_of l.world);
      marked : AreMarked slots l.marks.items (state_of l.world);
    }
