use Rattle.std.proofs.Common.{subst}
use Rattle.actor_core.specs.Standing.{GoesOn}
use Rattle.actor_core.specs.Elements.{IsSomeAt}
use Rattle.link_trace.specs.States.{state_of}
use Rattle.link_trace.specs.Worlds.{cores_of}
use Rattle.link_trace.proofs.WorldAnswer.{still_is_done}
use Rattle.link_trace.proofs.world.World.done.Goals as goal

pub returns-clause-still : goal.returns-clause-still
returns-clause-still c task lists is_task stands still =
    still_is_done task (state_of c.args.self.now) lists stands still c.quiet_is_finished.ensures is_task
    c.all_are_over.result
    (λ goes. subst (λ places. IsSomeAt GoesOn (cores_of places)) c.deref.ensures.value
    (c.all_are_over.ensures.goes_on goes))
