use Rattle.std.specs.Prelude.{List}
use Rattle.epoch_tags.specs.declared.tuple.Pair.{Pair}
use Rattle.epoch_tags.specs.declared.message.Post.{Post}
use Rattle.joiner_core.specs.Machine.{state_of, Advances, IsSound, AreTried}
use Rattle.joiner_core.specs.Outcomes.{Does}
use Rattle.joiner_core.specs.Calls.{held_in_all, takes_all_held}
use Rattle.joiner_core.specs.State.{MachineState}
use Rattle.joiner_core.proofs.machine.Machine.take_held.Given as goal

abbrev pub invariant-trial : goal.invariant-trial
invariant-trial l =
    record {
      sound : IsSound (state_of l.self);
      took : Advances (state_of l.fn.self) (state_of l.self) l.fn.found l.found l.fn.sends l.sends;
      tried : (last : MachineState) → AreTried (state_of l.self) last → AreTried (state_of l.fn.self) last;
      does : (last : MachineState) (waiting : List Pair) (posts : List Post)
          → Does (takes_all_held (state_of l.self)) last l.found waiting l.sends posts
          → Does (takes_all_held (state_of l.fn.self)) last l.fn.found waiting l.fn.sends posts;
    }

abbrev pub decreases-trial : goal.decreases-trial
decreases-trial l = held_in_all (state_of l.self)
