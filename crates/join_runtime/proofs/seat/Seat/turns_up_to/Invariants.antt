use Rattle.std.proofs.Common.{◌≡◌}
use Rattle.actor_core.specs.Players.{Runs}
use Rattle.join_runtime.specs.Views.{player}
use Rattle.join_runtime.specs.Turns.{KeepsEnds}
use Rattle.join_runtime.proofs.seat.Seat.turns_up_to.Given as goal

abbrev pub invariant-loop-round : goal.invariant-loop-round
invariant-loop-round g l = record {
  runs : Runs l.round (player l.initial.self) (player l.self);
  ends : KeepsEnds l.initial.self l.self;
  none : l.round ≡ 0 → l.self ≡ l.initial.self;
}
