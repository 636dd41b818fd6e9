use Rattle.std.proofs.Common.{◌≡◌}
use Rattle.join_runtime.specs.Turns.{Steps}
use Rattle.join_runtime.specs.Views.{frame_of}
use Rattle.join_runtime.proofs.seat.Seat.turns_ahead.Given as goal

abbrev pub invariant-loop-round : goal.invariant-loop-round
invariant-loop-round g l = record {
  steps : Steps l.initial.self l.self;
  frame : frame_of l.self ≡ frame_of l.initial.self;
}
