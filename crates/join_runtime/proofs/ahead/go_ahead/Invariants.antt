use Rattle.std.proofs.Common.{◌≡◌, map}
use Rattle.join_runtime.specs.Turns.{AllStep}
use Rattle.join_runtime.specs.Views.{frame_of}
use Rattle.join_runtime.proofs.ahead.go_ahead.Given as goal

abbrev pub invariant-loop : goal.invariant-loop
invariant-loop g l = record {
  steps : AllStep l.initial.seats l.seats;
  frames : map frame_of l.seats ≡ map frame_of l.initial.seats;
}
